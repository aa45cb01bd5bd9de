-- Runs of the serial port: the operations that the guest and the host have, what each answers, and a list of them one after the other.
use Rattle.std.specs.Prelude.{ℕ, ◌+◌, cond, List, [], ◌∷◌}
use Rattle.serial.specs.Port.{Port, Events, Out, Input, read_of, write_of, input_of, room_of}

-- The guest reads at an offset, or writes a value at an offset. The host has bytes from the line, or asks how many would be taken.
pub data Op : Type 0 where
  read : ℕ → Op
  write : ℕ → ℕ → Op
  input : List ℕ → Op
  room : Op

-- What the call answers: the reply to a read; the byte that a write sends, if it sends one; both with what else happened. How many bytes of
-- an input are taken, or that the receiver is full. The number behind it is how often the interrupt is raised. Asking for room answers the
-- room.
pub data Answer : Type 0 where
  replied : ℕ → Events → ℕ → Answer
  sent : List ℕ → Events → ℕ → Answer
  took : ℕ → ℕ → Answer
  full : ℕ → Answer
  has_room : ℕ → Answer

abbrev pub raises_of : Answer → ℕ
raises_of (replied v e n) = n
raises_of (sent s e n) = n
raises_of (took t n) = n
raises_of (full n) = n
raises_of (has_room r) = 0

-- ---- One operation: the port after it, and its answer

pub record Did : Type 0 where
  pub port : Port
  pub answer : Answer

abbrev pub did_read : Out → Did
did_read o = record { port = o.port; answer = replied o.reply o.events o.raises }

abbrev pub did_write : Out → Did
did_write o = record { port = o.port; answer = sent o.sent o.events o.raises }

abbrev pub did_input : Input → Did
did_input i = record { port = i.port; answer = cond i.full (full i.raises) (took i.taken i.raises) }

unfoldable pub step : Port → Op → Did
step p (read offset) = did_read (read_of p offset)
step p (write offset value) = did_write (write_of p offset value)
step p (input bytes) = did_input (input_of p bytes)
step p room = record { port = p; answer = has_room (room_of p) }

-- ---- A run: the port after all of them, and their answers in order

pub record Ran : Type 0 where
  pub port : Port
  pub answers : List Answer

unfoldable pub run : Port → List Op → Ran
run p [] = record { port = p; answers = [] }
run p (o ∷ os) =
    let d = step p o in
    let r = run d.port os in
    record { port = r.port; answers = d.answer ∷ r.answers }

-- How often the interrupt is raised over a run.
abbrev pub raises_in : List Answer → ℕ
raises_in [] = 0
raises_in (a ∷ more) = raises_of a + raises_in more
