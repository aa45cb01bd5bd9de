-- A whole run in one call: its operations written as bytes, its answers as words.
use Rattle.std.specs.Prelude.{ℕ, ◌+◌, ◌*◌, ◌/◌, ◌%◌, ◌≤◌, ◌<◌, ◌≡◌, Bool, true, false, cond, ◌&&◌, List, [], ◌∷◌, ◌++◌, length, take, drop, eqb, leb}
use Rattle.common.specs.Lists.{some}
use Rattle.common.specs.Bytes.{Bytes}
use Rattle.serial.specs.Port.{Port}
use Rattle.serial.specs.Layout.{port_of}
use Rattle.common.specs.Answer.{refused_bit, one_raise}
use Rattle.serial.specs.Calls.{tells, sent_word, SparesKept, Answers}
use Rattle.runs.specs.Run.{Op, read, write, input, room, Answer, replied, sent, took, full, has_room, step, run}

-- ---- Operations

-- Three bytes an operation, its kind first:
--   0 offset any       read
--   1 offset value     write
--   2 low high         input of low + 256 * high bytes
--   3 any any          room
-- The bytes of the inputs lie one behind another in a list of their own, and none is left over.
abbrev pub input_bytes : ℕ → ℕ → ℕ → ℕ
input_bytes kind low high = cond (eqb kind 2) (low + 256 * high) 0

abbrev pub op_of : ℕ → ℕ → ℕ → List ℕ → Op
op_of kind a b bytes = cond (eqb kind 0) (read a) (cond (eqb kind 1) (write a b) (cond (eqb kind 2) (input bytes) room))

pub data Decoded : Type 0 where
  malformed : Decoded
  asks : List Op → Decoded

abbrev pub before : Op → Decoded → Decoded
before o malformed = malformed
before o (asks os) = asks (o ∷ os)

unfoldable pub decode : List ℕ → List ℕ → Decoded
decode [] inputs = cond (some inputs) malformed (asks [])
decode (kind ∷ []) inputs = malformed
decode (kind ∷ a ∷ []) inputs = malformed
decode (kind ∷ a ∷ b ∷ rest) inputs =
    let n = input_bytes kind a b in
    cond (leb kind 3 && leb n (length inputs)) (before (op_of kind a b (take n inputs)) (decode rest (drop n inputs))) malformed

-- A run so written. An input of 65,536 bytes or more has no two bytes for its length.
abbrev pub encode_op : Op → List ℕ
encode_op (read offset) = 0 ∷ offset ∷ 0 ∷ []
encode_op (write offset value) = 1 ∷ offset ∷ value ∷ []
encode_op (input bytes) = 2 ∷ length bytes % 256 ∷ length bytes / 256 ∷ []
encode_op room = 3 ∷ 0 ∷ 0 ∷ []

abbrev pub encode : List Op → List ℕ
encode [] = []
encode (o ∷ os) = encode_op o ++ encode os

abbrev pub offered : Op → List ℕ
offered (read offset) = []
offered (write offset value) = []
offered (input bytes) = bytes
offered room = []

abbrev pub all_offered : List Op → List ℕ
all_offered [] = []
all_offered (o ∷ os) = offered o ++ all_offered os

-- The operations that can be written so: offsets, values and inputs are bytes, and no input is longer than two bytes say.
abbrev pub Writable : Op → Type 0
Writable (read offset) = offset < 256
Writable (write offset value) = (offset < 256) × (value < 256)
Writable (input bytes) = (length bytes < 65536) × Bytes bytes
Writable room = Unit {0}

abbrev pub AllWritable : List Op → Type 0
AllWritable [] = Unit {0}
AllWritable (o ∷ os) = Writable o × AllWritable os

-- Some bytes are this run.
pub record WrittenAs (os : List Op) (ops inputs : List ℕ) : Type 0 where
  pub ops_bytes : Bytes ops
  pub inputs_bytes : Bytes inputs
  pub meant : decode ops inputs ≡ asks os

-- ---- Answers

-- The word that the call by itself answers: the reply, the byte sent, what else happened, the bytes taken, "full", the raises; the room.
abbrev pub word : Answer → ℕ
word (replied v e n) = v + tells e n
word (sent s e n) = sent_word s + length e.discarded + tells e n
word (took t n) = t + one_raise * n
word (full n) = refused_bit + one_raise * n
word (has_room r) = r

abbrev pub words : List Answer → List ℕ
words [] = []
words (a ∷ more) = word a ∷ words more

-- ---- The call

-- One operation: the port after it and the word that it answers.
pub record Does (p : Port) (o : Op) (p' : Port) (r : ℕ) : Type 0 where
  pub port : p' ≡ (step p o).port
  pub answer : r ≡ word (step p o).answer

-- What the call by itself promises of it: the word and the port; the bytes of the ring that do not wait after it are as they were, and so
-- is what is spare; where the port stays what it was not a byte changes.
abbrev pub Answered : Op → List ℕ → List ℕ → List ℕ → List ℕ → List ℕ → List ℕ → ℕ → Type 0
Answered o regs pos ring regs' pos' ring' r =
    let d = step (port_of regs pos ring) o in Answers regs pos ring regs' pos' ring' r d.port (word d.answer)

-- Operations one after another on the same memory, each as its own call promises, with the word of each.
pub data Calls : List ℕ → List ℕ → List ℕ → List Op → List ℕ → List ℕ → List ℕ → List ℕ → Type 0 where
  none : {regs pos ring : List ℕ} → Calls regs pos ring [] regs pos ring []
  then : {regs pos ring regs₁ pos₁ ring₁ regs' pos' ring' : List ℕ} {o : Op} {os : List Op} {r : ℕ} {rs : List ℕ}
      → Answered o regs pos ring regs₁ pos₁ ring₁ r → Calls regs₁ pos₁ ring₁ os regs' pos' ring' rs
      → Calls regs pos ring (o ∷ os) regs' pos' ring' (r ∷ rs)

-- No operation changes the port.
abbrev pub Stays : Port → List Op → Type 0
Stays p [] = Unit {0}
Stays p (o ∷ os) = ((step p o).port ≡ p) × Stays p os

-- The port is the one after the run, and the first answers are the run's.
pub record Played (p : Port) (os : List Op) (answers : List ℕ) (p' : Port) (answers' : List ℕ) (r : Bool) : Type 0 where
  pub said : r ≡ true
  pub port : p' ≡ (run p os).port
  pub answered : answers' ≡ words (run p os).answers ++ drop (length os) answers

-- Nothing has changed.
pub record Refused (regs pos ring answers regs' pos' ring' answers' : List ℕ) (r : Bool) : Type 0 where
  pub said : r ≡ false
  pub regs_stay : regs' ≡ regs
  pub pos_stay : pos' ≡ pos
  pub ring_stay : ring' ≡ ring
  pub answers_stay : answers' ≡ answers

-- What is malformed, or asks more than there is room to answer, is refused. What is played is what the single calls would have done, one
-- after another. What is spare in the memory stays, and where no operation changes the port not a byte of the memory changes. (A run may
-- come back to the port that it left and have moved the waiting bytes; and a byte that came and was read lies in the ring still.)
pub record Plays (regs pos ring ops inputs answers regs' pos' ring' answers' : List ℕ) (r : Bool) : Type 0 where
  pub plays : (os : List Op) → decode ops inputs ≡ asks os → length os ≤ length answers
      → Played (port_of regs pos ring) os answers (port_of regs' pos' ring') answers' r
  pub by_calls : (os : List Op) → decode ops inputs ≡ asks os → length os ≤ length answers
      → Calls regs pos ring os regs' pos' ring' (take (length os) answers')
  pub too_many : (os : List Op) → decode ops inputs ≡ asks os → length answers < length os
      → Refused regs pos ring answers regs' pos' ring' answers' r
  pub no_run : decode ops inputs ≡ malformed → Refused regs pos ring answers regs' pos' ring' answers' r
  pub spares_kept : SparesKept regs pos regs' pos'
  pub unchanged_if_same_port : (os : List Op) → decode ops inputs ≡ asks os → Stays (port_of regs pos ring) os
      → (regs' ≡ regs) × ((pos' ≡ pos) × (ring' ≡ ring))

-- It is a run.
abbrev pub is_run : Decoded → Bool
is_run malformed = false
is_run (asks os) = true
