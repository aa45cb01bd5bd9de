-- The device's clock beside the chip's: what a state of the device is on the chip, when a call agrees, and the rows of docs/DIFFERENCES.md
-- where it does not.
use Rattle.std.specs.Prelude.{ℕ, ◌+◌, ◌%◌, ◌^◌, ◌≡◌, Bool, true}
use Rattle.sidebyside.specs.Answers.{Answer, answers, refuses, Fits}
use Rattle.sidebyside.specs.Runs.{Pair}
use Rattle.clock.specs.Registers.{Clock, Register, LR, CR, register_at, Reply, says, refused, fits32, sum, shown, read_of, write_of}
use Rattle.clock.specs.Layout.{clock_after}
use Rattle.pl031.specs.Chip.{Chip, mis, ticks, Op, second, read, write, word, chip_does}
use Rattle.pl031.specs.Chip as chip

-- ---- One call of the device

-- The clock, and the host's time in seconds, of which it takes the lowest 32 bits.
pub record Timed : Type 0 where
  pub clock : Clock
  pub time : ℕ

abbrev pub now : Timed → ℕ
now t = t.time % 2 ^ 32

-- A second passes for the host. That its time jumps or goes back is nothing that the manual knows.
abbrev pub later : Timed → Timed
later t = record { clock = t.clock; time = t.time + 1 }

-- A read is answered or refused. What is no read has no answer, and stands as refused.
pub record Done : Type 0 where
  pub timed : Timed
  pub reply : Answer

abbrev pub answer_of : Reply → Answer
answer_of (says v) = answers v
answer_of refused = refuses

unfoldable pub device_does : Timed → Op → Done
device_does t second = record { timed = later t; reply = refuses }
device_does t (read offset) = record { timed = t; reply = answer_of (read_of t.clock t.time offset) }
device_does t (write offset v) = record {
  timed = record { clock = clock_after (write_of t.clock t.time offset (word v)) t.clock; time = t.time };
  reply = refuses;
}

-- ---- A state of the device, read as a state of the chip: a clock that runs, at what the device shows

unfoldable pub chip_of : Timed → Chip
chip_of t = record {
  counter = shown (now t) t.clock.ahead;
  running = true;
  lr = t.clock.lr;
  mr = t.clock.mr;
  imsc = t.clock.imsc;
  ris = t.clock.ris;
}

-- The states that runs keep to: no alarm has gone off.
pub record Sound (t : Timed) : Type 0 where
  pub quiet : t.clock.ris ≡ 0

-- ---- A call agrees

-- It looks alike from outside: the answer; and since the device signals no interrupt, the chip's does not rise.
pub record Alike (before : Chip) (d : Done) (c : chip.Out) : Type 0 where
  pub reply : Fits d.reply c.reply
  pub rise : mis before ≡ 0 → mis c.chip ≡ 0

-- And the state after it is, on the chip, the chip after it.
pub record Agrees (before : Chip) (d : Done) (c : chip.Out) : Type 0 where
  pub alike : Alike before d c
  pub next : chip_of d.timed ≡ c.chip

abbrev pub AgreesAt : Timed → Op → Type 0
AgreesAt t o = Agrees (chip_of t) (device_does t o) (chip_does (chip_of t) o)

-- ---- The rows

-- What an operation is to the device: a second, or a register read or written, by its map.
pub data Access : Type 0 where
  passes : Access
  reads : Register → Access
  writes : Register → ℕ → Access

abbrev pub access_of : Op → Access
access_of second = passes
access_of (read offset) = reads (register_at offset)
access_of (write offset v) = writes (register_at offset) (word v)

-- The sum of the host's time and what the clock is ahead of it fits 32 bits.
abbrev pub in_range : Timed → Bool
in_range t = fits32 (sum (now t) t.clock.ahead)

pub data Row (t : Timed) : Access → Type 0 where
  -- A second passes, and the sum of the host's time and what the clock is ahead of it stops to fit 32 bits, or begins to: the device goes
  -- over to the host's time, or comes back from it; the chip's counter goes on by one.
  clock_out_of_range : (in_range t ≡ in_range (later t) → ⊥) → Row t passes
  -- A second passes, and the counter comes to the match value: the chip sets the raw status, the device does nothing.
  clock_match_no_effect : (ticks (chip_of t)).counter ≡ t.clock.mr → Row t passes
  -- LR is written with the match value: the counter comes to it, too.
  clock_load_match : {v : ℕ} → v ≡ t.clock.mr → Row t (writes LR v)
  -- 1 is written to CR and the clock does not show the host's time, or LR is not 0: the chip runs on, the device goes back to the host's
  -- time and LR becomes 0.
  clock_restarts : {v : ℕ} → v ≡ 1 → (t.clock.lr ≡ 0 → (chip_of t).counter ≡ now t → ⊥) → Row t (writes CR v)

abbrev pub RowAt : Timed → Op → Type 0
RowAt t o = Row t (access_of o)

-- ---- Both side by side

abbrev pub pair : Pair
pair = record {
  Device = Timed;
  Chip = Chip;
  Op = Op;
  device_next = λ t o. (device_does t o).timed;
  device_reply = λ t o. (device_does t o).reply;
  chip_next = λ c o. (chip_does c o).chip;
  chip_reply = λ c o. (chip_does c o).reply;
  chip_of = chip_of;
  Alike = λ t c o. Alike c (device_does t o) (chip_does c o);
  Row = RowAt;
}
