-- What happened at a device, counted for its operator. The answers tell it, and the host says which bytes its sink did not take.
use Rattle.std.specs.Prelude.{ℕ, ◌+◌, ◌-◌, ◌^◌, ◌≤◌, min, ◌≡◌, Bool, true, false, cond, List, [], ◌∷◌, get_or}
use Rattle.common.specs.Answer.{refused_bit, sent_bit, data_read_bit, none_left_bit}
use Rattle.common.specs.Bits.{on}

-- ---- One counter

abbrev pub most : ℕ
most = 2 ^ 64 - 1

-- One more where it happened, and never beyond `most`.
unfoldable pub counted : ℕ → Bool → ℕ
counted n happened = cond happened (min (n + 1) most) n

-- How many of some calls tell it.
abbrev pub how_many : {Call : Type 0} → (Call → Bool) → List Call → ℕ
how_many tells [] = 0
how_many tells (call ∷ calls) = cond (tells call) 1 0 + how_many tells calls

-- What a counter comes to that so many calls count up.
abbrev pub reached : ℕ → ℕ → ℕ
reached start more = min (start + more) most

-- ---- The serial port

-- The answer to a read, a write, an input or a restore; or the sink did not take a byte that an answer had sent.
pub data Call : Type 0 where
  answered : (word : ℕ) → Call
  lost : Call

abbrev pub says : ℕ → Call → Bool
says bit (answered word) = on word bit
says bit lost = false

abbrev pub is_lost : Call → Bool
is_lost (answered word) = false
is_lost lost = true

-- RBR was read, from an empty buffer too; a byte was sent, be it lost or not; a byte was lost; RBR was read and no byte waited then.
pub record Serial : Type 0 where
  pub data_reads : ℕ
  pub sent : ℕ
  pub lost : ℕ
  pub none_left : ℕ

abbrev pub fresh_serial : Serial
fresh_serial = record { data_reads = 0; sent = 0; lost = 0; none_left = 0 }

unfoldable pub serial_after : Serial → Call → Serial
serial_after s call = record {
  data_reads = counted s.data_reads (says data_read_bit call);
  sent = counted s.sent (says sent_bit call);
  lost = counted s.lost (is_lost call);
  none_left = counted s.none_left (says none_left_bit call);
}

-- Each has grown by the calls that tell it.
abbrev pub serial_reached : Serial → List Call → Serial
serial_reached s calls = record {
  data_reads = reached s.data_reads (how_many (says data_read_bit) calls);
  sent = reached s.sent (how_many (says sent_bit) calls);
  lost = reached s.lost (how_many is_lost calls);
  none_left = reached s.none_left (how_many (says none_left_bit) calls);
}

-- ---- The clock

-- The answer to a read or to a write.
pub data ClockCall : Type 0 where
  read : (word : ℕ) → ClockCall
  write : (word : ℕ) → ClockCall

abbrev pub read_refused : ClockCall → Bool
read_refused (read word) = on word refused_bit
read_refused (write word) = false

abbrev pub write_refused : ClockCall → Bool
write_refused (read word) = false
write_refused (write word) = on word refused_bit

pub record Clock : Type 0 where
  pub invalid_reads : ℕ
  pub invalid_writes : ℕ

abbrev pub fresh_clock : Clock
fresh_clock = record { invalid_reads = 0; invalid_writes = 0 }

unfoldable pub clock_after : Clock → ClockCall → Clock
clock_after c call = record {
  invalid_reads = counted c.invalid_reads (read_refused call);
  invalid_writes = counted c.invalid_writes (write_refused call);
}

abbrev pub clock_reached : Clock → List ClockCall → Clock
clock_reached c calls = record {
  invalid_reads = reached c.invalid_reads (how_many read_refused calls);
  invalid_writes = reached c.invalid_writes (how_many write_refused calls);
}

-- ---- In the caller's memory: four numbers, and two. Any memory is some counters.

unfoldable pub serial_of : List ℕ → Serial
serial_of l = record { data_reads = get_or l 0 0; sent = get_or l 1 0; lost = get_or l 2 0; none_left = get_or l 3 0 }

unfoldable pub clock_of : List ℕ → Clock
clock_of l = record { invalid_reads = get_or l 0 0; invalid_writes = get_or l 1 0 }

-- A number in memory has 64 bits.
abbrev pub Within : List ℕ → Type 0
Within l = (i : ℕ) → get_or l i 0 ≤ most

-- What the calls promise of the memory before and after.
abbrev pub SerialCounts : List ℕ → Call → List ℕ → Type 0
SerialCounts l call l' = serial_of l' ≡ serial_after (serial_of l) call

abbrev pub ClockCounts : List ℕ → ClockCall → List ℕ → Type 0
ClockCounts l call l' = clock_of l' ≡ clock_after (clock_of l) call

-- Calls one after the other on the same memory, each with its promise.
pub data Called {Call : Type 0} (Promise : List ℕ → Call → List ℕ → Type 0) : List ℕ → List Call → List ℕ → Type 0 where
  none : {l : List ℕ} → Called Promise l [] l
  then : {l l' l'' : List ℕ} {call : Call} {calls : List Call}
      → Promise l call l' → Called Promise l' calls l'' → Called Promise l (call ∷ calls) l''
