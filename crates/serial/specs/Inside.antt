-- What the functions of the code promise each other. No reader has to believe it: it is proved, and no entry point speaks of it.
use Rattle.std.specs.Prelude.{ℕ, ◌+◌, ◌-◌, ◌%◌, ◌≤◌, ◌≡◌, List, length, get_or, set, Bool, false, not, eqb}
use Rattle.common.specs.Answer.{flushed_bit}
use Rattle.common.specs.Lists.{some}
use Rattle.interrupts.specs.Interrupts.{Ended, data_came, byte_sent, after_data_read}
use Rattle.line_status.specs.LineStatus.{lsr_ready, lsr_after_read}
use Rattle.serial.specs.Layout.{places, start_of, count_of}

-- Bytes have come to the receiver, n wait: LSR lies at 5, the number of waiting bytes at 1 of the positions.
abbrev pub came_in : List ℕ → List ℕ → Ended
came_in regs pos = data_came (get_or regs 1 0) (get_or regs 2 0) (not (eqb (get_or pos 1 0) 0))

pub record Received (regs pos : List ℕ) (n : ℕ) (regs' pos' : List ℕ) (r : ℕ) : Type 0 where
  pub stored : regs' ≡ set (set regs 2 (came_in regs pos).iir) 5 (lsr_ready (get_or regs 5 0))
  pub counted : pos' ≡ set pos 1 n
  pub raised : r ≡ (came_in regs pos).raises
  pub once : r ≤ 1

-- The transmitter is empty: IER lies at 1, IIR at 2.
pub record Emptied (regs : List ℕ) (waits : Bool) (regs' : List ℕ) (r : ℕ) : Type 0 where
  pub stored : regs' ≡ set regs 2 (byte_sent (get_or regs 1 0) (get_or regs 2 0) waits).iir
  pub raised : r ≡ (byte_sent (get_or regs 1 0) (get_or regs 2 0) waits).raises
  pub once : r ≤ 1

-- A byte has been read and n wait.
abbrev pub WaitAfterRead : List ℕ → ℕ → List ℕ → Type 0
WaitAfterRead regs n regs' = (left : List ℕ) → length left ≡ n → regs' ≡ set regs 5 (lsr_after_read (some left) (get_or regs 5 0))

-- The waiting bytes are thrown away: IIR lies at 2, LSR at 5, the number at 1 of the positions. It is told.
pub record Flushed (regs pos regs' pos' : List ℕ) (r : ℕ) : Type 0 where
  pub stored :
      regs' ≡ set (set regs 2 (after_data_read (get_or regs 1 0) (get_or regs 2 0) false)) 5 (lsr_after_read false (get_or regs 5 0))
  pub counted : pos' ≡ set pos 1 0
  pub told : r ≡ count_of pos + flushed_bit

-- Of n bytes that wait the first, b, has left: the start lies at 0 of the positions and goes on by one place, the number lies at 1.
pub record Taken (pos ring : List ℕ) (n : ℕ) (pos' : List ℕ) (b : ℕ) : Type 0 where
  pub long : length pos ≡ 4
  pub start : ℕ
  pub on : start % places ≡ (start_of pos + 1) % places
  pub moved : pos' ≡ set (set pos 0 start) 1 (n - 1)
  pub byte : b ≡ get_or ring (start_of pos % places) 0
