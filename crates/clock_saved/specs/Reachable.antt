-- The clocks that runs from a fresh one reach.
use Rattle.std.specs.Prelude.{◌≡◌, ℕ, ◌^◌, ◌<◌, true, List, length, ℤ, pos, ◌-ℤ◌}
use Rattle.common.specs.Bytes.{Bytes}
use Rattle.clock.specs.Registers.{Clock, fresh}
use Rattle.clock.specs.Layout.{clock_of, spare_is_zero, Inits}
use Rattle.clock.specs.Runs.{Access, read, write, after, All, Result, Called}

-- What a call can be lent: a time of 64 bits, an offset of 16, and four bytes.
pub record Fits (time offset : ℕ) (bytes : List ℕ) : Type 0 where
  pub time64 : time < 2 ^ 64
  pub offset16 : offset < 2 ^ 16
  pub four : length bytes ≡ 4
  pub small : Bytes bytes

abbrev pub InRange : Access → Type 0
InRange (read time offset bytes) = Fits time offset bytes
InRange (write time offset bytes) = Fits time offset bytes

-- Some run of such accesses from a fresh clock comes to this one.
abbrev pub Reached : Clock → Type 0
Reached c = (run : List Access) × All InRange run × (after fresh run ≡ c)

-- At some second of 32 bits a clock that is so far ahead showed this value. A fresh one, and one that was put back to the host's time,
-- showed 0 at second 0.
abbrev pub ShowedAt : ℤ → ℕ → Type 0
ShowedAt ahead value = (now : ℕ) × (now < 2 ^ 32) × (ahead ≡ pos value -ℤ pos now)

-- The same as `Reached`, said of the registers: the mask has one bit, nothing raises the status, and the clock showed the load register's
-- value at some second.
pub record Reachable (c : Clock) : Type 0 where
  pub mr : c.mr < 2 ^ 32
  pub lr : c.lr < 2 ^ 32
  pub imsc : c.imsc < 2
  pub ris : c.ris ≡ 0
  pub set : ShowedAt c.ahead c.lr

-- ---- In memory

-- Some calls on words that were made a fresh clock leave these.
pub record ReachedWords (words : List ℕ) : Type 0 where
  pub made : List ℕ
  pub run : List Access
  pub results : List Result
  pub inits : Inits made
  pub in_range : All InRange run
  pub called : Called made run words results

-- The same as `ReachedWords`, said of the words: their clock is reachable, and the spare ones are 0.
pub record ReachableWords (words : List ℕ) : Type 0 where
  pub clock : Reachable (clock_of words)
  pub spare : spare_is_zero words ≡ true
