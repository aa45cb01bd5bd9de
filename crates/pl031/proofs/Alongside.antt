-- Whole runs: device and chip side by side, up to the first row; where the fresh clock comes from; runs that meet no row.
use mathlib.Core.Path.{◌≡◌, refl}
use mathlib.Core.Logic.{◌⊎◌}
use mathlib.Core.List.{List}
use Prim.Native.Nat.{ℕ, zero, suc, ◌+◌, ◌%◌, ◌^◌, ◌<◌}
use native.Mathlib.Omega.{arith}
use borrow.Author.Tests.{ne_eqb}
use Rattle.sidebyside.specs.Runs.{SameRun, Meets, RowFree}
use Rattle.sidebyside.proofs.Alongside as sidebyside
use Rattle.clock.specs.Registers.{fresh}
use Rattle.pl031.specs.Chip.{after_reset, ticks, Op, register_at, write_register, chip_does}
use Rattle.pl031.specs.Compare.{Timed, device_does, chip_of, Sound, Alike, AgreesAt, pair}
use Rattle.pl031.specs.Runs.{fresh_at, started_for}
use Rattle.pl031.proofs.Seconds.{follows}
use Rattle.pl031.proofs.Exact.{keeps, complete, real}

pub fresh_sound : (n : ℕ) → Sound (fresh_at n)
unfolding fresh
fresh_sound n = record { quiet = refl }

alike : (t : Timed) (o : Op) → AgreesAt t o → Alike (chip_of t) (device_does t o) (chip_does (chip_of t) o)
alike t o a = a.alike

same : (t : Timed) (o : Op) → AgreesAt t o → chip_of (device_does t o).timed ≡ (chip_does (chip_of t) o).chip
same t o a = a.next

-- Over runs: all calls of a run look alike, or it meets a first row and looks alike up to it.
pub runs : (t : Timed) → Sound t → (os : List Op) → SameRun pair t (chip_of t) os ⊎ Meets pair t (chip_of t) os
runs = sidebyside.runs pair Sound AgreesAt alike same keeps complete real

-- A run without a row looks alike from beginning to end.
pub row_free : (t : Timed) → Sound t → (os : List Op) → RowFree pair t os → SameRun pair t (chip_of t) os
row_free = sidebyside.row_free pair Sound AgreesAt alike same keeps complete real

-- From reset: a clock that is fresh at the host's second n is the chip after reset, started n seconds ago.
pub from_reset : (n : ℕ) → n < 2 ^ 32 → chip_of (fresh_at n) ≡ started_for n after_reset
unfolding chip_of chip_does register_at write_register ticks after_reset fresh
from_reset zero h = rw (follows 0 h)
from_reset (suc n) h =
    let low : n % 2 ^ 32 ≡ n = omega arith in
    let high : suc n % 2 ^ 32 ≡ suc n = omega arith in
    let step : (n + 1) % 2 ^ 32 ≡ suc n = omega arith in
    rw (← from_reset n (omega arith)) (rw (low, high, follows (suc n) h, follows n (omega arith), step, ne_eqb (suc n) 0 (omega arith)))
