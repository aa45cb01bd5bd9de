-- Each row from a clock that is fresh at 1,000: the operations before it, the call that is in it, the read behind it that shows it, and
-- both answers.
use mathlib.Core.Path.{◌≡◌, refl}
use mathlib.Core.Bool.{true≢false}
use mathlib.Core.List.{List, [], ◌∷◌}
use Prim.Native.Nat.{ℕ}
use native.Mathlib.Omega.{arith}
use Rattle.sidebyside.specs.Runs.{Shown, device_after, chip_after}
use Rattle.pl031.specs.Chip.{Op, second, read, write}
use Rattle.pl031.specs.Compare.{chip_of, pair, clock_out_of_range, clock_match_no_effect, clock_load_match, clock_restarts}
use Rattle.pl031.specs.Runs.{begins}
use Rattle.pl031.proofs.Computing.{computing}

pub shows_clock_out_of_range : Shown pair begins (write 0x008 0xffff_ffff ∷ []) second (read 0x000 ∷ []) 1001 0
unfolding computing
shows_clock_out_of_range = record { row = clock_out_of_range true≢false; device = refl; manual = refl }

pub shows_clock_match_no_effect : Shown pair begins (write 0x004 1001 ∷ []) second (read 0x014 ∷ []) 0 1
unfolding computing
shows_clock_match_no_effect = record { row = clock_match_no_effect refl; device = refl; manual = refl }

pub shows_clock_load_match : Shown pair begins (write 0x004 7 ∷ []) (write 0x008 7) (read 0x014 ∷ []) 0 1
unfolding computing
shows_clock_load_match = record { row = clock_load_match refl; device = refl; manual = refl }

pub shows_clock_restarts : Shown pair begins (write 0x008 5 ∷ second ∷ []) (write 0x00c 1) (read 0x000 ∷ []) 1001 6
unfolding computing
shows_clock_restarts = record { row = clock_restarts refl (λ lr. let z : ◌≡◌ {A = ℕ} 5 0 = lr in absurd (omega arith)); device = refl; manual = refl }

-- ---- The interrupt counts by itself: of a second in which the clock comes to the match value there is nothing to read

-- After `before`, device and chip side by side from a fresh clock: the call looks alike.
abbrev LooksAlike : List Op → Op → Type 0
LooksAlike before call = pair.Alike (device_after pair begins before) (chip_after pair (chip_of begins) before) call

-- The mask lets the interrupt through: the chip's rises, and the call does not look alike. Masked, it does.
pub alarm_is_seen : LooksAlike (write 0x004 1001 ∷ write 0x010 1 ∷ []) second → ⊥
unfolding computing
alarm_is_seen a = let z : ◌≡◌ {A = ℕ} 1 0 = a.rise refl in absurd (omega arith)

pub alarm_is_masked : LooksAlike (write 0x004 1001 ∷ []) second
unfolding computing
alarm_is_masked = record { reply = tt; rise = λ _. refl }

-- Where it is high already nothing rises.
pub alarm_goes_on : LooksAlike (write 0x004 1001 ∷ write 0x010 1 ∷ second ∷ []) second
unfolding computing
alarm_goes_on = record { reply = tt; rise = λ e. let z : ◌≡◌ {A = ℕ} 1 0 = e in absurd (omega arith) }
