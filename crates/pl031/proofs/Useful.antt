-- Runs that guests make: none of their calls is in a row, so all of them look alike.
use mathlib.Core.Path.{◌≡◌, refl}
use Prim.Native.Nat.{ℕ}
use native.Mathlib.Omega.{arith}
use Rattle.sidebyside.specs.Runs.{RowFree}
use Rattle.clock.specs.Registers.{Register, LR, MR, ICR, IMSC}
use Rattle.pl031.specs.Chip.{ticks}
use Rattle.pl031.specs.Compare.{Timed, later, chip_of, Row, passes, reads, writes, in_range, pair, clock_out_of_range}
use Rattle.pl031.specs.Compare.{clock_match_no_effect, clock_load_match}
use Rattle.pl031.specs.Runs.{begins, set_and_read, alarm_set}
use Rattle.pl031.proofs.Computing.{computing}

-- No read is in a row; nor is a second that stays in range and does not come to the match value, nor a load of another value.
no_read : {t : Timed} {r : Register} → Row t (reads r) → ⊥
no_read = elim [ ]

no_second : {t : Timed} → in_range t ≡ in_range (later t) → ((ticks (chip_of t)).counter ≡ t.clock.mr → ⊥) → Row t passes → ⊥
no_second same apart (clock_out_of_range n) = n same
no_second same apart (clock_match_no_effect e) = apart e

no_load : {t : Timed} {v : ℕ} → (v ≡ t.clock.mr → ⊥) → Row t (writes LR v) → ⊥
no_load apart (clock_load_match e) = apart e

no_alarm : {t : Timed} {v : ℕ} → (Row t (writes MR v) → ⊥) × (Row t (writes ICR v) → ⊥) × (Row t (writes IMSC v) → ⊥)
no_alarm = (elim [ ], elim [ ], elim [ ])

-- A clock is set and read.
pub set_and_read_lem : RowFree pair begins set_and_read
unfolding computing
set_and_read_lem = (no_load (omega arith), (no_read, (no_second refl (omega arith), (no_second refl (omega arith), (no_read, (no_read, tt))))))

-- An alarm is set that has not come yet.
pub alarm_set_lem : RowFree pair begins alarm_set
unfolding computing
alarm_set_lem = (no_read, (no_alarm.0, (no_alarm.1, (no_alarm.2, (no_second refl (omega arith), (no_read, (no_read, tt)))))))
