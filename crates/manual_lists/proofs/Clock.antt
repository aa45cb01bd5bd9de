-- Written by lists/manual.py from the lists: change these.
use mathlib.Core.Path.{refl}
use Prim.Native.Nat.{ℕ}
use Rattle.pl031.specs.Chip.{Chip}
use Rattle.pl031.proofs.Computing.{computing}
use Rattle.manual_lists.specs.Clock.{AsTold}
use Rattle.manual_lists.specs.ClockLists as lists

pub clock_clear_read : (c : Chip) (t : ℕ) → AsTold c t lists.clock_clear_read
unfolding computing
clock_clear_read c t = refl

pub clock_control_reads_1 : (c : Chip) (t : ℕ) → AsTold c t lists.clock_control_reads_1
unfolding computing
clock_control_reads_1 c t = refl

pub clock_follows_host : (c : Chip) (t : ℕ) → AsTold c t lists.clock_follows_host
unfolding computing
clock_follows_host c t = refl

pub clock_identity_between : (c : Chip) (t : ℕ) → AsTold c t lists.clock_identity_between
unfolding computing
clock_identity_between c t = refl

pub clock_load_match : (c : Chip) (t : ℕ) → AsTold c t lists.clock_load_match
unfolding computing
clock_load_match c t = refl

pub clock_match_no_effect : (c : Chip) (t : ℕ) → AsTold c t lists.clock_match_no_effect
unfolding computing
clock_match_no_effect c t = refl

pub clock_out_of_range : (c : Chip) (t : ℕ) → AsTold c t lists.clock_out_of_range
unfolding computing
clock_out_of_range c t = refl

pub clock_reserved : (c : Chip) (t : ℕ) → AsTold c t lists.clock_reserved
unfolding computing
clock_reserved c t = refl

pub clock_restarts : (c : Chip) (t : ℕ) → AsTold c t lists.clock_restarts
unfolding computing
clock_restarts c t = refl

pub clock_runs_from_reset : (c : Chip) (t : ℕ) → AsTold c t lists.clock_runs_from_reset
unfolding computing
clock_runs_from_reset c t = refl

pub linux_clock_alarm : (c : Chip) (t : ℕ) → AsTold c t lists.linux_clock_alarm
unfolding computing
linux_clock_alarm c t = refl

pub linux_clock_start : (c : Chip) (t : ℕ) → AsTold c t lists.linux_clock_start
unfolding computing
linux_clock_start c t = refl
