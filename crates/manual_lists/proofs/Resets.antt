-- Written by lists/manual.py from the lists: change these.
use mathlib.Core.Path.{refl}
use Rattle.i8042.specs.I8042.{manual_resets}
use Rattle.manual_lists.specs.Resets.{AsTold}
use Rattle.manual_lists.specs.ResetsLists as lists

pub i8042_other_pulses : AsTold lists.i8042_other_pulses
unfolding manual_resets
i8042_other_pulses = refl
