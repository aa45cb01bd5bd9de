-- The numbers of fresh counters, taken apart.
use mathlib.Core.Path.{refl}
use Rattle.counters.specs.Counters.{serial_of}
use Rattle.counters.proofs.serial_init.Goals as goal

pub returns : goal.returns
unfolding serial_of
returns c = refl
