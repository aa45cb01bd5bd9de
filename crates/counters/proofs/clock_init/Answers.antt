-- The numbers of fresh counters, taken apart.
use mathlib.Core.Path.{refl}
use Rattle.counters.specs.Counters.{clock_of}
use Rattle.counters.proofs.clock_init.Goals as goal

pub returns : goal.returns
unfolding clock_of
returns c = refl
