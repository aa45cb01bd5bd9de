-- `init` meets its contract. Eight words that are 0 are the fresh clock and its spare words.
use Rattle.std.proofs.Common.{refl}
use Rattle.clock.specs.Registers.{fresh}
use Rattle.clock.specs.Layout.{signed, clock_of, spare_is_zero}
use Rattle.clock.proofs.init.Goals as goal

pub returns : goal.returns
unfolding clock_of signed fresh spare_is_zero
returns c = record { clock = refl; spare = refl }
