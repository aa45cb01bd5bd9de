-- The answer is the definition, opened.
use mathlib.Core.Path.{refl}
use Rattle.ring.specs.Ring.{queue}
use Rattle.serial.specs.Layout.{port_of}
use Rattle.serial.proofs.make.Goals as goal

pub returns : goal.returns
unfolding port_of queue
returns c = record { holds = λ ring. refl; placed = refl; spares_zero = refl }
