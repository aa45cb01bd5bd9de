-- The loop's invariant and its laws are of `Unrolling`.
use Rattle.ring.specs.Ring.{places_here}
use Rattle.ring.proofs.Unrolling.{none_yet, one_more}
use Rattle.ring.proofs.unroll.Goals as goal

pub loop-i-init : goal.loop-i-init
loop-i-init c = none_yet places_here _ _ _ _ c.told-memory

pub loop-i-preserved : goal.loop-i-preserved
loop-i-preserved c = one_more places_here _ _ _ _ _ _ c.requires c.loop-i-test.true c.loop-i.invariant
