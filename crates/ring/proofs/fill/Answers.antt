-- The loop's invariant and its laws are of `Laws`.
use Rattle.ring.specs.Ring.{places_here}
use Rattle.ring.proofs.Laws.{one_more_there}
use Rattle.ring.proofs.fill.Goals as goal

pub loop-i-preserved : goal.loop-i-preserved
loop-i-preserved c = let given = c.requires in one_more_there places_here _ _ _ _ _ _ _ _ given.0 given.1 c.loop-i-test.true c.loop-i.invariant
