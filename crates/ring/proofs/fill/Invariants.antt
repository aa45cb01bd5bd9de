-- The loop's invariant is of `Laws`.
use Rattle.ring.specs.Ring.{places_here}
use Rattle.ring.proofs.Laws.{SoFar}
use Rattle.ring.proofs.fill.Given as goal

abbrev pub invariant-loop-i : goal.invariant-loop-i
invariant-loop-i l = SoFar places_here l.initial.ring l.start l.n l.input l.k l.from l.ring l.i
