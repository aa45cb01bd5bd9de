-- The loop's invariant is of `Unrolling`.
use Rattle.ring.specs.Ring.{places_here}
use Rattle.ring.proofs.Unrolling.{SoFar}
use Rattle.ring.proofs.unroll.Given as goal

abbrev pub invariant-loop-i : goal.invariant-loop-i
invariant-loop-i l = SoFar places_here l.ring l.start l.n l.initial.memory l.memory l.i
