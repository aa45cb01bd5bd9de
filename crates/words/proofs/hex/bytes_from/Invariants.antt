use Rattle.words.proofs.Pairs.{SoFar}
use Rattle.words.proofs.hex.bytes_from.Given as goal

abbrev pub invariant-loop-i : goal.invariant-loop-i
invariant-loop-i l = SoFar l.line l.from l.bytes l.i
