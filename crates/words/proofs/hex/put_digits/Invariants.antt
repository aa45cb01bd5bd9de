-- The loop's invariant is of `Digits`.
use Rattle.words.proofs.Digits.{SoFar}
use Rattle.words.proofs.hex.put_digits.Given as goal

abbrev pub invariant-loop-i : goal.invariant-loop-i
invariant-loop-i l = SoFar l.bytes l.space l.i
