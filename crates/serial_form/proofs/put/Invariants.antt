-- The loop's invariant and its laws are of `Copying`.
use Rattle.serial_form.proofs.Copying.{SoFar}
use Rattle.serial_form.proofs.put.Given as goal

abbrev pub invariant-loop-i : goal.invariant-loop-i
invariant-loop-i l = SoFar l.initial.memory l.at l.bytes l.memory l.i
