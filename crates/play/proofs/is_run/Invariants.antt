-- Whether the bytes are a run turns on what is left of them.
use Prim.Native.Nat.{◌*◌}
use Rattle.play.proofs.Decoding.{Scanned}
use Rattle.play.proofs.is_run.Given as goal

abbrev pub invariant-loop-i : goal.invariant-loop-i
invariant-loop-i l = Scanned l.ops l.inputs (3 * l.i) l.from
