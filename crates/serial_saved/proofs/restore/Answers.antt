-- Each answer is a law of `Bringing`.
use mathlib.Core.Path.{refl}
use native.Mathlib.Omega.{arith}
use Rattle.serial_saved.specs.Saved.{saved_of}
use Rattle.serial_saved.proofs.Raising.{at_most_two}
use Rattle.serial_saved.proofs.Testing.{some_is}
use Rattle.serial_saved.proofs.Bringing.{refuses, as_number, restores}
use Rattle.serial_saved.proofs.restore.Goals as goal

pub returns-then-size-len : goal.returns-then-size-len
returns-then-size-len c = let a = c.args in refuses a.saved.now a.waiting.now a.regs.now a.pos.now a.ring.now (omega (arith, c.if-size-len.true, c.size.ensures))

pub overflow_mul-result-2 : goal.overflow_mul-result-2
overflow_mul-result-2 c =
    let a = c.args in omega (arith, c.raises.ensures a.waiting.now (some_is a.waiting.now), at_most_two (saved_of a.saved.now a.waiting.now))

pub overflow_add-result : goal.overflow_add-result
overflow_add-result c =
    let a = c.args in
    omega (arith, c.raises.ensures a.waiting.now (some_is a.waiting.now), at_most_two (saved_of a.saved.now a.waiting.now), (as_number c.is_reachable-told.result).1)

pub returns : goal.returns
returns c = let a = c.args in restores a.saved.now a.waiting.now a.regs.now a.pos.now a.ring.now _ _ _ _ (omega (arith, c.if-size-len.false, c.size.ensures)) c.told-pos refl c.fill.ensures c.is_reachable-told.ensures (c.raises.ensures a.waiting.now (some_is a.waiting.now))
