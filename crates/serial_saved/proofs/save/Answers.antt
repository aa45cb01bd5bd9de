-- The answer is a law of `Bringing`.
use mathlib.Core.Path.{refl}
use Rattle.serial_saved.proofs.Bringing.{saves}
use Rattle.serial_saved.proofs.save.Goals as goal

pub returns : goal.returns
returns c =
    let a = c.args in
    saves a.regs.now a.pos.now a.ring.now a.waiting.now _ _ _
    c.count-n.ensures refl c.unroll.ensures
