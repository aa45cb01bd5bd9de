-- Each answer is a law of `Enabling`.
use native.Mathlib.Omega.{arith}
use Rattle.serial.proofs.Enabling.{writes_ier}
use Rattle.serial.proofs.ier.write.Goals as goal

pub returns : goal.returns
returns c =
    let a = c.args in
    λ ring.
    rw c.store.ensures
    (writes_ier a.regs.now a.pos.now ring c.told-regs a.value _ c.ier_stored-ier.ensures c.enabling-told.ensures (omega arith))
