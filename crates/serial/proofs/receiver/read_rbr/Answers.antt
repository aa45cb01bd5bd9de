-- Each answer is a law of `Reading`.
use native.Mathlib.Omega.{arith}
use Rattle.serial.specs.Layout.{port_of}
use Rattle.serial.proofs.Reading.{reads_several, reads_last}
use Rattle.serial.proofs.receiver.read_rbr.Goals as goal

pub returns-then-n-eq1 : goal.returns-then-n-eq1
unfolding port_of
returns-then-n-eq1 c =
    let a = c.args in
    reads_last a.regs.now a.pos.now a.ring.now c.told-regs (omega (arith, c.if-n-eq1.true)) c.after_data_read.ensures _ _
    c.take.ensures c.lsr_after_read.ensures c.delivered.ensures

pub returns-then-several : goal.returns-then-several
unfolding port_of
returns-then-several c =
    let a = c.args in
    let s = c.several.ensures c.if-several.true in
    reads_several a.regs.now a.pos.now a.ring.now c.told-regs _ _ _ (omega (arith, s.1)) s.0 c.take-then-several.ensures c.delivered-then-several.ensures
