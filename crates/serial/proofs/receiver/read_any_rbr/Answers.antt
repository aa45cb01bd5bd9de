use Rattle.serial.specs.Layout.{port_of}
use Rattle.serial.proofs.Reading.{reads_none, reads_first}
use Rattle.serial.proofs.receiver.read_any_rbr.Goals as goal

pub returns-then-n-eq0 : goal.returns-then-n-eq0
unfolding port_of
returns-then-n-eq0 c =
    let a = c.args in
    reads_none a.regs.now a.pos.now a.ring.now c.told-regs _ c.count-n.ensures _ c.after_data_read.ensures c.if-n-eq0.true c.lsr_after_read.ensures

pub returns : goal.returns
unfolding port_of
returns c =
    let a = c.args in
    reads_first a.regs.now a.pos.now a.ring.now c.told-regs _ c.count-n.ensures _ c.after_data_read.ensures _ _ c.take.ensures c.if-n-eq0.false c.lsr_after_read-2.ensures c.delivered.ensures
