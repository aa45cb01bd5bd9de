-- Each answer is a law of `Flushing`.
use Rattle.serial.proofs.Flushing.{keeps_bytes, flushes_bytes}
use Rattle.serial.proofs.fcr.write.Goals as goal

pub returns-then-value-eq0 : goal.returns-then-value-eq0
returns-then-value-eq0 c = λ ring. let a = c.args in keeps_bytes a.regs.now a.pos.now ring c.told-regs a.value c.if-value-eq0.true

pub returns : goal.returns
returns c = λ ring. let a = c.args in flushes_bytes a.regs.now a.pos.now ring c.told-regs a.value c.told-pos c.flush.ensures c.if-value-eq0.false
