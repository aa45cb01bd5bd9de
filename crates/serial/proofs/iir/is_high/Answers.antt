-- The answer is a law of `Reading`.
use Rattle.serial.proofs.Reading.{is_line}
use Rattle.serial.proofs.iir.is_high.Goals as goal

pub returns : goal.returns
returns c = let a = c.args in λ ring. is_line a.regs.now a.pos.now ring c.is_high.ensures
