-- The answer is a law of `Reading`.
use mathlib.Core.Path.{◌∙◌}
use Rattle.serial.proofs.Reading.{identifies}
use Rattle.serial.proofs.iir.read.Goals as goal

pub returns : goal.returns
returns c =
    let a = c.args in
    λ ring. identifies a.regs.now a.pos.now ring c.told-regs c.after_identification.ensures (c.from.ensures ∙ c.identification.ensures)
