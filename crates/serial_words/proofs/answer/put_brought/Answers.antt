-- The answer is a law of `Saying`.
use Rattle.std.proofs.Common.{append_assoc, refl}
use Rattle.serial_words.proofs.Saying.{unreached}
use Rattle.serial_words.proofs.answer.put_brought.Goals as goal

pub returns-else-brought-eq1-clause-says : goal.returns-else-brought-eq1-clause-says
returns-else-brought-eq1-clause-says c =
    rw (unreached _ c.if-brought-eq-REFUSED.false c.if-brought-eq1.false, c.put-else-brought-eq1.ensures.says, c.put_decimal.ensures.says, c.put-2.ensures.says, c.from.ensures) (simp append_assoc refl)
