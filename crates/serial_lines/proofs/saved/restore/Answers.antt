-- The answer is a law of `Saying`.
use Rattle.serial_lines.proofs.Saying.{brings}
use Rattle.serial_lines.proofs.saved.restore.Goals as goal

pub returns-clause-brought : goal.returns-clause-brought
returns-clause-brought c = brings c.restore-brought.ensures c.put_brought.ensures.says
