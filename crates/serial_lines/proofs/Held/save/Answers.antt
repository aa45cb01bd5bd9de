-- The answer is a law of `Answering`.
use Rattle.serial_lines.proofs.Answering.{saves}
use borrow.Author.Rules.{rules}
use Rattle.serial_lines.proofs.Held.save.Goals as goal

pub returns : goal.returns
returns c = saves _ _ c.save-count.ensures (search rules) c.put.ensures.says c.put_port.ensures.says (search rules)
