-- The answer is a law of `Saying`.
use Rattle.serial_access.proofs.Saying.{writes}
use borrow.Author.Rules.{rules}
use Rattle.serial_access.proofs.Port.write.Goals as goal

pub returns-clause-did_write : goal.returns-clause-did_write
returns-clause-did_write c = writes _ _ _ (search rules) c.write-does.ensures c.put.ensures.says c.put_sent.ensures.says c.put_raises.ensures.says
