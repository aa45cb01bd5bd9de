-- Each answer is a law of `Resets`.
use borrow.Author.Rules.{rules}
use Rattle.i8042.proofs.Resets.{at_command_port, elsewhere}
use Rattle.i8042.proofs.write.Goals as goal

pub returns-then-offset-eq-COMMAND_PORT : goal.returns-then-offset-eq-COMMAND_PORT
returns-then-offset-eq-COMMAND_PORT c = at_command_port _ _ (search rules) c.if-offset-eq-COMMAND_PORT.true

pub returns-else-offset-eq-COMMAND_PORT : goal.returns-else-offset-eq-COMMAND_PORT
returns-else-offset-eq-COMMAND_PORT c = elsewhere _ _ c.if-offset-eq-COMMAND_PORT.false
