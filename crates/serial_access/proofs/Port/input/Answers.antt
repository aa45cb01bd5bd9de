-- The answer is a law of `Saying`.
use Rattle.serial_access.proofs.Saying.{takes}
use Rattle.serial_access.proofs.Port.input.Goals as goal

pub returns-clause-did_input : goal.returns-clause-did_input
returns-clause-did_input c = takes _ _ c.input-took.ensures c.put.ensures.says c.put_taken.ensures.says c.put_raises.ensures.says
