-- The answer is a law of `Saying`.
use Rattle.serial_access.proofs.Saying.{state_of}
use Rattle.serial_access.proofs.Port.state.Goals as goal

pub returns-clause-says : goal.returns-clause-says
returns-clause-says c = state_of _ c.args.self.now.pos _ _ _ c.put.ensures.says c.put_port.ensures.says
