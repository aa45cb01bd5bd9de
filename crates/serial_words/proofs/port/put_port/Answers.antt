-- The answer is a law of `Saying`.
use Rattle.serial_words.proofs.Saying.{port_said}
use Rattle.serial_words.proofs.port.put_port.Goals as goal

pub returns-clause-says : goal.returns-clause-says
returns-clause-says c = port_said _ c.args.ring.now c.args.start _ c.args.out.now c.min.ensures c.put_regs.ensures.by_index c.put_waiting.ensures.says
