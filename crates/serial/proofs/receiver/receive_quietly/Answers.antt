-- The answer is a law of `Quiet`.
use Rattle.serial.proofs.Quiet.{quiet_received}
use Rattle.serial.proofs.receiver.receive_quietly.Goals as goal

pub returns : goal.returns
returns c = let a = c.args in quiet_received a.regs.now c.requires.quiet a.pos.now _ a.waits c.requires.waits_value c.none_if_first.ensures c.ready.ensures
