-- Each answer is a law of `Leaves`.
use Rattle.serial.proofs.Leaves.{some_left}
use Rattle.serial.proofs.receiver.lsr_after_read.Goals as goal

pub returns-else-left-eq0 : goal.returns-else-left-eq0
returns-else-left-eq0 c = some_left _ _ c.if-left-eq0.false
