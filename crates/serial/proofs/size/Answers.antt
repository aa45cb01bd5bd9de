-- The answer is a law of `Receiving`.
use Rattle.serial.proofs.Receiving.{size_is}
use Rattle.serial.proofs.size.Goals as goal

pub returns : goal.returns
returns c = size_is _ _ c.size.ensures
