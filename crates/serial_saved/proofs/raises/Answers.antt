-- The answer is a law of `Raising`.
use Rattle.serial_saved.proofs.Raising.{as_raised}
use Rattle.serial_saved.proofs.raises.Goals as goal

pub returns : goal.returns
returns c = let a = c.args in as_raised a.saved.now a.waits _ c.raised_again.ensures.value
