-- `adjust` meets its contract. Three stores are the load register and how far the clock is ahead.
use Rattle.clock.proofs.Stores.{stores_lr}
use Rattle.clock.proofs.adjust.Goals as goal

pub returns : goal.returns
returns c = let a = c.args in stores_lr a.clock.now c.told-clock a.load a.ahead
