-- The store is a law of `Stores`.
use Rattle.counters.proofs.Stores.{serial_loses}
use Rattle.counters.proofs.serial_lost.Goals as goal

pub returns : goal.returns
returns c = serial_loses c.args.counters.now c.told-counters c.count.ensures
