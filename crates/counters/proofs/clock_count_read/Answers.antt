-- The store is a law of `Stores`.
use Rattle.counters.proofs.Stores.{counts_read}
use Rattle.counters.proofs.clock_count_read.Goals as goal

pub returns : goal.returns
returns c = counts_read c.args.counters.now c.told-counters c.args.answer c.says.ensures c.count.ensures
