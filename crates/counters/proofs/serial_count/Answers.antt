-- The stores are a law of `Stores`.
use Rattle.counters.proofs.Stores.{serial_counts}
use Rattle.counters.proofs.serial_count.Goals as goal

pub returns : goal.returns
returns c =
    serial_counts c.args.counters.now c.told-counters c.args.answer c.says.ensures c.count.ensures
    c.says-2.ensures c.count-2.ensures c.says-3.ensures c.count-3.ensures
