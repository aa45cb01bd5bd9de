-- A sum that stops at the highest number is a law of `Stores`.
use Rattle.std.proofs.Common.{◌∙◌, arith}
use Rattle.counters.proofs.Stores.{stops}
use Rattle.counters.proofs.count.Goals as goal

pub returns : goal.returns
returns c = rw c.from.ensures at c.saturating_add.ensures ∙ stops c.args.counter.now c.args.happened (omega arith)
