-- `counter` meets its contract. The wrapped sum shows what the sum of integers shows.
use Rattle.std.proofs.Common.{◌+◌, ◌%◌, ◌^◌, ◌∙◌, arith}
use Rattle.clock.proofs.Time.{counter_shows}
use Rattle.clock.proofs.counter.Goals as goal

pub returns : goal.returns
returns c =
    let a = c.args in
    c.unwrap_or.ensures ∙
    counter_shows a.now a.low a.high (omega arith) (omega arith) (omega arith) {r = (c.from.result + c.join.result) % 2 ^ 64}
    c.join.ensures (rw c.from.ensures) c.try_from.result c.try_from.ensures
