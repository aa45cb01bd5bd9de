-- What is read is a law of `Filling`.
use Rattle.std.proofs.Common.{arith}
use Rattle.exchange.proofs.Filling.{filled, closed}
use Rattle.exchange.proofs.fill.Goals as goal

pub returns-in-Some-eq0-clause-filled : goal.returns-in-Some-eq0-clause-filled
returns-in-Some-eq0-clause-filled g c = λ _. closed c.settle.ensures.settles c.read_after.ensures.reads_after (omega arith) c.close.ensures.closes

pub returns-in-Some-clause-filled : goal.returns-in-Some-clause-filled
returns-in-Some-clause-filled g c =
    λ _. filled _ c.settle.ensures.settles c.read_after.ensures.reads_after (omega (arith, c.in-Some.ensures.result_in_bounds)) (omega arith) c.came.ensures.value
