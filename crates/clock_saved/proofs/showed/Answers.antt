-- `showed` meets its contract. The wrapped difference is the only second that it can have been.
use Rattle.std.proofs.Common.{arith}
use Rattle.clock_saved.proofs.Restoring.{told_by_second}
use Rattle.clock_saved.proofs.showed.Goals as goal

pub returns : goal.returns
returns c =
    let a = c.args in told_by_second a.value a.low a.high (omega arith) (omega arith) (omega arith) (omega arith) (omega arith)
