-- `difference` meets its contract. The wrapped difference is the difference of integers.
use Rattle.std.proofs.Common.{arith}
use Rattle.clock.proofs.Time.{difference_signed}
use Rattle.clock.proofs.difference.Goals as goal

pub returns : goal.returns
returns c = let a = c.args in difference_signed a.value a.now _ (omega arith) (omega arith) (omega arith) (omega arith)
