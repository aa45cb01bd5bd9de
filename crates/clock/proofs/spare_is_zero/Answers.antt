-- `spare_is_zero` meets its contract: one word is tested, and then the other.
use Rattle.clock.proofs.Spare.{first_used, by_last}
use Rattle.clock.proofs.spare_is_zero.Goals as goal

pub returns-then-clock-eq0 : goal.returns-then-clock-eq0
returns-then-clock-eq0 c = by_last c.args.clock.now c.if-clock-eq0.true

pub returns-else-clock-eq0 : goal.returns-else-clock-eq0
returns-else-clock-eq0 c = first_used c.args.clock.now c.if-clock-eq0.false
