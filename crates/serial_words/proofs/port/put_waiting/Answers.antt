-- Each answer is a law of `Saying`.
use Rattle.std.proofs.Common.{append_assoc, refl}
use Rattle.serial_words.proofs.Saying.{none_wait, some_wait}
use Rattle.serial_words.proofs.port.put_waiting.Goals as goal

pub returns-then-count-eq0-clause-says : goal.returns-then-count-eq0-clause-says
returns-then-count-eq0-clause-says c =
    rw (none_wait _ _ _ c.if-count-eq0.true, c.put-then-count-eq0.ensures.says, c.put_decimal.ensures.says, c.put.ensures.says, c.from.ensures) (simp append_assoc refl)

pub returns-else-count-eq0-clause-says : goal.returns-else-count-eq0-clause-says
returns-else-count-eq0-clause-says c =
    rw (some_wait _ _ _ c.if-count-eq0.false, c.put-else-count-eq0-2.ensures.says, c.put_ring.ensures.says, c.put-else-count-eq0.ensures.says, c.put_decimal.ensures.says, c.put.ensures.says, c.from.ensures) (simp append_assoc refl)
