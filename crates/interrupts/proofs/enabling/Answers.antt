-- The answer is a law of `Laws`.
use mathlib.Core.Path.{refl}
use Rattle.interrupts.proofs.Laws.{enabled}
use Rattle.interrupts.proofs.enabling.Goals as goal

pub returns : goal.returns
returns c =
    let a = c.args in
    enabled a.old a.ier a.iir a.waits c.settled.ensures c.has_data.ensures c.has_data-2.ensures c.newly-data.ensures.value
    c.newly-data.ensures.upper_bound c.is_empty.ensures refl c.newly-empty.ensures.value c.newly-empty.ensures.upper_bound
