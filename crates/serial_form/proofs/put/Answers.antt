-- The loop's invariant and its laws are of `Copying`.
use Rattle.serial_form.proofs.Copying.{one_more, all_there}
use Rattle.serial_form.proofs.put.Goals as goal

pub loop-i-preserved : goal.loop-i-preserved
loop-i-preserved c = one_more _ _ _ c.requires _ _ c.loop-i-test.true c.loop-i.invariant

pub returns : goal.returns
returns c = all_there _ _ _ c.requires _ _ c.loop-i-test.false c.loop-i.invariant
