-- Each answer is a law of `Digits`.
use Rattle.words.proofs.Digits.{none_yet, one_more}
use Rattle.words.proofs.hex.put_digits.Goals as goal

pub loop-i-init : goal.loop-i-init
loop-i-init c = none_yet _ _ c.requires

pub loop-i-preserved : goal.loop-i-preserved
loop-i-preserved c = rw (c.digit.ensures, c.digit-in-loop-i.ensures) (one_more _ _ _ c.loop-i-test.true c.loop-i.invariant)
