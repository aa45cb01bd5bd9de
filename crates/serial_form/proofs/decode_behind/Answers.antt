use native.Mathlib.Omega.{arith}
use mathlib.Core.Path.{refl}
use Rattle.common.specs.Forms.{too_short, trailing, too_many}
use Rattle.serial_form.proofs.Reading.{too_many_lem, too_few_lem, left_over_lem}
use Rattle.serial_form.proofs.Answers.{refuses, accepts}
use Rattle.serial_form.proofs.decode_behind.Goals as goal

pub returns-then-size-n : goal.returns-then-size-n
returns-then-size-n c = refuses too_many _ _ (too_many_lem _ _ _ (omega (arith, c.size.ensures)))

pub returns-then-bytes-n : goal.returns-then-bytes-n
returns-then-bytes-n c = refuses too_short _ _ (too_few_lem _ _ _ (omega (arith, c.size.ensures)) c.if-bytes-n.true)

pub returns-then-n-bytes : goal.returns-then-n-bytes
returns-then-n-bytes c = refuses trailing _ _ (left_over_lem _ _ _ (omega (arith, c.size.ensures)) c.if-n-bytes.true)

pub returns : goal.returns
returns c = accepts _ _ _ _ _ (omega (arith, c.size.ensures)) (omega arith) c.told-waiting refl c.put.ensures
