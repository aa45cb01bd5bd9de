use mathlib.Core.Path.{refl}
use Rattle.serial_form.specs.Form.{number_of}
use Rattle.serial_form.proofs.Reading.{of_none}
use Rattle.serial_form.proofs.version.VersionTryFromU16.try_from.Goals as goal

pub returns-then-number-eq-CURRENT : goal.returns-then-number-eq-CURRENT
unfolding number_of
returns-then-number-eq-CURRENT c = c.if-number-eq-CURRENT.true

pub returns-then-number-eq-BEFORE : goal.returns-then-number-eq-BEFORE
unfolding number_of
returns-then-number-eq-BEFORE c = c.if-number-eq-BEFORE.true

pub returns : goal.returns
returns c = (refl, of_none c.if-number-eq-CURRENT.false c.if-number-eq-BEFORE.false)
