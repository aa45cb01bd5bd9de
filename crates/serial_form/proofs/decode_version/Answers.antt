use native.Mathlib.Omega.{arith}
use Rattle.common.specs.Forms.{too_short}
use Rattle.serial_form.specs.Inside.{version_of}
use Rattle.serial_form.proofs.Reading.{no_count, has_version}
use Rattle.serial_form.proofs.Answers.{refuses, brings_version}
use Rattle.serial_form.proofs.decode_version.Goals as goal

pub returns-then-form-start : goal.returns-then-form-start
returns-then-form-start c =
    refuses too_short _ _ (no_count _ (version_of c.args.version) (rw c.start-start.ensures at c.if-form-start.true))

pub overflow_sub-start : goal.overflow_sub-start
overflow_sub-start c = omega (arith, c.start-start.ensures, has_version (version_of c.args.version))

pub bounds-form-start : goal.bounds-form-start
bounds-form-start c = omega (arith, c.start-start.ensures, has_version (version_of c.args.version))

pub overflow_sub-start-2 : goal.overflow_sub-start-2
overflow_sub-start-2 c = omega (arith, c.start-start.ensures, has_version (version_of c.args.version))

pub bounds-form-start-2 : goal.bounds-form-start-2
bounds-form-start-2 c = omega (arith, c.start-start.ensures, has_version (version_of c.args.version))

pub returns : goal.returns
returns c =
    brings_version c.args.form.now _ _ (version_of c.args.version) c.start-start.ensures c.if-form-start.false c.registers.ensures c.number.ensures
    c.decode_behind.ensures
