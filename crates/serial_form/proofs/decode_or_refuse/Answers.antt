use mathlib.Core.Path.{sym, ◌∙◌}
use native.Mathlib.Omega.{arith}
use Rattle.common.specs.Forms.{too_short}
use Rattle.serial_form.specs.Inside.{version_of}
use Rattle.serial_form.proofs.Reading.{no_version_lem, known_version, other_version_lem, version_found}
use Rattle.serial_form.proofs.Answers.{refuses, passes_on, goes_on}
use Rattle.serial_form.proofs.decode_or_refuse.Goals as goal

pub returns-then-form-lt-REGISTERS : goal.returns-then-form-lt-REGISTERS
returns-then-form-lt-REGISTERS c = refuses too_short _ _ (no_version_lem _ c.if-form-lt-REGISTERS.true)

pub returns-in_err-version : goal.returns-in_err-version
returns-in_err-version c =
    let found = version_found c.args.form.now (omega arith) c.number.ensures in
    let e = c.in_err-version.ensures in
    passes_on (other_version_lem c.args.form.now (omega arith) (λ v i. e.1 v (found ∙ i))) e.0 c.from_residual.ensures.1

pub returns : goal.returns
returns c =
    let v = version_of c.in_ok-version.version in
    let found = version_found c.args.form.now (omega arith) c.number.ensures in
    goes_on (known_version c.args.form.now v (omega arith) (sym found ∙ c.in_ok-version.ensures)) c.decode_version.ensures
