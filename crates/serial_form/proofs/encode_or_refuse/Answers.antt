use mathlib.Core.Path.{◌∙◌}
use native.Mathlib.Omega.{arith}
use Rattle.serial_form.proofs.Answers.{as_found, encode_tells, encode_writes}
use Rattle.serial_form.proofs.encode_or_refuse.Goals as goal

pub returns-then-form-len : goal.returns-then-form-len
returns-then-form-len c =
    encode_tells _ _ _ c.told-saved (omega (arith, c.size.ensures))
    (as_found c.args.saved.now _ c.told-saved c.are_spares_zero.ensures ∙ c.if-not-are_spares_zero.false) c.if-form-len.true

pub returns : goal.returns
returns c =
    encode_writes _ _ _ c.told-saved (omega (arith, c.size.ensures))
    (as_found c.args.saved.now _ c.told-saved c.are_spares_zero.ensures ∙ c.if-not-are_spares_zero.false) (omega arith) c.write.ensures
