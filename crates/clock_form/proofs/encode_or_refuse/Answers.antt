-- `encode_or_refuse` meets its contract: each return by its lemma.
use native.Mathlib.Omega.{arith}
use Rattle.clock_form.proofs.Answers.{encode_writes}
use Rattle.clock_form.proofs.encode_or_refuse.Goals as goal

pub returns : goal.returns
returns c =
    encode_writes c.args.saved.now c.args.form.now c.spare_is_zero.ensures c.if-not-spare_is_zero.false c.told-saved
    (omega arith) c.write.ensures
