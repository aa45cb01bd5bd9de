use borrow.Author.Rules.{rules}
use Rattle.common.specs.Bytes.{value_of}
use Rattle.serial_form.proofs.number.Goals as goal

pub returns : goal.returns
unfolding value_of
returns c = search rules
