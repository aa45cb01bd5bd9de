use borrow.Author.Rules.{rules}
use Rattle.common.specs.Bytes.{bytes_of}
use Rattle.serial_form.proofs.put_number.Goals as goal

pub returns : goal.returns
unfolding bytes_of
returns c = search rules
