use Rattle.serial_form.proofs.Answers.{encodes}
use Rattle.serial_form.proofs.encode.Goals as goal

pub returns : goal.returns
returns c = encodes c.encode_or_refuse.ensures c.word.ensures
