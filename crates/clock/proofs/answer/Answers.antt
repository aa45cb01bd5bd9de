-- `answer` meets its contract. The library's bytes of the value are its bytes.
use Rattle.std.proofs.Common.{refl, ◌∙◌}
use Rattle.clock.proofs.Bytes.{bytes_same}
use Rattle.clock.proofs.answer.Goals as goal

pub returns : goal.returns
returns c = record { bytes = c.to_le_bytes.ensures ∙ bytes_same c.args.value; answer = refl }
