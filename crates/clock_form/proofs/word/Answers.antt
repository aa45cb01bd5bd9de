-- `word` meets its contract. The library's number of the bytes is the number that they are.
use mathlib.Core.Path.{refl, ◌∙◌}
use Rattle.clock.proofs.Bytes.{number_same}
use Rattle.clock_form.proofs.Numbers.{four_at}
use Rattle.clock_form.proofs.word.Goals as goal

pub returns : goal.returns
returns c = c.from_le_bytes.ensures ∙ number_same _ refl ∙ four_at c.args.form.now c.args.at c.requires
