-- `put_word` meets its contract. The library's bytes of the number are its bytes.
use mathlib.Core.Path.{◌∙◌}
use Rattle.clock.proofs.Bytes.{bytes_same}
use Rattle.clock_form.proofs.Numbers.{four_stores}
use Rattle.clock_form.proofs.put_word.Goals as goal

pub returns : goal.returns
returns c = let a = c.args in four_stores a.form.now a.at a.n (c.to_le_bytes-bytes.ensures ∙ bytes_same a.n)
