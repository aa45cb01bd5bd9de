-- `write` meets its contract. The version and six words, one behind another, are the form.
use Rattle.clock_form.proofs.Numbers.{writes}
use Rattle.clock_form.proofs.write.Goals as goal

pub returns : goal.returns
returns c =
    writes _ _ c.told-saved c.put_version.ensures c.put_word.ensures c.put_word-2.ensures c.put_word-3.ensures
    c.put_word-4.ensures c.put_word-5.ensures c.put_word-6.ensures
