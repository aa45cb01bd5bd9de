-- `read` meets its contract. Eight stores are the eight words.
use Rattle.clock_form.proofs.Numbers.{reads_words}
use Rattle.clock_form.proofs.read.Goals as goal

pub returns : goal.returns
returns c =
    reads_words c.args.form.now c.args.saved.now c.told-saved c.word.ensures c.word-2.ensures c.word-3.ensures
    c.word-4.ensures c.word-5.ensures c.word-6.ensures
