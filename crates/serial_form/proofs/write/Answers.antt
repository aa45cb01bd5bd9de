use Rattle.serial_form.proofs.Answers.{writes}
use Rattle.serial_form.proofs.write.Goals as goal

pub returns : goal.returns
returns c =
    let a = c.args in
    writes a.saved.now a.waiting.now a.form.now c.told-saved c.put_number.ensures c.put.ensures
    c.put-2.ensures c.put_number-2.ensures c.put-3.ensures
