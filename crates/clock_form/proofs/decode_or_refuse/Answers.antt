-- `decode_or_refuse` meets its contract: each return by its lemma.
use native.Mathlib.Omega.{arith}
use Rattle.clock_form.proofs.Answers.{decode_no_version, decode_other_version, decode_cut_off, decode_left_over, decode_reads}
use Rattle.clock_form.proofs.decode_or_refuse.Goals as goal

pub returns-then-length-lt2 : goal.returns-then-length-lt2
returns-then-length-lt2 c = let a = c.args in decode_no_version a.form.now a.saved.now (omega arith)

pub returns-then-from_le_bytes-ne-CURRENT : goal.returns-then-from_le_bytes-ne-CURRENT
returns-then-from_le_bytes-ne-CURRENT c =
    let a = c.args in
    decode_other_version a.form.now a.saved.now (omega arith) c.from_le_bytes.ensures c.if-from_le_bytes-ne-CURRENT.true

pub returns-then-length-lt-LENGTH : goal.returns-then-length-lt-LENGTH
returns-then-length-lt-LENGTH c =
    let a = c.args in
    decode_cut_off a.form.now a.saved.now (omega arith) c.from_le_bytes.ensures c.if-from_le_bytes-ne-CURRENT.false (omega arith)

pub returns-then-length-gt-LENGTH : goal.returns-then-length-gt-LENGTH
returns-then-length-gt-LENGTH c =
    let a = c.args in
    decode_left_over a.form.now a.saved.now (omega arith) c.from_le_bytes.ensures c.if-from_le_bytes-ne-CURRENT.false (omega arith)

pub returns : goal.returns
returns c =
    let a = c.args in
    decode_reads a.form.now a.saved.now (omega arith) c.from_le_bytes.ensures c.if-from_le_bytes-ne-CURRENT.false (omega arith) c.read.ensures
