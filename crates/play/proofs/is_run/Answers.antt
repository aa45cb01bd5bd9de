use native.Mathlib.Omega.{arith}
use Rattle.play.proofs.Decoding.{uneven, scanned_no_kind, scanned_few, scanned_next, scanned_all}
use Rattle.play.proofs.is_run.Goals as goal

pub returns-then-ops-ne0 : goal.returns-then-ops-ne0
returns-then-ops-ne0 c = uneven _ _ c.if-ops-ne0.true

pub returns-in_default : goal.returns-in_default
returns-in_default c = scanned_no_kind _ _ _ _ c.loop-i.invariant c.if-ops-ne0.false c.loop-i-test.true c.in_default.ensures

pub returns-then-inputs-from : goal.returns-then-inputs-from
returns-then-inputs-from c =
    scanned_few _ _ _ _ c.loop-i.invariant c.if-ops-ne0.false c.loop-i-test.true c.in-Ok.kind c.in-Ok.ensures c.input_bytes-n.ensures
    c.if-inputs-from.true

pub loop-i-preserved : goal.loop-i-preserved
loop-i-preserved c =
    scanned_next _ _ _ _ c.loop-i.invariant c.if-ops-ne0.false c.loop-i-test.true c.in-Ok.kind c.in-Ok.ensures c.input_bytes-n.ensures
    c.if-inputs-from.false

pub returns : goal.returns
returns c = scanned_all _ _ _ _ c.loop-i.invariant c.if-ops-ne0.false (omega (arith, c.loop-i-test.false, c.if-ops-ne0.false))
