-- Each answer is a law of `Pairs`.
use Rattle.std.proofs.Common.{◌≡◌, None, sym, arith, rules}
use Rattle.words.proofs.Pairs.{nothing_there, odd, too_many, high_fails, low_fails, one_more, all_there}
use Rattle.words.proofs.hex.bytes_from.Goals as goal

pub returns-then-line-from-clause-gives : goal.returns-then-line-from-clause-gives
returns-then-line-from-clause-gives c = nothing_there _ _ c.if-line-from.true

pub returns-then-digits-ne0-clause-gives : goal.returns-then-digits-ne0-clause-gives
returns-then-digits-ne0-clause-gives c = odd c.args.line.now _ c.if-digits-ne0.true

pub returns-then-count-gt4096-clause-gives : goal.returns-then-count-gt4096-clause-gives
returns-then-count-gt4096-clause-gives c = too_many c.args.line.now c.args.from c.if-count-gt4096.true

pub returns-in_err-high-clause-gives : goal.returns-in_err-high-clause-gives
returns-in_err-high-clause-gives c =
    let e : c.from_residual.result ≡ None = search rules in
    rw e (high_fails _ _ _ _ c.loop-i.invariant (omega arith) (sym c.in_err-high.ensures.value))

pub returns-in_err-low-clause-gives : goal.returns-in_err-low-clause-gives
returns-in_err-low-clause-gives c =
    let e : c.from_residual-in_err-low.result ≡ None = search rules in
    rw e (low_fails _ _ _ _ c.loop-i.invariant (omega arith) (sym c.in_err-low.ensures.value))

pub loop-i-preserved : goal.loop-i-preserved
loop-i-preserved c = one_more _ _ _ _ c.loop-i.invariant (omega arith) (sym c.in_ok-high.ensures.value) (sym c.in_ok-low.ensures.value) (omega arith)

pub returns-clause-gives : goal.returns-clause-gives
returns-clause-gives c = all_there _ _ _ _ c.loop-i.invariant (omega arith) (omega arith) (omega arith) (omega arith)
