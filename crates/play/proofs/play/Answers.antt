use mathlib.Core.Path.{sym, ◌∙◌}
use Prim.Native.Nat.{◌+◌, ◌*◌, ◌<◌, ◌≤◌}
use native.Mathlib.Omega.{arith}
use lib.ListN.{length}
use Rattle.play.proofs.Playing.{next_kind, next_bytes, playing_next, through_next, refuses_too_many, plays_all}
use Rattle.play.proofs.play.Goals as goal

pub returns-then-answers-count : goal.returns-then-answers-count
returns-then-answers-count c = let g = c.args in refuses_too_many _ _ _ g.ops.now g.inputs.now g.answers.now (omega (arith, c.if-answers-count.true))

pub of-requires : goal.of-requires
of-requires c =
    let whole : 3 * c.loop-i.i + 3 ≤ length c.args.ops.now = omega (arith, c.loop-i-test.true) in
    next_kind _ _ _ _ _ _ _ _ c.loop-i.invariant.0 whole

pub slice_bounds-play_one-end : goal.slice_bounds-play_one-end
slice_bounds-play_one-end c =
    let whole : 3 * c.loop-i.i + 3 ≤ length c.args.ops.now = omega (arith, c.loop-i-test.true) in
    let lent = rw (← c.of.ensures) at c.input_bytes.ensures in
    omega (arith, next_bytes _ _ _ _ _ _ _ _ c.loop-i.invariant.0 whole, lent, c.loop-i.invariant.0.inside)

pub loop-i-preserved : goal.loop-i-preserved
loop-i-preserved c =
    let inv = c.loop-i.invariant in
    let whole : 3 * c.loop-i.i + 3 ≤ length c.args.ops.now = omega (arith, c.loop-i-test.true) in
    let place : c.loop-i.i < length c.args.answers.now = omega (arith, c.loop-i-test.true, c.if-answers-count.false) in
    let a = c.play_one.ensures in
    let lent = rw (← c.of.ensures) at c.input_bytes.ensures in (
      playing_next _ _ _ _ _ _ _ _ inv.0 whole _ _ _ place lent (record { port = a.holds; answer = a.answer }),
      through_next _ _ _ _ _ _ _ _ inv.0 whole _ _ place lent inv.1 a,
    )

pub returns : goal.returns
returns c =
    plays_all _ _ _ _ _ _ (sym c.is_run.ensures ∙ c.if-not-is_run.false) c.if-answers-count.false _ _ _ _ _ _ c.loop-i.invariant.0 c.loop-i.invariant.1 c.loop-i-test.false
