-- Each line is one more of the turn, by `Turning`.
use native.Mathlib.Omega.{arith}
use Rattle.lines.proofs.Turning.{turn_begins, turn_goes_on}
use Rattle.lines.proofs.Turn.answer.Goals as goal

pub loop-self-init : goal.loop-self-init
loop-self-init c = record { sound = c.requires; turns = turn_begins _ _ _ _ }

pub loop-self-preserved : goal.loop-self-preserved
loop-self-preserved c =
    let i = c.loop-self.invariant in
    let u = c.next_line-cut.ensures.cuts in
    record {
      sound = record { started = u.started; short = u.short; searched = u.searched; held = i.sound.held };
      turns =
          turn_goes_on i.turns i.sound.started c.loop-self-test.true (omega (arith, i.sound.held)) u c.next_line-cut.ensures.value c.answer.ensures;
    }
