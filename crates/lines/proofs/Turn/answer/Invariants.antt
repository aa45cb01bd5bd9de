-- The place stays sound with each line, and each line is one more of the turn.
use Prim.Native.Nat.{◌-◌}
use Rattle.pieces.specs.Pieces.{Sound}
use Rattle.lines.specs.Inside.{Turns}
use Rattle.lines.proofs.Turn.answer.Given as goal

abbrev pub invariant-loop-self : goal.invariant-loop-self
invariant-loop-self l = record {
  sound : Sound l.self.state;
  turns : Turns l.held l.initial.self.state l.initial.self.devices l.initial.out l.out l.self.state l.self.devices;
}

abbrev pub decreases-loop-self : goal.decreases-loop-self
decreases-loop-self l = l.self.state.end - l.self.state.seen
