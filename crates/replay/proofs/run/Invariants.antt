-- Some run comes to each turn.
use Rattle.pieces.specs.Pieces.{Sound, Answered}
use Rattle.lines.specs.Runs.{Ran}
use Rattle.replay.proofs.run.Given as goal

abbrev pub invariant-loop : goal.invariant-loop
invariant-loop g l = record {
  sound : Sound l.turn.state;
  answered : Answered l.turn.state;
  ran : Ran l.held l.out l.turn;
}
