-- Each answer is a law of `Finding`.
use Rattle.pieces.proofs.Finding.{found, missed}
use Rattle.pieces.proofs.cut.find.Goals as goal

pub returns-in-Some-clause-place : goal.returns-in-Some-clause-place
returns-in-Some-clause-place c = found _ _ _ _ c.requires.from_le_to _ c.in-Some.ensures.0 c.in-Some.ensures.1

pub returns-in-None-clause-place : goal.returns-in-None-clause-place
returns-in-None-clause-place c = missed _ _ _ _ c.requires.from_le_to c.requires.to_in_bounds c.in-None.ensures
