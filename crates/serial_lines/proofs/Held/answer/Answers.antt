-- By the line; the answer is a law of `Answering`.
use Rattle.serial_lines.proofs.Answering.{by_line}
use Rattle.serial_lines.proofs.Held.answer.Goals as goal

pub returns-in-OfPort-clause-answers_held : goal.returns-in-OfPort-clause-answers_held
returns-in-OfPort-clause-answers_held c = by_line _ _ c.parse.ensures c.in-OfPort.is (c.answer.ensures.answers_port _)
