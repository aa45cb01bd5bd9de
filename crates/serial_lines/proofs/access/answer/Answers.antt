-- By the access; each answer is a law of `Answering`.
use Rattle.serial_lines.proofs.Answering.{by_access}
use Rattle.serial_lines.proofs.access.answer.Goals as goal

pub returns-in-InputBytes-clause-answers_port : goal.returns-in-InputBytes-clause-answers_port
returns-in-InputBytes-clause-answers_port c = λ kept. by_access _ c.in-InputBytes.is (c.input_of.ensures _)

pub returns-in-RestoreBytes-clause-answers_port : goal.returns-in-RestoreBytes-clause-answers_port
returns-in-RestoreBytes-clause-answers_port c = λ kept. by_access _ c.in-RestoreBytes.is (c.restore_given.ensures _)
