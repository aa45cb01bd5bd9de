-- `play_one` meets its contract: each arm is one of the four operations.
use Rattle.play.proofs.Words.{answers_read, answers_write, answers_input, answers_room}
use Rattle.play.proofs.play_one.Goals as goal

pub returns-in-0 : goal.returns-in-0
returns-in-0 c =
    let g = c.args in
    answers_read g.kind g.a g.b g.bytes.now c.in-0.is c.read.ensures

pub returns-in-1 : goal.returns-in-1
returns-in-1 c =
    let g = c.args in
    answers_write g.kind g.a g.b g.bytes.now c.in-1.is c.write.ensures

pub returns-in-2 : goal.returns-in-2
returns-in-2 c =
    let g = c.args in
    answers_input g.kind g.a g.b g.bytes.now c.in-2.is c.input.ensures

pub returns-in_default : goal.returns-in_default
returns-in_default c =
    let g = c.args in
    let m = c.in_default.in_default-own.rest in
    answers_room g.kind g.a g.b g.bytes.now m.0.0.1 m.0.1 m.1 (c.room.ensures _)
