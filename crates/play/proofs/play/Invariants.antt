-- The loop's invariant: the run is what the operations played so far did and what is left does.
use Rattle.serial.specs.Layout.{port_of}
use Rattle.play.proofs.Playing.{Playing, Through}
use Rattle.play.proofs.play.Given as goal

abbrev pub invariant-loop-i : goal.invariant-loop-i
invariant-loop-i l =
    Playing (port_of l.initial.regs l.initial.pos l.initial.ring) l.ops l.inputs l.initial.answers (port_of l.regs l.pos l.ring) l.answers l.i l.from × Through l.initial.regs l.initial.pos l.initial.ring l.ops l.inputs l.regs l.pos l.ring l.answers l.i l.from
