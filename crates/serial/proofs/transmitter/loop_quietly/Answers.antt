-- Each answer is a law of `Looping`.
use native.Mathlib.Omega.{arith}
use mathlib.Core.Path.{refl}
use Rattle.serial.proofs.Looping.{loop_drops, loop_receives}
use Rattle.serial.proofs.Quiet.{quiet_emptied}
use Rattle.serial.proofs.transmitter.loop_quietly.Goals as goal

pub returns-then-size-n : goal.returns-then-size-n
returns-then-size-n c = let a = c.args in loop_drops a.regs.now a.pos.now a.ring.now c.told-regs _ refl a.value (quiet_emptied a.regs.now c.requires _) (omega (arith, c.if-size-n.true, c.size.ensures)) refl

pub returns : goal.returns
returns c = let a = c.args in loop_receives a.regs.now a.pos.now a.ring.now c.told-regs _ refl a.value c.told-pos (quiet_emptied a.regs.now c.requires _) (omega (arith, c.if-size-n.false, c.size.ensures)) c.push.ensures c.receive_quietly.ensures refl
