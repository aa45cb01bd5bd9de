-- Each answer is a law of `Looping`.
use native.Mathlib.Omega.{arith}
use mathlib.Core.Path.{refl}
use Rattle.serial.proofs.Looping.{loop_drops, loop_receives}
use Rattle.serial.proofs.transmitter.write_loop.Goals as goal

pub returns-then-size-n : goal.returns-then-size-n
returns-then-size-n c = let a = c.args in loop_drops a.regs.now a.pos.now a.ring.now c.told-regs _ refl a.value c.emptied-raises.ensures (omega (arith, c.if-size-n.true, c.size-size.ensures)) (omega arith)

pub returns : goal.returns
returns c = let a = c.args in loop_receives a.regs.now a.pos.now a.ring.now c.told-regs _ refl a.value c.told-pos c.emptied-raises.ensures (omega (arith, c.if-size-n.false, c.size-size.ensures)) c.push.ensures c.receive.ensures (omega arith)
