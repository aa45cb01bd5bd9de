-- Each answer is a law of `Sending`.
use mathlib.Core.Path.{sym, ◌∙◌}
use native.Mathlib.Omega.{arith}
use Rattle.serial.specs.Layout.{port_of}
use Rattle.serial.proofs.Sending.{loops, sends}
use Rattle.serial.proofs.transmitter.write_thr.Goals as goal

pub returns-then-is_loop : goal.returns-then-is_loop
unfolding port_of
returns-then-is_loop c =
    let a = c.args in
    loops a.regs.now a.pos.now a.ring.now a.value _ (sym c.is_loop.ensures ∙ c.if-is_loop.true) c.write_loop.ensures

pub returns : goal.returns
unfolding port_of
returns c =
    let a = c.args in
    sends a.regs.now a.pos.now a.ring.now c.told-regs a.value (sym c.is_loop.ensures ∙ c.if-is_loop.false) c.emptied-raises.ensures
    (omega (arith, c.from.ensures))
