-- Each answer is a law of `Receiving`.
use native.Mathlib.Omega.{arith}
use mathlib.Core.Path.{refl, sym, ◌∙◌}
use Rattle.serial.specs.Layout.{port_of}
use Rattle.serial.proofs.Receiving.{line_cut, line_idle, line_full, line_receives}
use Rattle.serial.proofs.input.Goals as goal

pub returns-then-is_loop : goal.returns-then-is_loop
unfolding port_of
returns-then-is_loop c = let a = c.args in line_cut a.regs.now a.pos.now a.ring.now _ (sym c.is_loop.ensures ∙ c.if-is_loop.true)

pub returns-then-len-eq0 : goal.returns-then-len-eq0
unfolding port_of
returns-then-len-eq0 c = let a = c.args in line_idle a.regs.now a.pos.now a.ring.now _ (sym c.is_loop.ensures ∙ c.if-is_loop.false) (omega arith)

pub returns-then-size-n : goal.returns-then-size-n
unfolding port_of
returns-then-size-n c = let a = c.args in line_full a.regs.now a.pos.now a.ring.now _ (sym c.is_loop.ensures ∙ c.if-is_loop.false) c.if-len-eq0.false (omega (arith, c.if-size-n.true, c.size-size.ensures))

pub returns : goal.returns
unfolding port_of
returns c = let a = c.args in line_receives a.regs.now a.pos.now a.ring.now _ (sym c.is_loop.ensures ∙ c.if-is_loop.false) c.if-len-eq0.false c.told-regs c.told-pos _ _ refl (omega (arith, c.if-size-n.false, c.size-size.ensures)) (omega (arith, c.min-k.ensures, c.size-size.ensures)) c.fill.ensures c.receive.ensures refl
