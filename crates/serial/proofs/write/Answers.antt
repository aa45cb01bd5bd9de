-- Each answer is a law of `Sending`.
use mathlib.Core.Path.{sym, ◌∙◌}
use Rattle.serial.specs.Layout.{port_of}
use Rattle.serial.proofs.Addressing.{at_data, at_ier, at_iir}
use Rattle.serial.proofs.Sending.{stores_dll, stores_dlm, stores_lcr, stores_mcr, stores_scr, stores_nothing, transmits, enables, controls}
use Rattle.serial.proofs.write.Goals as goal

pub returns-then-offset-eq0 : goal.returns-then-offset-eq0
unfolding port_of
returns-then-offset-eq0 c = let a = c.args in stores_dll a.regs.now a.pos.now a.ring.now c.told-regs _ _ (sym c.is_open.ensures ∙ c.if-is_open.true) c.if-offset-eq0.true

pub returns-then-is_open : goal.returns-then-is_open
unfolding port_of
returns-then-is_open c = let a = c.args in stores_dlm a.regs.now a.pos.now a.ring.now c.told-regs _ _ (sym c.is_open.ensures ∙ c.if-is_open.true) c.if-offset-lt2.true c.if-offset-eq0.false

pub returns-then-offset-eq0-2 : goal.returns-then-offset-eq0-2
unfolding port_of
returns-then-offset-eq0-2 c = let a = c.args in transmits a.regs.now a.pos.now a.ring.now a.offset _ _ (at_data _ _ (sym c.is_open.ensures ∙ c.if-is_open.false) c.if-offset-eq0-2.true) c.write_thr.ensures

pub returns-then-offset-lt2 : goal.returns-then-offset-lt2
unfolding port_of
returns-then-offset-lt2 c = let a = c.args in enables a.regs.now a.pos.now a.ring.now a.offset _ _ (at_ier _ _ (sym c.is_open.ensures ∙ c.if-is_open.false) c.if-offset-lt2.true c.if-offset-eq0-2.false) (c.write.ensures _)

pub returns-in-2 : goal.returns-in-2
unfolding port_of
returns-in-2 c = let a = c.args in controls a.regs.now a.pos.now a.ring.now a.offset _ _ (at_iir _ _ c.in-2.is) (c.write-in-2.ensures _)

pub returns-in-3 : goal.returns-in-3
unfolding port_of
returns-in-3 c = let a = c.args in stores_lcr a.regs.now a.pos.now a.ring.now c.told-regs _ _ c.in-3.is

pub returns-in-4 : goal.returns-in-4
unfolding port_of
returns-in-4 c = let a = c.args in stores_mcr a.regs.now a.pos.now a.ring.now c.told-regs _ _ c.in-4.is

pub returns-in-7 : goal.returns-in-7
unfolding port_of
returns-in-7 c = let a = c.args in stores_scr a.regs.now a.pos.now a.ring.now c.told-regs _ _ c.in-7.is

pub returns-in_default : goal.returns-in_default
unfolding port_of
returns-in_default c = let a = c.args in let m = c.in_default.in_default-own.rest in stores_nothing a.regs.now a.pos.now a.ring.now a.offset _ c.if-offset-lt2.false m.0.0.0.1 m.0.0.1 m.0.1 m.1
