-- Each answer is a law of `Addressing` or `Reading`.
use mathlib.Core.Path.{◌≡◌, refl, sym, ◌∙◌}
use native.Mathlib.Omega.{arith}
use Prim.Native.Nat.{ℕ, ◌≤◌}
use Rattle.serial.specs.Port.{addressed, read_register}
use Rattle.serial.specs.Layout.{port_of}
use Rattle.serial.proofs.Addressing.{at_dll, at_dlm, at_data, at_ier, at_iir, at_reserved}
use Rattle.serial.proofs.Reading.{answers, answers_at, answers_kept, hands_on}
use Rattle.serial.proofs.read.Goals as goal

from_two : (offset : ℕ) → (offset ≡ 0 → ⊥) → (offset ≡ 1 → ⊥) → 2 ≤ offset
from_two offset a b = omega arith

pub returns-then-is_open : goal.returns-then-is_open
unfolding port_of read_register
returns-then-is_open c = let a = c.args in answers a.regs.now a.pos.now a.ring.now a.offset _ (at_dll _ _ (sym c.is_open.ensures ∙ c.if-is_open.true) c.if-offset-eq0.true) refl c.from.ensures

pub returns-then-offset-eq0 : goal.returns-then-offset-eq0
unfolding port_of read_register
returns-then-offset-eq0 c = let a = c.args in hands_on a.regs.now a.pos.now a.ring.now a.offset _ (at_data _ _ (sym c.is_open.ensures ∙ c.if-is_open.false) c.if-offset-eq0.true) c.read_rbr.ensures

pub returns-then-is_status_or_control : goal.returns-then-is_status_or_control
unfolding port_of
returns-then-is_status_or_control c = let a = c.args in let k = c.is_status_or_control.ensures.le_offset c.if-is_status_or_control.true in answers_kept a.regs.now a.pos.now a.ring.now a.offset _ k.0 k.1 (c.from-then-is_status_or_control.ensures ∙ c.at.ensures)

pub returns-then-is_open-2 : goal.returns-then-is_open-2
unfolding port_of read_register
returns-then-is_open-2 c = let a = c.args in let one = c.in-1.is in answers a.regs.now a.pos.now a.ring.now a.offset _ (at_dlm _ _ (sym c.is_open-in-1.ensures ∙ c.if-is_open-2.true) (omega (arith, one)) (λ z. omega (arith, one))) refl c.from-then-is_open-2.ensures

pub returns-else-is_open-2 : goal.returns-else-is_open-2
unfolding port_of read_register
returns-else-is_open-2 c = let a = c.args in let one = c.in-1.is in answers a.regs.now a.pos.now a.ring.now a.offset _ (at_ier _ _ (sym c.is_open-in-1.ensures ∙ c.if-is_open-2.false) (omega (arith, one)) (λ z. omega (arith, one))) refl c.from-else-is_open-2.ensures

pub returns-in-2 : goal.returns-in-2
unfolding port_of read_register
returns-in-2 c = let a = c.args in hands_on a.regs.now a.pos.now a.ring.now a.offset _ (at_iir _ _ c.in-2.is) (c.read.ensures _)

pub returns-in-6 : goal.returns-in-6
unfolding port_of addressed read_register
returns-in-6 c = let a = c.args in answers_at a.regs.now a.pos.now a.ring.now a.offset _ 6 c.in-6.is refl (c.from-in-6.ensures ∙ c.msr_read.ensures)

pub returns-in-7 : goal.returns-in-7
unfolding port_of addressed read_register
returns-in-7 c = let a = c.args in answers_at a.regs.now a.pos.now a.ring.now a.offset _ 7 c.in-7.is refl c.from-in-7.ensures

pub returns-in_default : goal.returns-in_default
unfolding port_of read_register
returns-in_default c =
    let a = c.args in
    let m = c.in_default.in_default-own.rest in
    let zero = c.if-offset-eq0.false in
    let kept = c.is_status_or_control.ensures.fact c.if-is_status_or_control.false in
    answers a.regs.now a.pos.now a.ring.now a.offset _
    (at_reserved _ _ (from_two _ zero m.0.0.0.1) m.0.0.1 (λ e. kept (omega (arith, e)) (omega (arith, e))) (λ e. kept (omega (arith, e)) (omega (arith, e))) (λ e. kept (omega (arith, e)) (omega (arith, e))) m.0.1 m.1) refl refl
