-- `register` meets its contract. Each return is the rule of the register at its offset.
use Rattle.std.proofs.Common.{sym, ap, ◌∙◌, arith}
use Rattle.clock.specs.Registers.{says}
use Rattle.clock.specs.Layout.{clock_of}
use Rattle.clock.proofs.Registers.{reads_dr, reads_mr, reads_lr, reads_cr, reads_imsc, reads_ris, reads_mis, reads_id, reads_nothing}
use Rattle.clock.proofs.register.Goals as goal

pub returns-then-offset-eq-RTCDR : goal.returns-then-offset-eq-RTCDR
unfolding clock_of
returns-then-offset-eq-RTCDR c =
    let a = c.args in
    ap says (rw c.seconds.ensures at c.counter.ensures) ∙ sym (reads_dr (clock_of a.clock.now) a.time a.offset c.if-offset-eq-RTCDR.true)

pub returns-in-4 : goal.returns-in-4
unfolding clock_of
returns-in-4 c = let a = c.args in sym (reads_mr (clock_of a.clock.now) a.time a.offset c.in-4.is)

pub returns-in-8 : goal.returns-in-8
unfolding clock_of
returns-in-8 c = let a = c.args in sym (reads_lr (clock_of a.clock.now) a.time a.offset c.in-8.is)

pub returns-in-12 : goal.returns-in-12
unfolding clock_of
returns-in-12 c = let a = c.args in sym (reads_cr (clock_of a.clock.now) a.time a.offset c.in-12.is)

pub returns-in-16 : goal.returns-in-16
unfolding clock_of
returns-in-16 c = let a = c.args in sym (reads_imsc (clock_of a.clock.now) a.time a.offset c.in-16.is)

pub returns-in-20 : goal.returns-in-20
unfolding clock_of
returns-in-20 c = let a = c.args in sym (reads_ris (clock_of a.clock.now) a.time a.offset c.in-20.is)

pub returns-in-24 : goal.returns-in-24
unfolding clock_of
returns-in-24 c = let a = c.args in sym (reads_mis (clock_of a.clock.now) a.time a.offset c.in-24.is)

pub returns-in-4064-to-4095 : goal.returns-in-4064-to-4095
returns-in-4064-to-4095 c =
    let a = c.args in
    ap says c.identity.ensures ∙ sym (reads_id (clock_of a.clock.now) a.time a.offset (omega arith) (omega arith))

pub returns-in_default : goal.returns-in_default
returns-in_default c =
    let a = c.args in
    sym
    (reads_nothing (clock_of a.clock.now) a.time a.offset c.if-offset-eq-RTCDR.false (λ e. omega arith) (λ e. omega arith)
    (λ e. omega arith) (λ e. omega arith) (λ e. omega arith) (λ e. omega arith) (λ l h. omega arith))

pub returns-in_default-2 : goal.returns-in_default-2
returns-in_default-2 c =
    let a = c.args in
    sym
    (reads_nothing (clock_of a.clock.now) a.time a.offset c.if-offset-eq-RTCDR.false (λ e. omega arith) (λ e. omega arith)
    (λ e. omega arith) (λ e. omega arith) (λ e. omega arith) (λ e. omega arith) (λ l h. omega arith))
