-- `write` meets its contract. Each return is the rule of the register at its offset.
use Rattle.clock.specs.Layout.{clock_of}
use Rattle.clock.proofs.Bytes.{number_same}
use Rattle.clock.proofs.Registers.{writes_mr, writes_imsc, writes_icr, writes_nothing}
use Rattle.clock.proofs.Stores.{stores_mr, stores_imsc, stores_ris}
use Rattle.clock.proofs.Steps.{changes, changes_nothing, sets, restarts, runs_on}
use Rattle.std.proofs.Common.{◌∙◌, arith}
use Rattle.clock.proofs.write.Goals as goal

pub returns-in-4 : goal.returns-in-4
returns-in-4 c =
    let a = c.args in
    let v = c.from_le_bytes-value in
    let is = v.ensures ∙ number_same a.bytes.now c.told-bytes in
    rw (← is) (changes (writes_mr (clock_of a.clock.now) a.time a.offset v.result c.in-4.is) (stores_mr a.clock.now c.told-clock v.result))

pub returns-in-8 : goal.returns-in-8
returns-in-8 c =
    let a = c.args in
    let v = c.from_le_bytes-value in
    let is = v.ensures ∙ number_same a.bytes.now c.told-bytes in
    rw (← is) (sets a.clock.now a.time a.offset v.result c.in-8.is c.seconds.ensures c.difference.ensures c.adjust.ensures)

pub returns-then-value-eq1 : goal.returns-then-value-eq1
returns-then-value-eq1 c =
    let a = c.args in
    let v = c.from_le_bytes-value in
    let is = v.ensures ∙ number_same a.bytes.now c.told-bytes in
    rw (← is) (restarts a.clock.now a.time a.offset v.result c.in-12.is c.if-value-eq1.true c.adjust-then-value-eq1.ensures)

pub returns-else-value-eq1 : goal.returns-else-value-eq1
returns-else-value-eq1 c =
    let a = c.args in
    let v = c.from_le_bytes-value in
    let is = v.ensures ∙ number_same a.bytes.now c.told-bytes in
    rw (← is) (runs_on a.clock.now a.time a.offset v.result c.in-12.is c.if-value-eq1.false)

pub returns-in-16 : goal.returns-in-16
returns-in-16 c =
    let a = c.args in
    let v = c.from_le_bytes-value in
    let is = v.ensures ∙ number_same a.bytes.now c.told-bytes in
    rw (← is) (changes (writes_imsc (clock_of a.clock.now) a.time a.offset v.result c.in-16.is) (stores_imsc a.clock.now c.told-clock _))

pub returns-in-28 : goal.returns-in-28
unfolding clock_of
returns-in-28 c =
    let a = c.args in
    let v = c.from_le_bytes-value in
    let is = v.ensures ∙ number_same a.bytes.now c.told-bytes in
    rw (← is) (changes (writes_icr (clock_of a.clock.now) a.time a.offset v.result c.in-28.is) (stores_ris a.clock.now c.told-clock _))

pub returns-in_default : goal.returns-in_default
returns-in_default c =
    let a = c.args in
    let v = c.from_le_bytes-value in
    let is = v.ensures ∙ number_same a.bytes.now c.told-bytes in
    rw (← is)
    (changes_nothing
    (writes_nothing (clock_of a.clock.now) a.time a.offset v.result (λ e. omega arith) (λ e. omega arith) (λ e. omega arith)
    (λ e. omega arith) (λ e. omega arith)))
