-- What a write of IER is in the definition.
use mathlib.Core.Path.{◌≡◌}
use mathlib.Core.Bool.{not}
use mathlib.Core.List.{List}
use Rattle.std.proofs.Common.{Option, unwrap_or}
use Prim.Native.Nat.{ℕ, ◌*◌}
use native.Mathlib.Omega.{arith}
use lib.Dec.{eqb}
use lib.ListN.{length, get_or, set}
use lib.Seq.{get_or-set_other}
use Rattle.interrupts.specs.Interrupts.{ier_stored, enabling}
use Rattle.interrupts.specs.Calls.{Tells}
use Rattle.serial.specs.Port.{write_ier}
use Rattle.serial.specs.Layout.{port_of}
use Rattle.common.specs.Answer.{one_raise}
use Rattle.serial.specs.Calls.{Writes}
use Rattle.serial.proofs.Leaves.{waits_is}
use Rattle.serial.proofs.Registers.{one_stored, then_stored, enabled}
use Rattle.serial.proofs.Answering.{registers_alone}

-- IER is stored, and then IIR.
pub writes_ier : (regs pos ring : List ℕ) → length regs ≡ 16 → (v w : ℕ) → w ≡ ier_stored v → {iir : Option ℕ} {raises r : ℕ}
    → Tells (enabling (get_or regs 1 0) w (get_or regs 2 0) (not (eqb (get_or pos 1 0) 0))) (get_or regs 2 0) iir raises 2
    → r ≡ one_raise * raises
    → Writes (λ q. write_ier q v) regs pos ring (set (set regs 1 w) 2 (unwrap_or iir (get_or (set regs 1 w) 2 0))) pos ring r
unfolding port_of write_ier
writes_ier regs pos ring n v w s t h =
    rw (waits_is regs pos ring, get_or-set_other regs 1 2 w 0 (λ x. omega arith), t.stored, s)
    (registers_alone n (then_stored 2 _ (omega arith) (one_stored regs 1 _ (omega arith))) (enabled regs pos ring n _ _) (rw (h, t.raised, s) (omega arith)))
