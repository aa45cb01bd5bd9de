-- No kind of interrupt is enabled: what the calls that are made then promise each other.
use mathlib.Core.Path.{◌≡◌, refl, sym}
use mathlib.Core.Bool.{Bool, cond, not}
use mathlib.Core.List.{List}
use Prim.Native.Nat.{ℕ}
use native.Mathlib.Omega.{arith}
use lib.Dec.{eqb}
use lib.ListN.{get_or, set}
use lib.Seq.{set-get_or}
use Rattle.interrupts.specs.Interrupts.{none_pending}
use Rattle.interrupts.specs.Calls.{Quiet}
use Rattle.interrupts.proofs.Laws.{quiet_sent, quiet_came}
use Rattle.line_status.specs.LineStatus.{lsr_ready}
use Rattle.serial.specs.Inside.{Emptied, Received}
use Rattle.serial.proofs.Leaves.{lsr_stays}

module _ (regs : List ℕ) (quiet : Quiet (get_or regs 1 0)) where
  pub quiet_emptied : (waits : Bool) → Emptied regs waits regs 0
  quiet_emptied waits =
      let q = quiet_sent (get_or regs 1 0) quiet (get_or regs 2 0) waits in
      record { stored = sym (rw q.0 (set-get_or regs 2 0)); raised = sym q.1; once = omega arith }

  pub quiet_received : (pos : List ℕ) (n : ℕ) (waits : Bool) → waits ≡ not (eqb (get_or pos 1 0) 0) → {regs₁ : List ℕ} {lsr : ℕ}
      → regs₁ ≡ set regs 2 (cond waits (get_or regs 2 0) none_pending)
      → lsr ≡ lsr_ready (get_or regs₁ 5 0) → Received regs pos n (set regs₁ 5 lsr) (set pos 1 n) 0
  quiet_received pos n waits w e l =
      let q = quiet_came (get_or regs 1 0) quiet (get_or regs 2 0) (not (eqb (get_or pos 1 0) 0)) in
      record { stored = rw (e, l, e, lsr_stays regs _, w, q.0) refl; counted = refl; raised = sym q.1; once = omega arith }
