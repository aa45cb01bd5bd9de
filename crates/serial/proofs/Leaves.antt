-- What each answer of the leaves is in the definition.
use mathlib.Core.Path.{◌≡◌, refl, sym}
use mathlib.Core.Bool.{false, not}
use mathlib.Core.List.{List, [], ◌∷◌}
use Prim.Native.Nat.{ℕ, zero, suc, min}
use native.Mathlib.Omega.{arith}
use lib.Dec.{eqb}
use lib.ListN.{get_or, set}
use lib.Seq.{set-get_or, get_or-set_other}
use borrow.Author.Tests.{ne_eqb}
use Rattle.common.specs.Lists.{some}
use Rattle.ring.specs.Ring.{queue}
use Rattle.line_status.specs.LineStatus.{lsr_after_read}
use Rattle.serial.specs.Layout.{places, start_of, port_of}
use Rattle.serial.specs.Inside.{WaitAfterRead}

-- ---- LSR stays where IIR is stored

pub lsr_stays : (regs : List ℕ) (iir : ℕ) → get_or (set regs 2 iir) 5 0 ≡ get_or regs 5 0
lsr_stays regs iir = get_or-set_other regs 2 5 iir 0 (λ x. omega arith)

-- ---- Whether a byte waits

pub waits_is : (regs pos ring : List ℕ) → some (port_of regs pos ring).waiting ≡ not (eqb (get_or pos 1 0) 0)
unfolding port_of queue
waits_is regs pos ring = go (get_or pos 1 0)
  where
    go : (n : ℕ) → some (queue places ring (start_of pos) (min n places)) ≡ not (eqb n 0)
    go zero = refl
    go (suc n) = let k : min (suc n) places ≡ suc (min n 1023) = omega arith in rw (k, ne_eqb (suc n) 0 (λ z. omega arith))

-- ---- LSR by the number of bytes that are left

pub none_left : (regs : List ℕ) (n lsr : ℕ) → n ≡ 0 → lsr ≡ lsr_after_read false (get_or regs 5 0) → WaitAfterRead regs n (set regs 5 lsr)
none_left regs n lsr z l [] e = rw l
none_left regs n lsr z l (x ∷ xs) e = absurd (omega arith)

pub some_left : (regs : List ℕ) (n : ℕ) → (n ≡ 0 → ⊥) → WaitAfterRead regs n regs
unfolding lsr_after_read
some_left regs n z [] e = absurd (z (sym e))
some_left regs n z (x ∷ xs) e = sym (set-get_or regs 5 0)
