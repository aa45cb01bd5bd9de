-- Which register an offset is, by the tests of the code.
use mathlib.Core.Path.{◌≡◌, refl}
use mathlib.Core.Bool.{Bool, true, false, cond}
use Prim.Native.Nat.{ℕ, ◌≤◌, ◌<◌}
use native.Mathlib.Omega.{arith}
use lib.Dec.{eqb}
use borrow.Author.Tests.{ne_eqb}
use Rattle.serial.specs.Port.{Port, RBR_THR, IER, IIR_FCR, LSR, MSR, DLL, DLM, reserved, addressed, becomes, write_register}

module _ (dlab : Bool) (offset : ℕ) where
  pub at_dll : dlab ≡ true → offset ≡ 0 → addressed dlab offset ≡ DLL
  unfolding addressed
  at_dll d e = rw (d, e)

  pub at_data : dlab ≡ false → offset ≡ 0 → addressed dlab offset ≡ RBR_THR
  unfolding addressed
  at_data d e = rw (d, e)

  pub at_dlm : dlab ≡ true → offset < 2 → (offset ≡ 0 → ⊥) → addressed dlab offset ≡ DLM
  unfolding addressed
  at_dlm d h e = let one : offset ≡ 1 = omega arith in rw (d, one)

  pub at_ier : dlab ≡ false → offset < 2 → (offset ≡ 0 → ⊥) → addressed dlab offset ≡ IER
  unfolding addressed
  at_ier d h e = let one : offset ≡ 1 = omega arith in rw (d, one)

  pub at_iir : offset ≡ 2 → addressed dlab offset ≡ IIR_FCR
  unfolding addressed
  at_iir e = rw e

  pub at_reserved : 2 ≤ offset → (offset ≡ 2 → ⊥) → (offset ≡ 3 → ⊥) → (offset ≡ 4 → ⊥) → (offset ≡ 5 → ⊥) → (offset ≡ 6 → ⊥)
      → (offset ≡ 7 → ⊥) → addressed dlab offset ≡ reserved
  unfolding addressed
  at_reserved h a b c d e f =
      rw (ne_eqb offset 0 (λ z. omega arith), ne_eqb offset 1 (λ z. omega arith), ne_eqb _ _ a, ne_eqb _ _ b, ne_eqb _ _ c, ne_eqb _ _ d, ne_eqb _ _ e, ne_eqb _ _ f)

  -- Offsets 5, 6 and the reserved ones are not written.
  nothing : (p : Port) (v : ℕ) (b c : Bool) → write_register p (cond b LSR (cond c MSR reserved)) v ≡ becomes p
  unfolding write_register
  nothing p v true c = refl
  nothing p v false true = refl
  nothing p v false false = refl

  pub unwritten : (p : Port) (v : ℕ) → 2 ≤ offset → (offset ≡ 2 → ⊥) → (offset ≡ 3 → ⊥) → (offset ≡ 4 → ⊥) → (offset ≡ 7 → ⊥)
      → write_register p (addressed dlab offset) v ≡ becomes p
  unfolding addressed
  unwritten p v h i a b c =
      rw (ne_eqb offset 0 (λ z. omega arith), ne_eqb offset 1 (λ z. omega arith), ne_eqb _ _ i, ne_eqb _ _ a, ne_eqb _ _ b, ne_eqb _ _ c)
      (nothing p v (eqb offset 5) (eqb offset 6))
