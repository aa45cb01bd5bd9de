-- What the line status register says after bytes have come, and after the last was read.
use mathlib.Core.Path.{◌≡◌, refl, ap, ◌∙◌}
use mathlib.Core.Bool.{true, false, not}
use Prim.Native.Nat.{ℕ}
use native.Mathlib.Omega.{arith}
use lib.Bits.{bit_and, or_mod}
use lib.Dec.{eqb}
use Rattle.common.specs.Bits.{on}
use Rattle.common.proofs.EveryByte.{low_and, everywhere}
use Rattle.line_status.specs.LineStatus.{lsr_ready, lsr_after_read}

pub ready_set : (x : ℕ) → on (lsr_ready x) 0x01 ≡ true
unfolding lsr_ready
ready_set = everywhere (λ x. on (lsr_ready x) 0x01) (λ _. true)
    (λ x. ap (λ (a : ℕ). not (eqb a 0)) (low_and 1 (omega arith) (lsr_ready x) ∙ ap (λ (a : ℕ). bit_and a 1) (or_mod x 1 8))) (λ _. refl) tt

pub ready_cleared : (x : ℕ) → on (lsr_after_read false x) 0x01 ≡ false
unfolding lsr_after_read
ready_cleared =
    everywhere (λ x. on (lsr_after_read false x) 0x01) (λ _. false) (λ x. ap (λ (a : ℕ). on a 0x01) (low_and 0xfe (omega arith) x))
    (λ _. refl) tt
