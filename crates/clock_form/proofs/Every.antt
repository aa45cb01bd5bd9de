-- Every state of vm-superio's clock has a form.
use mathlib.Core.Path.{◌≡◌, refl, ap, ◌∙◌}
use mathlib.Core.Bool.{true}
use mathlib.Core.List.{List, [], ◌∷◌}
use Prim.Native.Nat.{ℕ, zero, suc, ◌-◌, ◌/◌, ◌%◌, ◌^◌, ◌<◌}
use native.Mathlib.Omega.{arith}
use lib.Dec.{lit<}
use lib.IntN.{ℤ, pos, negsuc}
use lib.ListN.{get_or}
use Rattle.clock.specs.Registers.{Clock}
use Rattle.clock.specs.Layout.{Words, joined, signed, clock_of, spare_is_zero}
use Rattle.clock.proofs.Time.{signed_low, signed_high, halves}
use Rattle.clock_form.specs.Outcomes.{Signed64, RtcState, HasForm}
use Rattle.clock_form.proofs.RoundTrip.{read_written}

-- The two halves of an offset.
abbrev Halves : ℤ → Type 0
Halves z = (low : ℕ) × (high : ℕ) × (low < 2 ^ 32) × (high < 2 ^ 32) × (signed (joined low high) ≡ z)

of_bits : (bits : ℕ) → bits < 2 ^ 64 → {z : ℤ} → signed bits ≡ z → Halves z
of_bits bits b e = (bits % 2 ^ 32, bits / 2 ^ 32, omega arith, omega arith, ap signed (halves bits) ∙ e)

halves_of : (z : ℤ) → Signed64 z → Halves z
halves_of (pos n) h = of_bits n (omega arith) (signed_low n h)
halves_of (negsuc n) h =
    let bits = 2 ^ 64 - suc n in
    of_bits bits (omega arith) (signed_high bits (omega arith) (omega arith) ∙ ap negsuc (omega arith))

module _ (c : Clock) (s : RtcState c) where
  abbrev half : Halves c.ahead
  half = halves_of c.ahead s.offset

  abbrev its : List ℕ
  its = c.lr ∷ c.mr ∷ c.imsc ∷ c.ris ∷ half.0 ∷ half.1 ∷ 0 ∷ 0 ∷ []

  small : (i : ℕ) → get_or its i 0 < 2 ^ 32
  small zero = s.lr
  small (suc zero) = s.mr
  small (suc (suc zero)) = s.imsc
  small (suc (suc (suc zero))) = s.ris
  small (suc (suc (suc (suc zero)))) = half.2
  small (suc (suc (suc (suc (suc zero))))) = half.3
  small (suc (suc (suc (suc (suc (suc zero)))))) = lit< tt
  small (suc (suc (suc (suc (suc (suc (suc zero))))))) = lit< tt
  small (suc (suc (suc (suc (suc (suc (suc (suc i)))))))) = lit< tt

  same : clock_of its ≡ c
  unfolding clock_of
  same = ap (λ z. record { lr = c.lr; mr = c.mr; imsc = c.imsc; ris = c.ris; ahead = z }) half.4

  zero_spare : spare_is_zero its ≡ true
  unfolding spare_is_zero
  zero_spare = refl

  pub every_state : HasForm c
  every_state =
      let w : Words its = record { eight = refl; small = small } in
      record { words = its; fits = w; clock = same; spare = zero_spare; read = read_written its w zero_spare }
