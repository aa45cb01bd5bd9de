-- A store of one word is the named register's: eight words are taken apart, and each law computes.
use Rattle.std.proofs.Common.{◌≡◌, ℕ, ◌/◌, ◌%◌, ◌^◌, List, [], ◌∷◌, length, set, refl, arith}
use Rattle.clock.specs.Registers.{Clock, becomes, with_mr, with_lr, with_imsc, with_ris}
use Rattle.clock.specs.Layout.{signed, clock_of, spare_of, Writes}
use Rattle.clock.proofs.Time.{halves}

pub eight_are : (P : List ℕ → Type 0) → ((a b c d e f g h : ℕ) → P (a ∷ b ∷ c ∷ d ∷ e ∷ f ∷ g ∷ h ∷ [])) → (l : List ℕ) → length l ≡ 8 → P l
eight_are P t (a ∷ b ∷ c ∷ d ∷ e ∷ f ∷ g ∷ h ∷ []) n = t a b c d e f g h
eight_are P t [] n = absurd (omega arith)
eight_are P t (a ∷ []) n = absurd (omega arith)
eight_are P t (a ∷ b ∷ []) n = absurd (omega arith)
eight_are P t (a ∷ b ∷ c ∷ []) n = absurd (omega arith)
eight_are P t (a ∷ b ∷ c ∷ d ∷ []) n = absurd (omega arith)
eight_are P t (a ∷ b ∷ c ∷ d ∷ e ∷ []) n = absurd (omega arith)
eight_are P t (a ∷ b ∷ c ∷ d ∷ e ∷ f ∷ []) n = absurd (omega arith)
eight_are P t (a ∷ b ∷ c ∷ d ∷ e ∷ f ∷ g ∷ []) n = absurd (omega arith)
eight_are P t (a ∷ b ∷ c ∷ d ∷ e ∷ f ∷ g ∷ h ∷ i ∷ l) n = absurd (omega arith)

-- A valid write that leaves a clock.
abbrev Leaves : Clock → List ℕ → List ℕ → Type 0
Leaves c before after = Writes (becomes c) before after 0

module _ (words : List ℕ) (n : length words ≡ 8) where
  module _ (v : ℕ) where
    pub stores_mr : Leaves (with_mr (clock_of words) v) words (set words 1 v)
    unfolding clock_of spare_of
    stores_mr =
        eight_are (λ l. Leaves (with_mr (clock_of l) v) l (set l 1 v))
        (λ _ _ _ _ _ _ _ _. record { clock = refl; spare = refl; answer = refl }) words n

    pub stores_imsc : Leaves (with_imsc (clock_of words) v) words (set words 2 v)
    unfolding clock_of spare_of
    stores_imsc =
        eight_are (λ l. Leaves (with_imsc (clock_of l) v) l (set l 2 v))
        (λ _ _ _ _ _ _ _ _. record { clock = refl; spare = refl; answer = refl }) words n

    pub stores_ris : Leaves (with_ris (clock_of words) v) words (set words 3 v)
    unfolding clock_of spare_of
    stores_ris =
        eight_are (λ l. Leaves (with_ris (clock_of l) v) l (set l 3 v))
        (λ _ _ _ _ _ _ _ _. record { clock = refl; spare = refl; answer = refl }) words n

    pub stores_lr : (bits : ℕ)
        → Leaves (with_lr (clock_of words) v (signed bits)) words (set (set (set words 0 v) 4 (bits % 2 ^ 32)) 5 (bits / 2 ^ 32))
    unfolding clock_of spare_of
    stores_lr bits =
        eight_are (λ l. Leaves (with_lr (clock_of l) v (signed bits)) l (set (set (set l 0 v) 4 (bits % 2 ^ 32)) 5 (bits / 2 ^ 32)))
        (λ _ _ _ _ _ _ _ _. record { clock = rw (halves bits); spare = refl; answer = refl }) words n
