-- The spare words, and whether they are 0.
use Rattle.std.proofs.Common.{◌≡◌, ℕ, Bool, true, false, ◌&&◌, eqb, List, [], ◌∷◌, get_or, refl, ap, eq-eqb, ne_eqb, eqb-true}
use mathlib.Core.Bool.{false≢true}
use Rattle.clock.specs.Layout.{spare_of, spare_is_zero}

-- ---- Tested one by one

module _ (words : List ℕ) where
  pub first_used : (get_or words 6 0 ≡ 0 → ⊥) → eqb (get_or words 6 0) 0 ≡ spare_is_zero words
  unfolding spare_is_zero
  first_used h = rw (ne_eqb (get_or words 6 0) 0 h)

  pub by_last : get_or words 6 0 ≡ 0 → eqb (get_or words 7 0) 0 ≡ spare_is_zero words
  unfolding spare_is_zero
  by_last e = rw (eq-eqb (get_or words 6 0) 0 e)

-- ---- By their values

pub spare_zero : (words : List ℕ) → spare_is_zero words ≡ true → spare_of words ≡ 0 ∷ 0 ∷ []
unfolding spare_is_zero spare_of
spare_zero words = go (eqb (get_or words 6 0) 0) refl
  where
    go : (t : Bool) → eqb (get_or words 6 0) 0 ≡ t → (t && eqb (get_or words 7 0) 0) ≡ true → spare_of words ≡ 0 ∷ 0 ∷ []
    go true e f = rw (eqb-true (get_or words 6 0) 0 e, eqb-true (get_or words 7 0) 0 f)
    go false e f = absurd (false≢true f)

pub same_spare : (v w : List ℕ) → spare_of v ≡ spare_of w → spare_is_zero v ≡ spare_is_zero w
unfolding spare_is_zero spare_of
same_spare v w e = ap (λ (l : List ℕ). eqb (get_or l 0 0) 0 && eqb (get_or l 1 0) 0) e
