-- Numbers among bytes: what four loads find, and what the stores leave.
use mathlib.Core.Path.{◌≡◌, refl}
use mathlib.Core.List.{List, [], ◌∷◌}
use Prim.Native.Nat.{ℕ, suc, ◌+◌, ◌≤◌}
use native.Mathlib.Omega.{arith}
use lib.ListN.{length, get_or, set}
use lib.Seq.{drop-cons, sets}
use Rattle.common.specs.Bytes.{bytes_of, value_of}
use Rattle.clock.proofs.Stores.{eight_are}
use Rattle.clock_form.specs.Form.{current, form_length, bytes_of_words, form_of, word_at, words_in}

-- ---- Places one behind another

one : (at : ℕ) → at + 1 ≡ suc at
one at = omega arith

two : (at : ℕ) → at + 2 ≡ suc (suc at)
two at = omega arith

three : (at : ℕ) → at + 3 ≡ suc (suc (suc at))
three at = omega arith

-- ---- Loads

pub four_at : (form : List ℕ) (at : ℕ) → at + 4 ≤ length form
    → value_of (get_or form at 0 ∷ get_or form (at + 1) 0 ∷ get_or form (at + 2) 0 ∷ get_or form (at + 3) 0 ∷ []) ≡ word_at form at
four_at form at h =
    let e₀ = drop-cons form at 0 (omega arith) in
    let e₁ = drop-cons form (suc at) 0 (omega arith) in
    let e₂ = drop-cons form (suc (suc at)) 0 (omega arith) in
    let e₃ = drop-cons form (suc (suc (suc at))) 0 (omega arith) in
    rw (one at, two at, three at, e₀, e₁, e₂, e₃)

-- ---- Stores

-- Four stores of a word's bytes.
pub four_stores : (form : List ℕ) (at n : ℕ) {bytes : List ℕ} → bytes ≡ bytes_of 4 n
    → set (set (set (set form at (get_or bytes 0 0)) (at + 1) (get_or bytes 1 0)) (at + 2) (get_or bytes 2 0)) (at + 3) (get_or bytes 3 0)
    ≡ sets form at (bytes_of 4 n)
unfolding bytes_of
four_stores form at n e = rw (e, one at, two at, three at)

pub form_length_lem : (words : List ℕ) → length words ≡ 8 → length (form_of words) ≡ form_length
unfolding form_of bytes_of_words bytes_of
form_length_lem = eight_are (λ w. length (form_of w) ≡ form_length) (λ _ _ _ _ _ _ _ _. refl)

abbrev one_by_one : List ℕ → List ℕ → List ℕ
one_by_one form w =
    sets (sets (sets (sets (sets (sets (sets form 0 (bytes_of 2 current)) 2 (bytes_of 4 (get_or w 0 0))) 6 (bytes_of 4 (get_or w 1 0)))
    10 (bytes_of 4 (get_or w 2 0))) 14 (bytes_of 4 (get_or w 3 0))) 18 (bytes_of 4 (get_or w 4 0))) 22 (bytes_of 4 (get_or w 5 0))

in_one : (form words : List ℕ) → length words ≡ 8 → one_by_one form words ≡ sets form 0 (form_of words)
unfolding form_of bytes_of_words bytes_of
in_one form = eight_are (λ w. one_by_one form w ≡ sets form 0 (form_of w)) (λ _ _ _ _ _ _ _ _. refl)

pub writes : (words form : List ℕ) → length words ≡ 8 → {form₀ form₁ form₂ form₃ form₄ form₅ form₆ : List ℕ}
    → form₀ ≡ sets form 0 (bytes_of 2 current)
    → form₁ ≡ sets form₀ 2 (bytes_of 4 (get_or words 0 0)) → form₂ ≡ sets form₁ 6 (bytes_of 4 (get_or words 1 0))
    → form₃ ≡ sets form₂ 10 (bytes_of 4 (get_or words 2 0)) → form₄ ≡ sets form₃ 14 (bytes_of 4 (get_or words 3 0))
    → form₅ ≡ sets form₄ 18 (bytes_of 4 (get_or words 4 0)) → form₆ ≡ sets form₅ 22 (bytes_of 4 (get_or words 5 0))
    → form₆ ≡ sets form 0 (form_of words)
writes words form eight e₀ e₁ e₂ e₃ e₄ e₅ e₆ = rw (e₆, e₅, e₄, e₃, e₂, e₁, e₀) (in_one form words eight)

pub reads_words : (form saved : List ℕ) → length saved ≡ 8 → {w₀ w₁ w₂ w₃ w₄ w₅ : ℕ} → w₀ ≡ word_at form 2 → w₁ ≡ word_at form 6
    → w₂ ≡ word_at form 10
    → w₃ ≡ word_at form 14 → w₄ ≡ word_at form 18 → w₅ ≡ word_at form 22
    → set (set (set (set (set (set (set (set saved 0 w₀) 1 w₁) 2 w₂) 3 w₃) 4 w₄) 5 w₅) 6 0) 7 0 ≡ words_in form
unfolding words_in
reads_words form saved eight {w₀} {w₁} {w₂} {w₃} {w₄} {w₅} e₀ e₁ e₂ e₃ e₄ e₅ =
    rw (← e₀, ← e₁, ← e₂, ← e₃, ← e₄, ← e₅)
    (eight_are (λ l. set (set (set (set (set (set (set (set l 0 w₀) 1 w₁) 2 w₂) 3 w₃) 4 w₄) 5 w₅) 6 0) 7 0 ≡ w₀ ∷ w₁ ∷ w₂ ∷ w₃ ∷ w₄ ∷ w₅ ∷ 0 ∷ 0 ∷ [])
    (λ _ _ _ _ _ _ _ _. refl) saved eight)
