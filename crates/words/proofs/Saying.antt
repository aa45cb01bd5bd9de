-- Answers that are put one behind another.
use Rattle.std.proofs.Common.{◌≡◌, ℕ, List, ◌++◌, ap, ◌∙◌, append_assoc}

-- one answer after another
pub both : (out a b : List ℕ) {out' out'' : List ℕ} → out' ≡ out ++ a → out'' ≡ out' ++ b → out'' ≡ out ++ (a ++ b)
both out a b p q = q ∙ ap (λ (front : List ℕ). front ++ b) p ∙ append_assoc out a b

-- what is put is what is said
pub instead : (out : List ℕ) {a b out' : List ℕ} → a ≡ b → out' ≡ out ++ a → out' ≡ out ++ b
instead out e p = p ∙ ap (λ (said : List ℕ). out ++ said) e
