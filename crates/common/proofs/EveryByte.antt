-- What holds of every byte, from one test that antt computes at each of the 256.
use mathlib.Core.Path.{◌≡◌, refl, subst, sym, ap, ◌∙◌}
use mathlib.Core.Bool.{Bool, true, false, beq, ◌&&◌}
use Prim.Native.Nat.{ℕ, zero, suc, ◌%◌, ◌<◌}
use native.Mathlib.Nat.{not-suc-le-zero, mod-lt, mod-eq_of_lt, zero-lt-suc}
use native.Mathlib.Omega.{arith}
use native.Mathlib.Decide.{ℕ_discrete}
use lib.Bits.{bit_and, and_mod, and_le_r}
use lib.Dec.{T, eqb, eqb→eq}

both_left : (a b : Bool) → T (a && b) → T a
both_left true b t = tt
both_left false b t = t

both_right : (a b : Bool) → T (a && b) → T b
both_right true b t = t
both_right false b t = absurd t

-- the test passes at each number below n
abbrev pub below : (ℕ → Bool) → ℕ → Bool
below f zero = true
below f (suc n) = f n && below f n

pub at : (f : ℕ → Bool) (n : ℕ) → T (below f n) → (x : ℕ) → x < n → T (f x)
at f zero t x h = absurd (not-suc-le-zero h)
at f (suc n) t x h = go (λ l. at f n (both_right (f n) (below f n) t) x l) (ℕ_discrete x n)
  where
    go : (x < n → T (f x)) → Dec (x ≡ n) → T (f x)
    go rest (yes e) = subst (λ (m : ℕ). T (f m)) (sym e) (both_left (f n) (below f n) t)
    go rest (no d) = rest (omega arith)

-- two functions of a byte are equal
pub same : (f g : ℕ → ℕ) → T (below (λ x. eqb (f x) (g x)) 256) → (x : ℕ) → x < 256 → f x ≡ g x
same f g t x h = eqb→eq (f x) (g x) (at (λ x. eqb (f x) (g x)) 256 t x h)

agree : (a b : Bool) → T (beq a b) → a ≡ b
agree true true t = refl
agree true false t = absurd t
agree false true t = absurd t
agree false false t = refl

-- two tests of a byte agree
pub same_test : (f g : ℕ → Bool) → T (below (λ x. beq (f x) (g x)) 256) → (x : ℕ) → x < 256 → f x ≡ g x
same_test f g t x h = agree (f x) (g x) (at (λ x. beq (f x) (g x)) 256 t x h)

-- ---- A mask of a byte sees the low byte alone, so that a law of bytes is one of all numbers

pub low_and : (m : ℕ) → m < 256 → (x : ℕ) → bit_and x m ≡ bit_and (x % 256) m
low_and m h x =
    sym (mod-eq_of_lt (omega (arith, and_le_r x m))) ∙ and_mod x m 8 ∙ ap (λ (k : ℕ). bit_and (x % 256) k) (mod-eq_of_lt h)

-- two tests that see the low byte alone, and agree on every byte, agree
pub everywhere : (f g : ℕ → Bool) → ((x : ℕ) → f x ≡ f (x % 256)) → ((x : ℕ) → g x ≡ g (x % 256))
    → T (below (λ x. beq (f x) (g x)) 256)
    → (x : ℕ) → f x ≡ g x
everywhere f g low-f low-g t x = low-f x ∙ same_test f g t (x % 256) (mod-lt x (zero-lt-suc 255)) ∙ sym (low-g x)
