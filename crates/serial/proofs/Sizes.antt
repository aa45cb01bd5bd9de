-- Sizes: how register 15 tells them, and which a port is made with.
use mathlib.Core.Path.{◌≡◌, refl, sym, subst}
use mathlib.Core.Logic.{◌⊎◌, inl, inr}
use mathlib.Core.Bool.{Bool, true, false, ◌||◌}
use mathlib.Core.List.{List}
use Prim.Native.Nat.{ℕ, ◌≤◌, ◌<◌}
use native.Mathlib.Omega.{arith}
use lib.Dec.{eqb}
use lib.ListN.{get_or}
use borrow.Author.Tests.{eqb-true}
use Rattle.serial.specs.Port.{is_size}
use Rattle.serial.specs.Layout.{places, size_of, count_of}

-- No port has room for more bytes than the ring has places.
pub size_few : (regs : List ℕ) → size_of regs ≤ places
size_few regs = omega arith

-- A number of waiting bytes below the size stands for itself.
pub counts_itself : (regs pos : List ℕ) → get_or pos 1 0 < size_of regs → get_or pos 1 0 ≡ count_of pos
counts_itself regs pos h = omega (arith, size_few regs)

-- What is so of each of the seven is so of every size with which a port is made.
either : (a b : Bool) → a || b ≡ true → (a ≡ true) ⊎ (b ≡ true)
either true b e = inl refl
either false b e = inr e

module _ (P : ℕ → Type 0) (s : ℕ) where
  is : (n : ℕ) → P n → eqb s n ≡ true → P s
  is n p e = subst P (sym (eqb-true s n e)) p

  or_else : (n : ℕ) (rest : Bool) → P n → (rest ≡ true → P s) → eqb s n || rest ≡ true → P s
  or_else n rest p q e = go (either (eqb s n) rest e)
    where
      go : (eqb s n ≡ true) ⊎ (rest ≡ true) → P s
      go (inl l) = is n p l
      go (inr r) = q r

  pub of_sizes : P 16 → P 32 → P 64 → P 128 → P 256 → P 512 → P 1024 → is_size s ≡ true → P s
  of_sizes a b c d e f g =
      or_else 16 _ a (or_else 32 _ b (or_else 64 _ c (or_else 128 _ d (or_else 256 _ e (or_else 512 _ f (is 1024 g))))))

pub size_at_least : (s : ℕ) → is_size s ≡ true → 16 ≤ s
size_at_least s = of_sizes (λ n. 16 ≤ n) s (omega arith) (omega arith) (omega arith) (omega arith) (omega arith) (omega arith) (omega arith)
