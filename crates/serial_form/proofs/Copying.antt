-- Bytes are put in place of others, one by one.
use mathlib.Core.Path.{◌≡◌, sym, ◌∙◌}
use mathlib.Core.List.{List}
use Prim.Native.Nat.{ℕ, ◌+◌, ◌≤◌, ◌<◌}
use native.Mathlib.Numerals.{add-one}
use native.Mathlib.Omega.{arith}
use lib.ListN.{length, get_or, set}
use lib.Seq.{sets, sets-eq, paste, paste-zero, paste-suc, length-paste, take-length}

-- i bytes are there.
pub record SoFar (memory₀ : List ℕ) (at : ℕ) (bytes memory : List ℕ) (i : ℕ) : Type 0 where
  pub far : i ≤ length bytes
  pub there : memory ≡ paste memory₀ at bytes i

module _ (memory₀ : List ℕ) (at : ℕ) (bytes : List ℕ) (room : at + length bytes ≤ length memory₀) where
  pub none_yet : SoFar memory₀ at bytes memory₀ 0
  none_yet = record { far = omega arith; there = paste-zero memory₀ at bytes }

  pub one_more : (memory : List ℕ) (i : ℕ) → i < length bytes → SoFar memory₀ at bytes memory i
      → SoFar memory₀ at bytes (set memory (at + i) (get_or bytes i 0)) (i + 1)
  one_more memory i h s =
      let inside : at + i < length memory₀ = omega arith in
      record { far = omega arith; there = rw (s.there, add-one i) (paste-suc memory₀ at bytes i 0 inside h) }

  pub as_long : (memory : List ℕ) (i : ℕ) → SoFar memory₀ at bytes memory i → length memory ≡ length memory₀
  as_long memory i s = rw s.there (length-paste memory₀ at bytes i (omega (arith, s.far)) s.far)

  pub all_there : (memory : List ℕ) (i : ℕ) → length bytes ≤ i → SoFar memory₀ at bytes memory i → memory ≡ sets memory₀ at bytes
  all_there memory i h s =
      let e : i ≡ length bytes = omega (arith, s.far) in
      s.there ∙ rw (e, take-length bytes) (sym (sets-eq bytes memory₀ at room))
