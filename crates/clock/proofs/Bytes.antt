-- Four bytes in memory and a number, as the library has them.
use Rattle.std.proofs.Common.{◌≡◌, ℕ, ◌/◌, List, [], ◌∷◌, length, arith}
use Rattle.std.specs.Int.{w32, to_le_bytes, from_le_bytes}
use Rattle.common.specs.Bytes.{bytes_of, value_of}

-- A list of four elements is four elements.
pub four_are : (P : List ℕ → Type 0) → ((a b c d : ℕ) → P (a ∷ b ∷ c ∷ d ∷ [])) → (l : List ℕ) → length l ≡ 4 → P l
four_are P t (a ∷ b ∷ c ∷ d ∷ []) n = t a b c d
four_are P t [] n = absurd (omega arith)
four_are P t (a ∷ []) n = absurd (omega arith)
four_are P t (a ∷ b ∷ []) n = absurd (omega arith)
four_are P t (a ∷ b ∷ c ∷ []) n = absurd (omega arith)
four_are P t (a ∷ b ∷ c ∷ d ∷ e ∷ l) n = absurd (omega arith)

-- The library's bytes of a number are its bytes,
pub bytes_same : (v : ℕ) → to_le_bytes w32 v ≡ bytes_of 4 v
unfolding bytes_of
bytes_same v = rw (third, fourth)
  where
    third : v / 256 / 256 ≡ v / 65536
    third = omega arith

    fourth : v / 65536 / 256 ≡ v / 16777216
    fourth = omega arith

-- and its number of four bytes is the number that they are.
pub number_same : (l : List ℕ) → length l ≡ 4 → from_le_bytes w32 l ≡ value_of l
unfolding value_of
number_same = four_are (λ l. from_le_bytes w32 l ≡ value_of l) (λ a b c d. omega arith)
