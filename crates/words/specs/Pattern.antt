-- What a line looks like. A pattern is a line as the format's tables show it: `w OO VV`.
use Rattle.std.specs.Prelude.{ℕ, Bool, true, false, cond, ◌&&◌, List, [], ◌∷◌, is_some, eqb, leb, length, take}
use Rattle.words.specs.Hex.{value_of}

-- A capital letter, 65 to 90, stands for a hexadecimal digit, and every other character for itself.
unfoldable pub stands_for : ℕ → ℕ → Bool
stands_for p c = cond (leb 65 p && leb p 90) (is_some (value_of c)) (eqb c p)

-- A line fits a pattern of as many characters, each of which stands for the line's.
unfoldable pub fits_of : List ℕ → List ℕ → Bool
fits_of [] [] = true
fits_of [] (c ∷ line) = false
fits_of (p ∷ pattern) [] = false
fits_of (p ∷ pattern) (c ∷ line) = stands_for p c && fits_of pattern line

-- A line begins like a pattern: as many of its characters fit.
unfoldable pub begins_like : List ℕ → List ℕ → Bool
begins_like pattern line = fits_of pattern (take (length pattern) line)
