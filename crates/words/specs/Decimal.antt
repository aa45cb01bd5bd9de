-- Decimal numbers of 64 bits.
use Rattle.std.specs.Prelude.{ℕ, zero, suc, ◌+◌, ◌-◌, ◌*◌, ◌/◌, ◌%◌, ◌^◌, Bool, cond, ◌&&◌, Option, Some, None, List, [], ◌∷◌, ◌++◌, ltb, leb}
use Rattle.words.specs.Text.{text}

-- The digits are 48 to 57.
abbrev pub is_digit : ℕ → Bool
is_digit c = leb 48 c && leb c 57

-- A number with one more digit.
unfoldable pub longer_by : ℕ → ℕ → Option ℕ
longer_by n c = cond (is_digit c && ltb (n * 10 + (c - 48)) (2 ^ 64)) (Some (n * 10 + (c - 48))) None

-- The same of a word that may be no number.
abbrev pub more : Option ℕ → ℕ → Option ℕ
more None c = None
more (Some n) c = longer_by n c

-- A number with more digits.
unfoldable pub longer : List ℕ → Option ℕ → Option ℕ
longer [] number = number
longer (c ∷ word) number = longer word (more number c)

-- A word of digits, at least one.
unfoldable pub number_of : List ℕ → Option ℕ
number_of [] = None
number_of (c ∷ word) = longer (c ∷ word) (Some 0)

-- The decimal digits of a number, as few as it takes: those of its tenth, and the last one. 20 are enough for 64 bits.
unfoldable pub decimals : ℕ → ℕ → List ℕ
decimals zero n = []
decimals (suc most) n = cond (ltb n 10) ((48 + n) ∷ []) (decimals most (n / 10) ++ ((48 + n % 10) ∷ []))

unfoldable pub decimal_of : ℕ → List ℕ
decimal_of n = decimals 20 n

-- One of several in a line, behind a space.
abbrev pub next_decimal : ℕ → List ℕ
next_decimal n = text " " ++ decimal_of n
