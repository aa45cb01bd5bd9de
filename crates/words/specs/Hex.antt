-- Hexadecimal digits, lower case.
use Rattle.std.specs.Prelude.{ℕ, ◌+◌, ◌-◌, ◌*◌, ◌/◌, ◌%◌, ◌≡◌, Bool, true, false, cond, ◌&&◌, Option, Some, None, is_some, unwrap_or, List, [], ◌∷◌, ◌++◌, length, get_or, take, ltb, leb}

-- The value of a digit: `0` to `9` are the characters 48 to 57, `a` to `f` 97 to 102. No other character has one.
unfoldable pub value_of : ℕ → Option ℕ
value_of c = cond (leb 48 c && leb c 57) (Some (c - 48)) (cond (leb 97 c && leb c 102) (Some (c - 97 + 10)) None)

-- The byte of two digits, where another character counts as 0.
unfoldable pub byte_of : ℕ → ℕ → ℕ
byte_of high low = unwrap_or (value_of high) 0 * 16 + unwrap_or (value_of low) 0

-- The byte of the two digits of a line at a place.
unfoldable pub byte_at : List ℕ → ℕ → ℕ
byte_at line i = byte_of (get_or line i 0) (get_or line (i + 1) 0)

-- How many bytes digits make.
abbrev pub count_of : Option ℕ → ℕ
count_of r = unwrap_or r 0

-- The bytes of digits, two each.
unfoldable pub bytes_of : List ℕ → List ℕ
bytes_of [] = []
bytes_of (high ∷ []) = []
bytes_of (high ∷ low ∷ rest) = byte_of high low ∷ bytes_of rest

-- Nothing but digits, two by two.
unfoldable pub are_pairs : List ℕ → Bool
are_pairs [] = true
are_pairs (high ∷ []) = false
are_pairs (high ∷ low ∷ rest) = is_some (value_of high) && (is_some (value_of low) && are_pairs rest)

-- One byte at least, and no more than the memory for them holds.
unfoldable pub are_bytes : List ℕ → Bool
are_bytes digits = ltb 0 (length digits) && (leb (length digits) 8192 && are_pairs digits)

-- What is told of digits: how many bytes they make, which lie from the memory's first place on; or that they make none.
pub record Gives (digits bytes' : List ℕ) (r : Option ℕ) : Type 0 where
  pub told : r ≡ cond (are_bytes digits) (Some (length (bytes_of digits))) None
  pub first : take (count_of r) bytes' ≡ cond (are_bytes digits) (bytes_of digits) []

-- The digit of a value below 16.
unfoldable pub digit_of : ℕ → ℕ
digit_of n = cond (ltb n 10) (48 + n) (87 + n)

-- The two digits of a byte.
unfoldable pub digits_of : ℕ → List ℕ
digits_of b = digit_of (b / 16) ∷ digit_of (b % 16) ∷ []

-- The four digits of half a word, and the eight of a word.
unfoldable pub half_digits : ℕ → List ℕ
half_digits n = digits_of (n / 0x100) ++ digits_of (n % 0x100)

unfoldable pub word_digits : ℕ → List ℕ
word_digits n = half_digits (n / 0x1_0000) ++ half_digits (n % 0x1_0000)
