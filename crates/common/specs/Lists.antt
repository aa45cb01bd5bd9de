-- Lists of bytes.
use Rattle.std.specs.Prelude.{ℕ, Bool, true, false, List, [], ◌∷◌}

-- There is a first one.
abbrev pub some : List ℕ → Bool
some [] = false
some (x ∷ xs) = true

-- The first one, or 0 where there is none.
abbrev pub first_or0 : List ℕ → ℕ
first_or0 [] = 0
first_or0 (x ∷ xs) = x
