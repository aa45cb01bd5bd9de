-- A part of a list, and the first place of a byte.
use Rattle.std.specs.Prelude.{ℕ, suc, Bool, true, false, List, [], ◌∷◌, eqb, take, drop}

-- Those from one place up to another.
unfoldable pub slice : ℕ → ℕ → List ℕ → List ℕ
slice from to all = drop from (take to all)

unfoldable pub index_after : Bool → ℕ → ℕ
index_after true k = 0
index_after false k = suc k

-- The first place of a byte, or the list's length where it stands nowhere.
unfoldable pub index_of : ℕ → List ℕ → ℕ
index_of byte [] = 0
index_of byte (x ∷ xs) = index_after (eqb x byte) (index_of byte xs)
