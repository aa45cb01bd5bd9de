-- The manual's column of a list of the reset controller: which writes reset.
use Rattle.std.specs.Prelude.{ℕ, ◌≡◌, Bool, ◌&&◌, List, [], ◌∷◌, eqb}
use Rattle.i8042.specs.I8042.{command_port, manual_resets}

-- `w OO VV`, and whether the manual's controller resets: `w reset` or `w --`.
pub data Line : Type 0 where
  w : ℕ → ℕ → Bool → Line

-- What the controller does at each line, which has no state, and what the column says.
abbrev pub done : List Line → List Bool
done [] = []
done (w offset v resets ∷ ls) = (eqb offset command_port && manual_resets v) ∷ done ls

abbrev pub column : List Line → List Bool
column [] = []
column (w offset v resets ∷ ls) = resets ∷ column ls

abbrev pub AsTold : List Line → Type 0
AsTold ls = done ls ≡ column ls
