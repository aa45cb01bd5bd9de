-- The manual's column of a list of the clock: what it says of the PL031.
use Rattle.std.specs.Prelude.{ℕ, zero, suc, ◌-◌, ◌≡◌, cond, List, [], ◌∷◌}
use Rattle.sidebyside.specs.Answers.{Said, says, silent, none}
use Rattle.pl031.specs.Chip.{Chip, after_reset, Op, second, read, write, chip_does}

-- ---- A line of a list, with the manual's answer

-- `clock` resets the chip, at the host's second 0. `now T` lets the seconds up to T pass, and none where the host's time goes back. To an
-- access belongs what the manual says.
pub data Line : Type 0 where
  clock : Line
  now : ℕ → Line
  access : Op → Said → Line

-- `r OOOO => r BBBBBBBB ok`, the four bytes as a number; `r OOOO` where the manual is silent; `w OOOO BBBBBBBB`, which has no answer.
abbrev pub r : ℕ → ℕ → Line
r offset v = access (read offset) (says v)

abbrev pub r? : ℕ → Line
r? offset = access (read offset) silent

abbrev pub w : ℕ → ℕ → Line
w offset v = access (write offset v) none

-- ---- A list, from any chip at any second

abbrev pub seconds : ℕ → Chip → Chip
seconds zero c = c
seconds (suc n) c = seconds n (chip_does c second).chip

-- The same, and quick where the clock stands (`passing`).
abbrev pub passes : ℕ → Chip → Chip
passes n c = cond c.running (seconds n c) c

-- What the chip answers at each line, and what the column says.
abbrev pub done : Chip → ℕ → List Line → List Said
done c t [] = []
done c t (clock ∷ ls) = done after_reset 0 ls
done c t (now t' ∷ ls) = done (passes (t' - t) c) t' ls
done c t (access o s ∷ ls) = (chip_does c o).reply ∷ done (chip_does c o).chip t ls

abbrev pub column : List Line → List Said
column [] = []
column (clock ∷ ls) = column ls
column (now t ∷ ls) = column ls
column (access o s ∷ ls) = s ∷ column ls

abbrev pub AsTold : Chip → ℕ → List Line → Type 0
AsTold c t ls = done c t ls ≡ column ls
