-- What a manual says of an answer, and what a device answers.
use Rattle.std.specs.Prelude.{ℕ, ◌≡◌}

-- The manual says a number; or nothing; or there is no answer, as to a write.
pub data Said : Type 0 where
  says : ℕ → Said
  silent none : Said

-- The device answers a number, or refuses. Where there is no answer it is any.
pub data Answer : Type 0 where
  answers : ℕ → Answer
  refuses : Answer

-- The device's answer is the one that the manual says, if it says one. No manual says that the device refuses.
abbrev pub Fits : Answer → Said → Type 0
Fits (answers v) (says w) = v ≡ w
Fits refuses (says w) = ⊥
Fits a silent = Unit {0}
Fits a none = Unit {0}
