-- Why a form is refused, as the code has it, and the word that says so.
use Rattle.std.specs.Prelude.{ℕ, ◌+◌, Result, Ok, Err}
use Rattle.common.specs.Answer.{refused_bit}
use Rattle.common.specs.declared.form.Reason as code
use Rattle.common.specs.declared.form.Reason.TheVariants.{TooShort, Trailing, Version, TooMany, Spare}

abbrev pub Reason : Type 0
Reason = code.Reason

-- As the definitions name them.
abbrev pub too_short : Reason
too_short = TooShort

abbrev pub trailing : Reason
trailing = Trailing

abbrev pub version : Reason
version = Version

abbrev pub too_many : Reason
too_many = TooMany

abbrev pub spare : Reason
spare = Spare

-- 5 is not used again: it was an offset of a clock beyond 33 signed bits.
abbrev pub reason_number : Reason → ℕ
reason_number TooShort = 1
reason_number Trailing = 2
reason_number Version = 3
reason_number TooMany = 4
reason_number Spare = 6

abbrev pub refusal_word : Reason → ℕ
refusal_word r = refused_bit + reason_number r

-- The word that a call answers whose form is taken, with a number, or refused.
abbrev pub word_of : Result ℕ Reason → ℕ
word_of (Ok n) = n
word_of (Err r) = refusal_word r
