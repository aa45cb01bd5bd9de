-- What the functions of the code promise each other of a word's parts. No reader has to believe it: it is proved, and no answer speaks of
-- it.
use Rattle.std.specs.Prelude.{ℕ, ◌/◌, ◌%◌, cond, List, ◌++◌, eqb, ltb}
use Rattle.common.specs.Answer.{refused_bit, sent_bit, reachable_bit, flushed_bit, one_raise}
use Rattle.words.specs.Decimal.{decimal_of}
use Rattle.words.specs.Hex.{digits_of}
use Rattle.words.specs.Text.{text}

-- After a write: how many bytes were thrown away, or the byte that was sent, where the bits say so.
abbrev pub byte_part : ℕ → List ℕ
byte_part word = cond (eqb (word / sent_bit % 2) 0) (text "--") (digits_of (word % 256))

abbrev pub sent_part : ℕ → List ℕ
sent_part word = cond (eqb (word / flushed_bit % 2) 1) (text "-" ++ decimal_of (word % refused_bit)) (byte_part word)

-- How many bytes were taken, or a number from the bit of refusal on for a full port.
abbrev pub taken_part : ℕ → List ℕ
taken_part taken = cond (ltb taken refused_bit) (decimal_of taken) (text "full")

-- After a restore: the bit of refusal alone, or the raises and whether a run could have reached the port.
abbrev pub brought_part : ℕ → List ℕ
brought_part word =
    cond (eqb word refused_bit) (text "restore full\n")
    (text "restore " ++ decimal_of (word / one_raise) ++ cond (eqb (word / reachable_bit % 2) 1) (text " reached\n") (text " unreached\n"))
