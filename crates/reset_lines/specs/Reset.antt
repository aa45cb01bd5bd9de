-- The reset controller's lines and their answers.
use Rattle.std.specs.Prelude.{ℕ, cond, List, ◌++◌}
use Rattle.i8042.specs.I8042.{read_of, write_resets}
use Rattle.words.specs.Hex.{byte_at, digits_of}
use Rattle.words.specs.Pattern.{fits_of}
use Rattle.words.specs.Text.{text}

abbrev pub write_answer : ℕ → ℕ → List ℕ
write_answer offset value = cond (write_resets offset value) (text "w reset\n") (text "w --\n")

abbrev pub read_answer : ℕ → List ℕ
read_answer offset = text "r " ++ digits_of (read_of offset) ++ text "\n"

unfoldable pub reset_answer : List ℕ → List ℕ
reset_answer line =
    cond (fits_of (text "w OO VV") line) (write_answer (byte_at line 2) (byte_at line 5))
    (cond (fits_of (text "r OO") line) (read_answer (byte_at line 2)) (text "?\n"))
