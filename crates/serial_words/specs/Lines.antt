-- What the lines of the serial port look like.
use Rattle.std.specs.Prelude.{ℕ, cond, List}
use Rattle.words.specs.Hex.{byte_at}
use Rattle.words.specs.Pattern.{fits_of, begins_like}
use Rattle.words.specs.Text.{text}
use Rattle.serial_words.specs.declared.line.Line.{Line}
use Rattle.serial_words.specs.declared.line.Line.TheVariants.{Save, Kept, OfPort}
use Rattle.serial_words.specs.declared.line.Access.TheVariants.{Write, Read, InputNone, InputBytes, Room, State, Level, RestoreNone}
use Rattle.serial_words.specs.declared.line.Access.TheVariants.{RestoreBytes, Unknown}

unfoldable pub saved_line_of : List ℕ → Line
saved_line_of line =
    cond (fits_of (text "save") line) Save
    (cond (fits_of (text "restore") line) Kept
    (cond (fits_of (text "restore DD DD DD DD DD DD DD DD DD -") line) (OfPort RestoreNone)
    (cond (begins_like (text "restore DD DD DD DD DD DD DD DD DD ") line) (OfPort RestoreBytes) (OfPort Unknown))))

unfoldable pub line_of : List ℕ → Line
line_of line =
    cond (fits_of (text "w OO VV") line) (OfPort (Write (byte_at line 2) (byte_at line 5)))
    (cond (fits_of (text "r OO") line) (OfPort (Read (byte_at line 2)))
    (cond (fits_of (text "b") line) (OfPort InputNone)
    (cond (begins_like (text "b ") line) (OfPort InputBytes)
    (cond (fits_of (text "room") line) (OfPort Room)
    (cond (fits_of (text "state") line) (OfPort State)
    (cond (fits_of (text "line") line) (OfPort Level) (saved_line_of line)))))))
