-- The parts of answers that speak of a port.
use Rattle.std.specs.Prelude.{ℕ, Bool, cond, List, [], ◌∷◌, ◌++◌, length}
use Rattle.common.specs.Lists.{some}
use Rattle.serial.specs.Port.{Port, Events}
use Rattle.words.specs.Decimal.{decimal_of}
use Rattle.words.specs.Hex.{digits_of}
use Rattle.words.specs.Text.{text}

-- How often the interrupt is raised ends an answer.
abbrev pub raises_say : ℕ → List ℕ
raises_say raises = text " " ++ decimal_of raises ++ text "\n"

-- The byte that was sent, or that there was none.
abbrev pub byte_says : List ℕ → List ℕ
byte_says [] = text "--"
byte_says (byte ∷ rest) = digits_of byte

-- How many bytes were thrown away, with a `-` before it, so that no byte is told so.
abbrev pub thrown_says : List ℕ → List ℕ
thrown_says thrown = text "-" ++ decimal_of (length thrown)

-- After a write: the byte that was sent; where FCR emptied the receiver, what was thrown away.
abbrev pub sent_says : List ℕ → Events → List ℕ
sent_says sent e = cond e.flushed (thrown_says e.discarded) (byte_says sent)

-- After an input: how many bytes were taken, or that there was no room for one.
abbrev pub taken_says : Bool → ℕ → List ℕ
taken_says full taken = cond full (text "full") (decimal_of taken)

-- A port: its registers, how many bytes wait, and they.
abbrev pub next_byte : ℕ → List ℕ
next_byte byte = text " " ++ digits_of byte

abbrev pub registers_say : Port → List ℕ
registers_say p =
    next_byte p.settings.dll ++ next_byte p.settings.dlm ++ next_byte p.settings.ier ++ next_byte p.iir ++
    next_byte p.settings.lcr ++ next_byte p.lsr ++ next_byte p.settings.mcr ++ next_byte p.msr ++ next_byte p.settings.scr

unfoldable pub bytes_say : List ℕ → List ℕ
bytes_say [] = []
bytes_say (byte ∷ bytes) = digits_of byte ++ bytes_say bytes

abbrev pub waiting_say : List ℕ → List ℕ
waiting_say bytes = text " " ++ decimal_of (length bytes) ++ cond (some bytes) (text " " ++ bytes_say bytes ++ text "\n") (text " -\n")

abbrev pub port_says : Port → List ℕ
port_says p = registers_say p ++ waiting_say p.waiting
