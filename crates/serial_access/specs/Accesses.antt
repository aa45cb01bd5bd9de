-- What is said after an access of the port or an input to it, and the port that is left, with its spare registers.
use Rattle.std.specs.Prelude.{ℕ, ◌/◌, ◌%◌, ◌≡◌, Bool, cond, List, ◌++◌}
use Rattle.serial.specs.Port.{Port, Out, Input, read_of, write_of, input_of}
use Rattle.serial.specs.Layout.{port_of, spare_registers}
use Rattle.common.specs.Answer.{one_raise}
use Rattle.serial.specs.Calls.{read_word}
use Rattle.words.specs.Decimal.{decimal_of}
use Rattle.words.specs.Hex.{digits_of}
use Rattle.words.specs.Text.{text}
use Rattle.serial_words.specs.Said.{raises_say, sent_says, taken_says}

-- After a read: the parts of the word that the call answers. Where the reply is a byte they are the reply and the raises (`read_plainly`).
abbrev pub read_says : Out → List ℕ
read_says o = text "r " ++ digits_of (read_word o % 256) ++ raises_say (read_word o / one_raise)

abbrev pub write_says : Out → List ℕ
write_says o = text "w " ++ sent_says o.sent o.events ++ raises_say o.raises

abbrev pub input_says : Input → List ℕ
input_says i = text "b " ++ taken_says i.full i.taken ++ raises_say i.raises

abbrev pub room_says : ℕ → List ℕ
room_says room = text "room " ++ decimal_of room ++ text "\n"

abbrev pub line_says : Bool → List ℕ
line_says high = cond high (text "line 1\n") (text "line 0\n")

-- A call was answered: what was said behind what waited, and the port that the memory holds, with these spare registers.
pub record Did (said : List ℕ) (port : Port) (spares regs' pos' ring' out out' : List ℕ) : Type 0 where
  pub says : out' ≡ out ++ said
  pub holds : port_of regs' pos' ring' ≡ port
  pub spare : spare_registers regs' ≡ spares

abbrev pub DidRead : ℕ → List ℕ → List ℕ → List ℕ → List ℕ → List ℕ → List ℕ → List ℕ → List ℕ → Type 0
DidRead offset regs pos ring regs' pos' ring' out out' =
    let o = read_of (port_of regs pos ring) offset in Did (read_says o) o.port (spare_registers regs) regs' pos' ring' out out'

abbrev pub DidWrite : ℕ → ℕ → List ℕ → List ℕ → List ℕ → List ℕ → List ℕ → List ℕ → List ℕ → List ℕ → Type 0
DidWrite offset value regs pos ring regs' pos' ring' out out' =
    let o = write_of (port_of regs pos ring) offset value in Did (write_says o) o.port (spare_registers regs) regs' pos' ring' out out'

abbrev pub DidInput : List ℕ → List ℕ → List ℕ → List ℕ → List ℕ → List ℕ → List ℕ → List ℕ → List ℕ → Type 0
DidInput bytes regs pos ring regs' pos' ring' out out' =
    let i = input_of (port_of regs pos ring) bytes in Did (input_says i) i.port (spare_registers regs) regs' pos' ring' out out'
