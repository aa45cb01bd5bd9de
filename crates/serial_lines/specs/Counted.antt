-- The serial port's lines, with what is counted since it was named.
use Rattle.std.specs.Prelude.{ℕ, ◌+◌, ◌≤◌, ◌≡◌, Bool, cond, List, ◌++◌, length}
use Rattle.counters.specs.Counters.{Serial, serial_of, serial_after, answered}
use Rattle.counters.specs.Counters as counters
use Rattle.serial.specs.Layout.{spare_registers}
use Rattle.words.specs.Decimal.{next_decimal}
use Rattle.words.specs.Pattern.{fits_of}
use Rattle.words.specs.Text.{text}
use Rattle.serial_lines.specs.Answers.{Asks, asks, says, Tells, port_in, port_then, spares_then, is_save, Keeps, word_then}
use Rattle.serial_lines.specs.declared.Held.{Held}
use Rattle.serial_lines.specs.declared.Ports.{Ports}

abbrev pub counters_in : Ports → Serial
counters_in ports = serial_of ports.counters

-- `counters` shows them; by `lost` the host says that its sink did not take a byte.
pub data Asked : Type 0 where
  show_counters lost : Asked
  of_ports : Asks → Asked

unfoldable pub asked_of : Held → List ℕ → Asked
asked_of held line =
    cond (fits_of (text "counters") line) show_counters (cond (fits_of (text "lost") line) lost (of_ports (asks held line)))

-- Reads of RBR, bytes sent, bytes lost, reads of RBR that left none.
abbrev pub counters_say : Serial → List ℕ
counters_say c =
    text "counters" ++ next_decimal c.data_reads ++ next_decimal c.sent ++ next_decimal c.lost ++ next_decimal c.none_left ++
    text "\n"

abbrev pub says_asked : Asked → Ports → Bool → List ℕ
says_asked show_counters ports reached = counters_say (counters_in ports)
says_asked lost ports reached = text "lost\n"
says_asked (of_ports asked) ports reached = says asked (port_in ports.held) reached

abbrev pub TellsAsked : Asked → Bool → Type 0
TellsAsked show_counters reached = Unit {0}
TellsAsked lost reached = Unit {0}
TellsAsked (of_ports asked) reached = Tells asked reached

-- ---- What changes

abbrev pub HeldThen : Asked → Held → Held → Type 0
HeldThen show_counters held held' = held' ≡ held
HeldThen lost held held' = held' ≡ held
HeldThen (of_ports asked) held held' =
    (port_in held' ≡ port_then asked (port_in held)) ×
    (spare_registers held'.port.regs ≡ spares_then asked (port_in held) (spare_registers held.port.regs)) × Keeps (is_save asked) held held'

abbrev pub counted_then : Asked → Ports → Serial
counted_then show_counters ports = counters_in ports
counted_then lost ports = serial_after (counters_in ports) counters.lost
counted_then (of_ports asked) ports = serial_after (counters_in ports) (answered (word_then asked (port_in ports.held)))

-- What a line asks for was answered.
pub record AnswersAsked (asked : Asked) (ports : Ports) (out : List ℕ) (ports' : Ports) (out' : List ℕ) : Type 0 where
  pub reached : Bool
  pub tells : TellsAsked asked reached
  pub said : out' ≡ out ++ says_asked asked ports reached
  pub held : HeldThen asked ports.held ports'.held
  pub counted : counters_in ports' ≡ counted_then asked ports
  pub short : length out' ≤ length out + 4096

abbrev pub AnswersPorts : List ℕ → Ports → List ℕ → Ports → List ℕ → Type 0
AnswersPorts line ports out ports' out' = AnswersAsked (asked_of ports.held line) ports out ports' out'
