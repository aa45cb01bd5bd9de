-- The serial port's lines that speak of ports, and their answers.
use Rattle.std.specs.Prelude.{ℕ, ◌+◌, ◌≤◌, ◌≡◌, Bool, true, false, cond, List, [], ◌++◌, ◌↔◌, Option, Some, None, length, take, drop}
use Rattle.serial.specs.Port.{Port, is_size, read_of, write_of, input_of, room_of, line}
use Rattle.serial.specs.Layout.{port_of, spare_registers, fresh_spare_registers}
use Rattle.serial.specs.Calls.{read_word, write_word}
use Rattle.runs.specs.Reachable.{Reachable}
use Rattle.serial_saved.specs.Saved.{Restore, saved_of, restore_of}
use Rattle.words.specs.Decimal.{decimal_of}
use Rattle.words.specs.Hex.{byte_at, bytes_of, are_bytes}
use Rattle.words.specs.Text.{text}
use Rattle.serial_access.specs.Accesses.{Did, read_says, write_says, input_says, room_says, line_says}
use Rattle.serial_access.specs.declared.Port as memory
use Rattle.serial_words.specs.Lines.{line_of}
use Rattle.serial_words.specs.Said.{port_says}
use Rattle.serial_words.specs.declared.line.Line.{Line}
use Rattle.serial_words.specs.declared.line.Line.TheVariants.{Save, Kept, OfPort}
use Rattle.serial_words.specs.declared.line.Access.{Access}
use Rattle.serial_words.specs.declared.line.Access.TheVariants.{Write, Read, InputNone, InputBytes, Room, State, Level, RestoreNone}
use Rattle.serial_words.specs.declared.line.Access.TheVariants.{RestoreBytes, Unknown}
use Rattle.serial_lines.specs.declared.Held.{Held}
use Rattle.serial_lines.specs.declared.kept.Saved.{Saved}

abbrev pub held_of : memory.Port → Option Saved → Held
held_of port kept = record { port = port; kept = kept }

abbrev pub port_in : Held → Port
port_in held = port_of held.port.regs held.port.pos held.port.ring

abbrev pub kept_in : Saved → Port
kept_in saved = saved_of saved.regs (take saved.count saved.waiting)

-- ---- What a line asks for. A port to restore has its spare registers beside it.

pub data Asks : Type 0 where
  read : ℕ → Asks
  write : ℕ → ℕ → Asks
  input : List ℕ → Asks
  show_room show_state show_line save : Asks
  restore : Port → List ℕ → Asks
  nothing : Asks

-- A line that ends with bytes, two digits each.
abbrev pub asks_with : List ℕ → (List ℕ → Asks) → Asks
asks_with digits ask = cond (are_bytes digits) (ask (bytes_of digits)) nothing

-- The port of `restore DL DH IER IIR LCR LSR MCR MSR SCR HH..`. Neither FCR nor a size stands there: they are 0 and 64, as of a port that
-- `serial` names.
abbrev pub given_in : List ℕ → List ℕ → Port
given_in line bytes = record {
  settings = record {
    ier = byte_at line 14;
    lcr = byte_at line 20;
    mcr = byte_at line 26;
    scr = byte_at line 32;
    dll = byte_at line 8;
    dlm = byte_at line 11;
    fcr = 0;
  };
  iir = byte_at line 17;
  lsr = byte_at line 23;
  msr = byte_at line 29;
  waiting = bytes;
  size = 64;
}

-- `restore` alone asks for the port that was saved last, if one was.
abbrev pub asks_saved : Option Saved → Asks
asks_saved None = nothing
asks_saved (Some saved) = restore (kept_in saved) (spare_registers saved.regs)

abbrev pub asks_kept : Held → Asks
asks_kept held = asks_saved held.kept

abbrev pub asks_port : Access → List ℕ → Asks
asks_port (Write offset value) line = write offset value
asks_port (Read offset) line = read offset
asks_port InputNone line = input []
asks_port InputBytes line = asks_with (drop 2 line) input
asks_port Room line = show_room
asks_port State line = show_state
asks_port Level line = show_line
asks_port RestoreNone line = restore (given_in line []) fresh_spare_registers
asks_port RestoreBytes line = asks_with (drop 35 line) (λ bytes. restore (given_in line bytes) fresh_spare_registers)
asks_port Unknown line = nothing

abbrev pub asks_by : Line → Held → List ℕ → Asks
asks_by Save held line = save
asks_by Kept held line = asks_kept held
asks_by (OfPort access) held line = asks_port access line

abbrev pub asks : Held → List ℕ → Asks
asks held line = asks_by (line_of line) held line

-- ---- What is said

abbrev pub restore_says : Restore → Bool → List ℕ
restore_says o reached =
    cond o.refused (text "restore full\n")
    (text "restore " ++ decimal_of o.raises ++ cond reached (text " reached\n") (text " unreached\n"))

abbrev pub says : Asks → Port → Bool → List ℕ
says (read offset) p reached = read_says (read_of p offset)
says (write offset value) p reached = write_says (write_of p offset value)
says (input bytes) p reached = input_says (input_of p bytes)
says show_room p reached = room_says (room_of p)
says show_state p reached = text "state" ++ port_says p
says show_line p reached = line_says (line p)
says save p reached = text "save" ++ port_says p
says (restore saved spares) p reached = restore_says (restore_of p saved) reached
says nothing p reached = text "?\n"

-- What `reached` is where a port is restored: whether a run from a fresh one of its size could have come to it.
abbrev pub Reached : Port → List ℕ → Type 0
Reached saved spares = (is_size saved.size ≡ true) × Reachable saved.size saved × (spares ≡ fresh_spare_registers)

abbrev pub Tells : Asks → Bool → Type 0
Tells (restore saved spares) reached = (reached ≡ true) ↔ Reached saved spares
Tells (read offset) reached = Unit {0}
Tells (write offset value) reached = Unit {0}
Tells (input bytes) reached = Unit {0}
Tells show_room reached = Unit {0}
Tells show_state reached = Unit {0}
Tells show_line reached = Unit {0}
Tells save reached = Unit {0}
Tells nothing reached = Unit {0}

-- ---- What changes

abbrev pub port_then : Asks → Port → Port
port_then (read offset) p = (read_of p offset).port
port_then (write offset value) p = (write_of p offset value).port
port_then (input bytes) p = (input_of p bytes).port
port_then show_room p = p
port_then show_state p = p
port_then show_line p = p
port_then save p = p
port_then (restore saved spares) p = (restore_of p saved).port
port_then nothing p = p

-- Every line keeps the spare registers, but one by which a port is restored: it brings those that were saved with it.
abbrev pub spares_then : Asks → Port → List ℕ → List ℕ
spares_then (read offset) p now = now
spares_then (write offset value) p now = now
spares_then (input bytes) p now = now
spares_then show_room p now = now
spares_then show_state p now = now
spares_then show_line p now = now
spares_then save p now = now
spares_then (restore saved spares) p now = cond (restore_of p saved).refused now spares
spares_then nothing p now = now

abbrev pub is_save : Asks → Bool
is_save (read offset) = false
is_save (write offset value) = false
is_save (input bytes) = false
is_save show_room = false
is_save show_state = false
is_save show_line = false
is_save save = true
is_save (restore saved spares) = false
is_save nothing = false

-- After `save` the port is kept with its spare registers, and after every other line what was kept before.
abbrev pub Keeps : Bool → Held → Held → Type 0
Keeps true held held' =
    (saved : Saved) × (held'.kept ≡ Some saved) × (kept_in saved ≡ port_in held) ×
    (spare_registers saved.regs ≡ spare_registers held.port.regs)
Keeps false held held' = held'.kept ≡ held.kept

-- A port was restored.
pub record Brought (saved : Port) (spares : List ℕ) (port port' : memory.Port) (out out' : List ℕ) : Type 0 where
  pub reached : Bool
  pub tells : (reached ≡ true) ↔ Reached saved spares
  pub did :
      let o = restore_of (port_of port.regs port.pos port.ring) saved in
      Did (restore_says o reached) o.port (cond o.refused (spare_registers port.regs) spares) port'.regs port'.pos port'.ring out out'

-- What a line asks for was answered.
pub record Answers (asked : Asks) (held : Held) (out : List ℕ) (held' : Held) (out' : List ℕ) : Type 0 where
  pub reached : Bool
  pub tells : Tells asked reached
  pub said : out' ≡ out ++ says asked (port_in held) reached
  pub port : port_in held' ≡ port_then asked (port_in held)
  pub spare : spare_registers held'.port.regs ≡ spares_then asked (port_in held) (spare_registers held.port.regs)
  pub kept : Keeps (is_save asked) held held'
  pub short : length out' ≤ length out + 4096

-- What a line asks of the port alone was answered, whatever was saved.
abbrev pub AnswersPort : Asks → memory.Port → memory.Port → List ℕ → List ℕ → Type 0
AnswersPort asked port port' out out' = (kept : Option Saved) → Answers asked (held_of port kept) out (held_of port' kept) out'

abbrev pub AnswersHeld : List ℕ → Held → List ℕ → Held → List ℕ → Type 0
AnswersHeld line held out held' out' = Answers (asks held line) held out held' out'

-- The word that is counted: a read's or a write's. Every other line has 0, which tells of nothing; so do the words of an input and of a
-- restore.
abbrev pub word_then : Asks → Port → ℕ
word_then (read offset) p = read_word (read_of p offset)
word_then (write offset value) p = write_word (write_of p offset value)
word_then (input bytes) p = 0
word_then show_room p = 0
word_then show_state p = 0
word_then show_line p = 0
word_then save p = 0
word_then (restore saved spares) p = 0
word_then nothing p = 0
