-- A serial port moves to another host: the calls on the way, each as its contract promises, and what is so at the end.
use Rattle.std.specs.Prelude.{ℕ, ◌/◌, ◌%◌, ◌≤◌, ◌≡◌, Bool, true, List, length, take}
use Rattle.common.specs.Answer.{refused_bit}
use Rattle.serial.specs.Layout.{port_of, spare_registers, fresh_spare_registers}
use Rattle.runs.specs.Run.{Op, run}
use Rattle.serial_saved.specs.Calls.{Saves, Restores}
use Rattle.serial_form.specs.Form.{read_form}
use Rattle.serial_form.specs.Calls.{Encodes, Decodes}

-- A port whose spare registers are 0, in which no more bytes wait than its size.
pub record HasForm (regs pos ring : List ℕ) : Type 0 where
  pub long : length regs ≡ 16
  pub zero : spare_registers regs ≡ fresh_spare_registers
  pub fits : length (port_of regs pos ring).waiting ≤ (port_of regs pos ring).size

-- The first host saves its port, whatever lay where it saves the waiting bytes to, and writes what it saved into memory with room for the
-- form: so many bytes of that memory leave.
pub record Leaves (regs pos ring form : List ℕ) : Type 0 where
  pub waiting₀ : List ℕ
  pub saved : List ℕ
  pub waiting : List ℕ
  pub count : ℕ
  pub saves : Saves regs pos ring waiting₀ saved waiting count
  pub memory : List ℕ
  pub memory' : List ℕ
  pub long : ℕ
  pub encodes : Encodes saved (take count waiting) memory memory' long
  pub room : long ≤ length memory
  pub bytes : form ≡ take long memory'

-- The second host reads these bytes, whatever lay where it reads them to, and restores what it read into any memory of a port.
pub record Arrives (form regs' pos' ring' : List ℕ) : Type 0 where
  pub saved₀ : List ℕ
  pub waiting₀ : List ℕ
  pub saved : List ℕ
  pub waiting : List ℕ
  pub count : ℕ
  pub decodes : Decodes (read_form form) saved₀ waiting₀ saved waiting count
  pub regs : List ℕ
  pub pos : List ℕ
  pub ring : List ℕ
  pub word : ℕ
  pub restores : Restores regs pos ring saved (take count waiting) regs' pos' ring' word

-- Nothing was refused, and the port there is the port here: all its registers, FCR, the size and the spare ones among them, and the bytes
-- that wait. Every run of it is the same.
pub record Same (regs pos ring form regs' pos' ring' : List ℕ) (a : Arrives form regs' pos' ring') : Type 0 where
  pub read : a.count ≡ length (port_of regs pos ring).waiting
  pub restored : a.word / refused_bit % 2 ≡ 0
  pub registers : regs' ≡ regs
  pub port : port_of regs' pos' ring' ≡ port_of regs pos ring
  pub runs : (os : List Op) → run (port_of regs' pos' ring') os ≡ run (port_of regs pos ring) os

-- Both hosts have played a run of so many operations: both ports, their spare registers and the answers are the same.
pub record SamePlayed (many : ℕ) (regs pos ring answers : List ℕ) (r : Bool) (regs' pos' ring' answers' : List ℕ) (r' : Bool) : Type 0 where
  pub here : r ≡ true
  pub there : r' ≡ true
  pub port : port_of regs' pos' ring' ≡ port_of regs pos ring
  pub spares : spare_registers regs' ≡ spare_registers regs
  pub answered : take many answers' ≡ take many answers
