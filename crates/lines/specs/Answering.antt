-- What an input is answered, the whole of it and as far as it has come: each line once, one after another.
use Rattle.std.specs.Prelude.{ℕ, ◌+◌, ◌<◌, ◌≤◌, ◌≡◌, Bool, true, false, cond, None, List, [], ◌∷◌, ◌++◌, eqb, length, get_or}
use Rattle.clock.specs.Layout.{Words}
use Rattle.clock_lines.specs.declared.Clocks as clock-memory
use Rattle.pieces.specs.Cutting.{longest, kind_of, lines_of, lines_in, rest_of}
use Rattle.serial_lines.specs.declared.Ports as serial-memory
use Rattle.words.specs.Text.{text}
use Rattle.lines.specs.Handing.{task_of, current_after, Plain, plain_says, BeginsClock, AnswersClock, BeginsSerial, AnswersSerial}
use Rattle.lines.specs.declared.devices.Device.TheVariants.{Clock, Serial}
use Rattle.lines.specs.declared.devices.Devices.{Devices}
use Rattle.lines.specs.declared.devices.Task.{Task}
use Rattle.lines.specs.declared.devices.Task.TheVariants.{NamesClock, NamesSerial, Asks}

-- ---- One line

-- The clock, or the serial port, is named or answers a line: so it does where `said` is put behind what waits somewhere. A line that names
-- the port is its own answer. The clock is eight words of 32 bits after it.
pub data ClockSays (line : List ℕ) (clocks : clock-memory.Clocks) : Task → List ℕ → clock-memory.Clocks → Type 0 where
  clock_named : {clocks' : clock-memory.Clocks} → BeginsClock clocks clocks' → Words clocks'.clock
      → ClockSays line clocks NamesClock (text "clock\n") clocks'
  clock_asked : {out said out' : List ℕ} {clocks' : clock-memory.Clocks} → out' ≡ out ++ said
      → AnswersClock line clocks out clocks' out' → Words clocks'.clock
      → ClockSays line clocks (Asks Clock) said clocks'

pub data PortSays (line : List ℕ) (ports : serial-memory.Ports) : Task → List ℕ → serial-memory.Ports → Type 0 where
  port_named : {size : ℕ} {ports' : serial-memory.Ports} → BeginsSerial size ports ports'
      → PortSays line ports (NamesSerial size) (line ++ text "\n") ports'
  port_asked : {out said out' : List ℕ} {ports' : serial-memory.Ports} → out' ≡ out ++ said
      → AnswersSerial line ports out ports' out'
      → PortSays line ports (Asks Serial) said ports'

-- What is to be done with a line is done: what is said, and the devices after it.
pub data Does (line : List ℕ) (task : Task) (w : Devices) : List ℕ → Devices → Type 0 where
  clock : {said : List ℕ} {clocks' : clock-memory.Clocks} → ClockSays line w.clocks task said clocks'
      → Does line task w said (record { device = current_after task w.device; clocks = clocks'; ports = w.ports })
  port : {said : List ℕ} {ports' : serial-memory.Ports} → PortSays line w.ports task said ports'
      → Does line task w said (record { device = current_after task w.device; clocks = w.clocks; ports = ports' })
  plain : Plain task
      → Does line task w (plain_says line task) (record { device = current_after task w.device; clocks = w.clocks; ports = w.ports })

-- A line was handed on: what is said is put behind what waited.
pub record Hands (line : List ℕ) (task : Task) (w : Devices) (out : List ℕ) (w' : Devices) (out' : List ℕ) : Type 0 where
  pub said : List ℕ
  pub puts : out' ≡ out ++ said
  pub does : Does line task w said w'
  pub short : length out' ≤ length out + 4096

-- Of which kind a line is the whole of it tells.
abbrev pub AnswersLine : List ℕ → Devices → List ℕ → Devices → Type 0
AnswersLine line w said w' = Does line (task_of line (kind_of line false) w.device) w said w'

-- ---- All lines

pub data Answers : Devices → List (List ℕ) → List ℕ → Devices → Type 0 where
  none : {w : Devices} → Answers w [] [] w
  next : {w w' w'' : Devices} {line said rest : List ℕ} {lines : List (List ℕ)}
      → AnswersLine line w said w' → Answers w' lines rest w'' → Answers w (line ∷ lines) (said ++ rest) w''

-- At first no device is named and none is saved.
pub record First (w : Devices) : Type 0 where
  pub device : w.device ≡ None
  pub clocks : w.clocks.kept ≡ None
  pub ports : w.ports.held.kept ≡ None

-- `said` answers the whole input.
pub record AnswersInput (input said : List ℕ) : Type 0 where
  pub first : Devices
  pub last : Devices
  pub begins : First first
  pub answers : Answers first (lines_of input) said last

-- ---- Lines that come in pieces

-- A line that is too long is answered before all of it has come: a comment is passed over (0x23 is `#`), any other gets `?`.
abbrev pub long_says : List ℕ → List ℕ
long_says line = cond (eqb (get_or line 0 0) 0x23) [] (text "?\n")

-- What was said of the current line already.
abbrev pub told_of : Bool → List ℕ → List ℕ
told_of passes line = cond passes (long_says line) []

-- After `line`, the current one, of which `told` was said, come `bytes`; then `line'` is the current one, of which `told'` was said.
-- What is said meanwhile is, behind `told`, the answers to the lines that have ended, and `told'`.
pub record Reads (w : Devices) (line told bytes said : List ℕ) (w' : Devices) (line' told' : List ℕ) : Type 0 where
  pub answers : List ℕ
  pub answered : Answers w (lines_in line bytes) answers w'
  pub rest : line' ≡ rest_of line bytes
  pub says : told ++ said ≡ answers ++ told'

-- `said` answers each line that has ended in the input, and says of the one that has not at most that it is too long.
pub record AnswersSoFar (input said : List ℕ) : Type 0 where
  pub first : Devices
  pub last : Devices
  pub begins : First first
  pub passes : Bool
  pub long : passes ≡ true → longest < length (rest_of [] input)
  pub reads : Reads first [] [] input said last (rest_of [] input) (told_of passes (rest_of [] input))
