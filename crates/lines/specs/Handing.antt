-- To which device a line goes, and what is answered where no device with a state answers.
use Rattle.std.specs.Prelude.{ℕ, ◌≡◌, false, cond, Option, Some, None, List, []}
use Rattle.clock.specs.Layout.{Inits}
use Rattle.clock_lines.specs.Answers as clock
use Rattle.clock_lines.specs.declared.Clocks as clock-memory
use Rattle.counters.specs.Counters.{fresh_serial, clock_of, fresh_clock}
use Rattle.pieces.specs.declared.cut.Kind.{Kind}
use Rattle.pieces.specs.declared.cut.Kind.TheVariants.{Silent, TooLong, Whole}
use Rattle.reset_lines.specs.Reset.{reset_answer}
use Rattle.serial.specs.Calls.{MakesFresh}
use Rattle.serial_lines.specs.Answers as serial
use Rattle.serial_lines.specs.Counted.{AnswersPorts, counters_in}
use Rattle.serial_lines.specs.declared.Ports as serial-memory
use Rattle.words.specs.Pattern.{fits_of}
use Rattle.words.specs.Text.{text}
use Rattle.lines.specs.declared.devices.Device.{Device}
use Rattle.lines.specs.declared.devices.Device.TheVariants.{Reset, Clock, Serial}
use Rattle.lines.specs.declared.devices.Task.{Task}
use Rattle.lines.specs.declared.devices.Task.TheVariants.{Pass, Unknown, NamesReset, NamesClock, NamesSerial, Asks}

-- How many bytes may wait in the serial port that a line names, if it names one.
unfoldable pub size_named : List ℕ → Option ℕ
size_named line =
    cond (fits_of (text "serial") line) (Some 64)
    (cond (fits_of (text "serial 16") line) (Some 16)
    (cond (fits_of (text "serial 32") line) (Some 32)
    (cond (fits_of (text "serial 64") line) (Some 64)
    (cond (fits_of (text "serial 128") line) (Some 128)
    (cond (fits_of (text "serial 256") line) (Some 256)
    (cond (fits_of (text "serial 512") line) (Some 512)
    (cond (fits_of (text "serial 1024") line) (Some 1024) None)))))))

abbrev pub names_serial : Option ℕ → Option Task
names_serial (Some size) = Some (NamesSerial size)
names_serial None = None

-- A device's name on a line by itself, or the serial port's with a size, makes it the current one.
unfoldable pub named_by : List ℕ → Option Task
named_by line =
    cond (fits_of (text "i8042") line) (Some NamesReset)
    (cond (fits_of (text "clock") line) (Some NamesClock) (names_serial (size_named line)))

abbrev pub asks_current : Option Device → Task
asks_current (Some device) = Asks device
asks_current None = Unknown

-- Where a line names no device it is for the current one; before any was named it is unknown.
abbrev pub named_task : Option Task → Option Device → Task
named_task (Some task) current = task
named_task None current = asks_current current

abbrev pub task_of : List ℕ → Kind → Option Device → Task
task_of line Silent current = Pass
task_of line TooLong current = Unknown
task_of line Whole current = named_task (named_by line) current

-- The current device after a line.
abbrev pub current_after : Task → Option Device → Option Device
current_after Pass current = current
current_after Unknown current = current
current_after NamesReset current = Some Reset
current_after NamesClock current = Some Clock
current_after (NamesSerial size) current = Some Serial
current_after (Asks device) current = current

-- No device with a state answers.
pub data Plain : Task → Type 0 where
  passed : Plain Pass
  unknown : Plain Unknown
  names_reset : Plain NamesReset
  asks_reset : Plain (Asks Reset)

-- A line that is passed over gets no answer; an unknown one gets `?`.
abbrev pub plain_says : List ℕ → Task → List ℕ
plain_says line Pass = []
plain_says line Unknown = text "?\n"
plain_says line NamesReset = text "i8042\n"
plain_says line (Asks Reset) = reset_answer line
plain_says line NamesClock = text "?\n"
plain_says line (NamesSerial size) = text "?\n"
plain_says line (Asks Clock) = text "?\n"
plain_says line (Asks Serial) = text "?\n"

-- ---- The devices that have a state

-- The clock was named: it is fresh, its time is 0, and nothing is counted; what was saved stays.
pub record BeginsClock (clocks clocks' : clock-memory.Clocks) : Type 0 where
  pub fresh : Inits clocks'.clock
  pub time : clocks'.time ≡ 0
  pub kept : clocks'.kept ≡ clocks.kept
  pub counted : clock_of clocks'.counters ≡ fresh_clock

-- Any other line is answered as the clock's lines are.
abbrev pub AnswersClock : List ℕ → clock-memory.Clocks → List ℕ → clock-memory.Clocks → List ℕ → Type 0
AnswersClock line clocks out clocks' out' = clock.Answers (clock.asks clocks line) clocks out clocks' out'

-- The serial port was named: it is fresh, of the size that the line names, and nothing is counted; what was saved stays.
pub record BeginsSerial (size : ℕ) (ports ports' : serial-memory.Ports) : Type 0 where
  pub fresh : MakesFresh size ports'.held.port.regs ports'.held.port.pos
  pub kept : serial.Keeps false ports.held ports'.held
  pub counted : counters_in ports' ≡ fresh_serial

-- Any other line is answered as the serial port's lines are.
abbrev pub AnswersSerial : List ℕ → serial-memory.Ports → List ℕ → serial-memory.Ports → List ℕ → Type 0
AnswersSerial line ports out ports' out' = AnswersPorts line ports out ports' out'
