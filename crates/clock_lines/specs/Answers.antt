-- The clock's lines and their answers.
use Rattle.std.specs.Prelude.{ℕ, ◌+◌, ◌*◌, ◌≤◌, ◌≡◌, Bool, true, false, cond, not, List, [], ◌∷◌, ◌++◌, length, ◌↔◌, Option, Some, None, eqb, get_or, drop}
use Rattle.common.specs.Bytes.{value_of}
use Rattle.clock.specs.Registers.{Clock, Reply, Change, read_of, write_of}
use Rattle.clock.specs.Layout.{clock_of, spare_of, refusal, bytes_after, read_answer, clock_after, write_answer}
use Rattle.clock_saved.specs.Reachable.{ReachableWords}
use Rattle.counters.specs.Counters as counters
use Rattle.words.specs.Decimal.{number_of, next_decimal}
use Rattle.words.specs.Hex.{byte_at, digits_of, word_digits}
use Rattle.words.specs.Pattern.{fits_of, begins_like}
use Rattle.words.specs.Text.{text}
use Rattle.clock_lines.specs.declared.Clocks.{Clocks}

-- ---- What a line asks for

-- OOOO and BBBBBBBB, of `r OOOO BBBBBBBB` and `w OOOO BBBBBBBB`.
abbrev pub offset_in : List ℕ → ℕ
offset_in line = byte_at line 2 * 256 + byte_at line 4

abbrev pub bytes_in : List ℕ → List ℕ
bytes_in line = byte_at line 7 ∷ byte_at line 9 ∷ byte_at line 11 ∷ byte_at line 13 ∷ []

-- The number of eight digits, the highest first.
abbrev pub word_at : List ℕ → ℕ → ℕ
word_at line i = (byte_at line i * 0x100 + byte_at line (i + 2)) * 0x1_0000 + (byte_at line (i + 4) * 0x100 + byte_at line (i + 6))

-- The words of a clock, of `restore LOAD OFFSET MATCH MASK RAW`. The spare ones are 0.
abbrev pub words_in : List ℕ → List ℕ
words_in line = word_at line 8 ∷ word_at line 34 ∷ word_at line 43 ∷ word_at line 52 ∷ word_at line 25 ∷ word_at line 17 ∷ 0 ∷ 0 ∷ []

pub data Asks : Type 0 where
  read write : ℕ → List ℕ → Asks
  set_time : ℕ → Asks
  show_state show_counters save : Asks
  restore : List ℕ → Asks
  nothing : Asks

abbrev pub asks_time : Option ℕ → Asks
asks_time (Some time) = set_time time
asks_time None = nothing

-- `restore` alone asks for the clock that was saved last.
abbrev pub asks_kept : Option (List ℕ) → Asks
asks_kept (Some saved) = restore saved
asks_kept None = nothing

unfoldable pub asks_saved : Clocks → List ℕ → Asks
asks_saved clocks line =
    cond (fits_of (text "save") line) save
    (cond (fits_of (text "restore") line) (asks_kept clocks.kept)
    (cond (fits_of (text "restore LLLLLLLL OOOOOOOOOOOOOOOO MMMMMMMM KKKKKKKK RRRRRRRR") line) (restore (words_in line)) nothing))

unfoldable pub asks_clock : Clocks → List ℕ → Asks
asks_clock clocks line =
    cond (fits_of (text "r OOOO BBBBBBBB") line) (read (offset_in line) (bytes_in line))
    (cond (fits_of (text "w OOOO BBBBBBBB") line) (write (offset_in line) (bytes_in line))
    (cond (begins_like (text "now ") line) (asks_time (number_of (drop 4 line)))
    (cond (fits_of (text "state") line) show_state (asks_saved clocks line))))

unfoldable pub asks : Clocks → List ℕ → Asks
asks clocks line = cond (fits_of (text "counters") line) show_counters (asks_clock clocks line)

-- ---- What is said

-- Four bytes in memory order.
abbrev pub four_digits : List ℕ → List ℕ
four_digits bytes = digits_of (get_or bytes 0 0) ++ digits_of (get_or bytes 1 0) ++ digits_of (get_or bytes 2 0) ++ digits_of (get_or bytes 3 0)

-- An access is valid where it is not refused.
abbrev pub valid : ℕ → Bool
valid answer = not (eqb answer refusal)

abbrev pub read_said : List ℕ → Bool → List ℕ
read_said bytes is_valid = text "r " ++ four_digits bytes ++ cond is_valid (text " ok\n") (text " invalid\n")

abbrev pub read_says : Reply → List ℕ → List ℕ
read_says reply bytes = read_said (bytes_after reply bytes) (valid (read_answer reply))

abbrev pub write_said : Bool → List ℕ
write_said is_valid = cond is_valid (text "w ok\n") (text "w invalid\n")

abbrev pub write_says : Change → List ℕ
write_says change = write_said (valid (write_answer change))

-- After `state` or `save`: the load register, the two halves of what the clock is ahead of the host's time, the match register, the mask
-- and the raw status.
abbrev pub state_says : List ℕ → List ℕ → List ℕ
state_says name words =
    name ++ (text " " ++ word_digits (get_or words 0 0)) ++ (text " " ++ word_digits (get_or words 5 0)) ++ word_digits (get_or words 4 0) ++
    (text " " ++ word_digits (get_or words 1 0)) ++ (text " " ++ word_digits (get_or words 2 0)) ++ (text " " ++ word_digits (get_or words 3 0)) ++
    text "\n"

abbrev pub restore_says : Bool → List ℕ
restore_says reached = cond reached (text "restore reached\n") (text "restore unreached\n")

-- Invalid reads and invalid writes since the clock was named.
abbrev pub counters_say : counters.Clock → List ℕ
counters_say c = text "counters" ++ next_decimal c.invalid_reads ++ next_decimal c.invalid_writes ++ text "\n"

abbrev pub says : Asks → Clocks → Bool → List ℕ
says (read offset bytes) clocks reached = read_says (read_of (clock_of clocks.clock) clocks.time offset) bytes
says (write offset bytes) clocks reached = write_says (write_of (clock_of clocks.clock) clocks.time offset (value_of bytes))
says (set_time t) clocks reached = text "now\n"
says show_state clocks reached = state_says (text "state") clocks.clock
says show_counters clocks reached = counters_say (counters.clock_of clocks.counters)
says save clocks reached = state_says (text "save") clocks.clock
says (restore saved) clocks reached = restore_says reached
says nothing clocks reached = text "?\n"

-- What `reached` is where a clock is restored: whether a run from a fresh one could have come to it.
abbrev pub Tells : Asks → Bool → Type 0
Tells (restore saved) reached = (reached ≡ true) ↔ ReachableWords saved
Tells (read offset bytes) reached = Unit {0}
Tells (write offset bytes) reached = Unit {0}
Tells (set_time t) reached = Unit {0}
Tells show_state reached = Unit {0}
Tells show_counters reached = Unit {0}
Tells save reached = Unit {0}
Tells nothing reached = Unit {0}

-- ---- What changes

abbrev pub clock_then : Asks → Clock → ℕ → Clock
clock_then (read offset bytes) clock time = clock
clock_then (write offset bytes) clock time = clock_after (write_of clock time offset (value_of bytes)) clock
clock_then (set_time t) clock time = clock
clock_then show_state clock time = clock
clock_then show_counters clock time = clock
clock_then save clock time = clock
clock_then (restore saved) clock time = clock_of saved
clock_then nothing clock time = clock

abbrev pub spare_then : Asks → List ℕ → List ℕ
spare_then (read offset bytes) spare = spare
spare_then (write offset bytes) spare = spare
spare_then (set_time t) spare = spare
spare_then show_state spare = spare
spare_then show_counters spare = spare
spare_then save spare = spare
spare_then (restore saved) spare = spare_of saved
spare_then nothing spare = spare

abbrev pub time_then : Asks → ℕ → ℕ
time_then (read offset bytes) time = time
time_then (write offset bytes) time = time
time_then (set_time t) time = t
time_then show_state time = time
time_then show_counters time = time
time_then save time = time
time_then (restore saved) time = time
time_then nothing time = time

abbrev pub is_save : Asks → Bool
is_save (read offset bytes) = false
is_save (write offset bytes) = false
is_save (set_time t) = false
is_save show_state = false
is_save show_counters = false
is_save save = true
is_save (restore saved) = false
is_save nothing = false

-- What is counted: the answers to reads and writes.
abbrev pub counted_then : Asks → Clocks → counters.Clock → counters.Clock
counted_then (read offset bytes) clocks c =
    counters.clock_after c (counters.read (read_answer (read_of (clock_of clocks.clock) clocks.time offset)))
counted_then (write offset bytes) clocks c =
    counters.clock_after c (counters.write (write_answer (write_of (clock_of clocks.clock) clocks.time offset (value_of bytes))))
counted_then (set_time t) clocks c = c
counted_then show_state clocks c = c
counted_then show_counters clocks c = c
counted_then save clocks c = c
counted_then (restore saved) clocks c = c
counted_then nothing clocks c = c

-- What a line asks for was answered, behind what waited.
pub record Answers (asked : Asks) (clocks : Clocks) (out : List ℕ) (clocks' : Clocks) (out' : List ℕ) : Type 0 where
  pub reached : Bool
  pub tells : Tells asked reached
  pub said : out' ≡ out ++ says asked clocks reached
  pub clock : clock_of clocks'.clock ≡ clock_then asked (clock_of clocks.clock) clocks.time
  pub spare : spare_of clocks'.clock ≡ spare_then asked (spare_of clocks.clock)
  pub time : clocks'.time ≡ time_then asked clocks.time
  pub kept : clocks'.kept ≡ cond (is_save asked) (Some clocks.clock) clocks.kept
  pub counted : counters.clock_of clocks'.counters ≡ counted_then asked clocks (counters.clock_of clocks.counters)
  pub short : length out' ≤ length out + 4096
