-- Ours and the original side by side: what they have in common for ever, and the rows where IIR's reply, the number of raises or, after a
-- write of FCR, what waits differs.
use Rattle.std.specs.Prelude.{ℕ, ◌≡◌, ◌⊎◌, Bool, true, false, cond, not, ◌&&◌, ◌||◌, eqb}
use mathlib.Core.List.{List, [], ◌∷◌, ◌++◌, tail}
use Rattle.common.specs.Bits.{on}
use Rattle.common.specs.Lists.{some}
use Rattle.interrupts.specs.Interrupts.{Kind, received_data, transmitter_empty, ier_stored, is_enabled}
use Rattle.line_status.specs.LineStatus.{lsr_after_read}
use Rattle.serial.specs.Port.{Port, Events, Register, RBR_THR, IER, IIR_FCR, addressed, is_open, in_loop, has_room, active}
use Rattle.serial.specs.Port as serial
use Rattle.runs.specs.Run.{Op, read, write, input, room, Answer, replied, sent, took, full, step, run}
use Rattle.runs.specs.Run as runs
use Rattle.vm_superio.specs.Original.{Original, is_marked, iir_read}
use Rattle.vm_superio.specs.Original as original

-- ---- What the two have in common

-- What both keep of what the guest wrote. FCR ours alone remembers.
abbrev pub kept_by_both : serial.Settings → original.Settings
kept_by_both s = record { ier = s.ier; lcr = s.lcr; mcr = s.mcr; scr = s.scr; dll = s.dll; dlm = s.dlm }

-- Everything but IIR as it is stored, and FCR.
pub record Same (p : Port) (q : Original) : Type 0 where
  pub settings : q.settings ≡ kept_by_both p.settings
  pub lsr : q.lsr ≡ p.lsr
  pub msr : q.msr ≡ p.msr
  pub waiting : q.waiting ≡ p.waiting
  pub size : q.size ≡ p.size

-- One and the same saved state, restored by both.
abbrev pub restored : Port → Original
restored p = record { settings = kept_by_both p.settings; iir = p.iir; lsr = p.lsr; msr = p.msr; waiting = p.waiting; size = p.size }

-- What happened, as far as the original tells it: that RBR was read, and left no byte.
abbrev pub as_original : Events → Events
as_original e = record {
  data_read = e.data_read;
  delivered = false;
  none_left = e.none_left;
  looped = false;
  dropped = false;
  flushed = false;
  discarded = [];
}

-- Of an answer: the reply but at offset 2, these events, the bytes sent, taken, "full" and the room. 0 stands for what may differ: IIR's
-- reply, raises.
abbrev pub is_iir_read : Op → Bool
is_iir_read (read offset) = eqb offset 2
is_iir_read (write offset value) = false
is_iir_read (input bytes) = false
is_iir_read room = false

abbrev pub common : Bool → Answer → Answer
common iir (replied v e n) = replied (cond iir 0 v) (as_original e) 0
common iir (sent s e n) = sent s (as_original e) 0
common iir (took t n) = took t 0
common iir (full n) = full 0
common iir (runs.has_room r) = runs.has_room r

abbrev pub commons : List Op → List Answer → List Answer
commons [] answers = []
commons (o ∷ os) [] = []
commons (o ∷ os) (a ∷ answers) = common (is_iir_read o) a ∷ commons os answers

-- ---- Where FCR empties the receiver

-- By a write with 0x02 at offset 2 ours throws away what waits; the original keeps it, and the two would differ for ever after. So that they
-- can be compared over every run, the original's guest then reads what waits there. These reads are no operations of the run: their answers,
-- and with them their callbacks, are counted on neither side. At any other write of FCR the original does nothing, and its guest neither.

-- There is something to empty: a byte waits, or data ready is to be cleared in LSR, which without a byte is so in a restored state alone.
abbrev pub is_to_empty : List ℕ → ℕ → Bool
is_to_empty waiting lsr = some waiting || not (eqb (lsr_after_read false lsr) lsr)

abbrev pub is_emptied : Original → Op → Bool
is_emptied q (read offset) = false
is_emptied q (write offset value) = eqb offset 2 && (on value 0x02 && is_to_empty q.waiting q.lsr)
is_emptied q (input bytes) = false
is_emptied q room = false

-- RBR is read, DLAB closed for it, once for each byte that waits; once where none does.
abbrev pub once_for_each : List ℕ → List Op
once_for_each [] = []
once_for_each (byte ∷ bytes) = read 0 ∷ once_for_each bytes

abbrev pub fetching : Original → List Op
fetching q = write 3 0x00 ∷ read 0 ∷ (once_for_each (tail q.waiting) ++ (write 3 q.settings.lcr ∷ []))

unfoldable pub drained : Original → Original
drained q = (original.run q (fetching q)).original

-- One operation of the original beside ours, and a run of them: the answers are those to the operations of the run.
abbrev pub next : Original → Op → Original
next q o = let after = (original.step q o).original in cond (is_emptied q o) (drained after) after

unfoldable pub run_beside : Original → List Op → original.Ran
run_beside q [] = record { original = q; answers = [] }
run_beside q (o ∷ os) =
    let r = run_beside (next q o) os in
    record { original = r.original; answers = (original.step q o).answer ∷ r.answers }

-- The operations of the run, with those reads among them: what the original's guest does in all.
abbrev pub with_fetching : Original → List Op → List Op
with_fetching q [] = []
with_fetching q (o ∷ os) = o ∷ (cond (is_emptied q o) (fetching (original.step q o).original) [] ++ with_fetching (next q o) os)

-- No operation of the run is such a write.
abbrev pub NoneEmptied : Original → List Op → Type 0
NoneEmptied q [] = Unit {0}
NoneEmptied q (o ∷ os) = (is_emptied q o ≡ false) × NoneEmptied (original.step q o).original os

-- ---- What the rows go by

abbrev pub enables : Port → Kind → Bool
enables p kind = is_enabled p.settings.ier kind

abbrev pub waits : Port → Bool
waits p = some p.waiting

abbrev pub marks_data : Original → Bool
marks_data q = is_marked q.iir original.received_data

abbrev pub marks_transmitter : Original → Bool
marks_transmitter q = is_marked q.iir original.transmitter_empty

-- IIR of the original answers none of 0xc1, 0xc2, 0xc4 and 0xc6: for a byte, its low six bits are none of 0x01, 0x02, 0x04 and 0x06.
abbrev pub is_strange : ℕ → Bool
is_strange iir = let shown = iir_read iir in not (eqb shown 0xc1 || eqb shown 0xc2 || eqb shown 0xc4 || eqb shown 0xc6)

-- Bytes come while others wait, and the mark was taken back: the original raises alone. None waits, and the mark is there: ours does alone.
abbrev pub data_again : Port → Original → Bool
data_again p q = active p received_data && not (marks_data q)

abbrev pub data_quiet : Port → Original → Bool
data_quiet p q = enables p received_data && not (waits p) && marks_data q

-- A byte is written in the loop: ours raises for the transmitter; the original never does.
abbrev pub loop_transmitter : Port → Bool
loop_transmitter p = enables p transmitter_empty && not (active p transmitter_empty)

-- IER is written with 0x01: ours raises alone; the original raises alone. The same with 0x02.
abbrev pub quiet_data : Port → Original → ℕ → Bool
quiet_data p q v = is_enabled (ier_stored v) received_data && waits p && not (enables p received_data) && marks_data q

abbrev pub enables_data_again : Port → Original → ℕ → Bool
enables_data_again p q v = is_enabled (ier_stored v) received_data && active p received_data && not (marks_data q)

abbrev pub quiet_transmitter : Port → Original → ℕ → Bool
quiet_transmitter p q v = is_enabled (ier_stored v) transmitter_empty && not (active p transmitter_empty) && marks_transmitter q

abbrev pub enables_transmitter_again : Port → Original → ℕ → Bool
enables_transmitter_again p q v = is_enabled (ier_stored v) transmitter_empty && active p transmitter_empty && not (marks_transmitter q)

-- ---- The rows

-- What an operation is: a register read or written, by its map; bytes from the line; a question for room.
pub data Access : Type 0 where
  reads : Register → Access
  writes : Register → ℕ → Access
  receives : List ℕ → Access
  asks : Access

abbrev pub access_of : Port → Op → Access
access_of p (read offset) = reads (addressed (is_open p) offset)
access_of p (write offset value) = writes (addressed (is_open p) offset) value
access_of p (input bytes) = receives bytes
access_of p room = asks

pub data Row (p : Port) (q : Original) : Access → Type 0 where
  -- IIR is read, and the original shows what it was restored with and no run leaves there.
  original_strange_iir : is_strange q.iir ≡ true → Row p q (reads IIR_FCR)
  -- IIR is read with both kinds marked: the original shows both at once, ours the one of higher priority, or none if neither is active.
  original_two_kinds : marks_data q ≡ true → marks_transmitter q ≡ true → Row p q (reads IIR_FCR)
  -- IIR is read while bytes wait and received data is enabled: ours shows it; the original took it back at a read of IIR or RBR.
  original_forgotten_data : active p received_data ≡ true → marks_data q ≡ false → Row p q (reads IIR_FCR)
  -- IIR is read after received data was disabled: the original still shows it.
  original_stale_data : marks_data q ≡ true → marks_transmitter q ≡ false → active p received_data ≡ false → Row p q (reads IIR_FCR)
  -- IIR is read after the transmitter's interrupt was disabled: the original still shows it.
  original_stale_transmitter : marks_transmitter q ≡ true → marks_data q ≡ false → active p transmitter_empty ≡ false → Row p q (reads IIR_FCR)
  -- IIR is read after a read that showed received data, or a byte in the loop: the transmitter is active in ours, the original shows none.
  original_forgotten_transmitter : active p transmitter_empty ≡ true → marks_transmitter q ≡ false → marks_data q ≡ false
      → Row p q (reads IIR_FCR)
  -- THR is written on the line while the transmitter's interrupt is active in ours and not marked in the original: that raises again.
  original_sends_again : {v : ℕ} → in_loop p ≡ false → active p transmitter_empty ≡ true → marks_transmitter q ≡ false
      → Row p q (writes RBR_THR v)
  -- THR is written in the loop: ours raises for the empty transmitter.
  original_loop_transmitter : {v : ℕ} → in_loop p ≡ true → loop_transmitter p ≡ true → (has_room p && data_again p q) ≡ false
      → Row p q (writes RBR_THR v)
  -- THR is written in the loop while bytes wait: the original raises again for the byte that comes.
  original_loop_data_again : {v : ℕ} → in_loop p ≡ true → has_room p ≡ true → data_again p q ≡ true → loop_transmitter p ≡ false
      → Row p q (writes RBR_THR v)
  -- THR is written in the loop and a first byte comes: the original has it marked from a restored state, and is quiet.
  original_loop_data_quiet : {v : ℕ} → in_loop p ≡ true → has_room p ≡ true → data_quiet p q ≡ true → Row p q (writes RBR_THR v)
  -- Bytes come while others wait: the original raises again.
  original_data_again : {bytes : List ℕ} → in_loop p ≡ false → some bytes ≡ true → has_room p ≡ true → data_again p q ≡ true
      → Row p q (receives bytes)
  -- The first bytes come: the original has them marked from a restored state, and is quiet.
  original_data_quiet : {bytes : List ℕ} → in_loop p ≡ false → some bytes ≡ true → has_room p ≡ true → data_quiet p q ≡ true
      → Row p q (receives bytes)
  -- IER enables received data again while bytes wait: ours raises; the original, which kept the mark meanwhile, does not.
  original_quiet_data : {v : ℕ} → quiet_data p q v ≡ true → enables_transmitter_again p q v ≡ false → Row p q (writes IER v)
  -- IER is written with received data enabled as before, and bytes wait: the original took the mark back, and raises again.
  original_enables_data_again : {v : ℕ} → enables_data_again p q v ≡ true → quiet_transmitter p q v ≡ false → Row p q (writes IER v)
  -- IER enables the transmitter's interrupt again: ours raises; the original, which kept the mark meanwhile, does not.
  original_quiet_transmitter : {v : ℕ} → quiet_transmitter p q v ≡ true → enables_data_again p q v ≡ false → Row p q (writes IER v)
  -- IER is written with the transmitter's interrupt enabled as before, active in ours and not marked in the original: that raises again.
  original_enables_transmitter_again : {v : ℕ} → enables_transmitter_again p q v ≡ true → quiet_data p q v ≡ false → Row p q (writes IER v)
  -- FCR is written with 0x02 while bytes wait: ours throws them away, the original keeps them.
  original_keeps_fifo : {v : ℕ} → on v 0x02 ≡ true → is_to_empty p.waiting p.lsr ≡ true → Row p q (writes IIR_FCR v)

abbrev pub RowAt : Port → Original → Op → Type 0
RowAt p q o = Row p q (access_of p o)

-- ---- The pairs that runs keep to

-- Where the original marks the transmitter and it is enabled, ours is active.
pub record Beside (p : Port) (q : Original) : Type 0 where
  pub same : Same p q
  pub marked : marks_transmitter q ≡ true → enables p transmitter_empty ≡ true → active p transmitter_empty ≡ true

-- After a run they are the same, and what answers have in common was the same all the way.
pub record SameRun (p : Port) (q : Original) (os : List Op) : Type 0 where
  pub same : Same (run p os).port (run_beside q os).original
  pub answers : commons os (run p os).answers ≡ commons os (run_beside q os).answers

-- ---- A call agrees, in a run or alone

-- Our answer with what the original would tell of it.
abbrev pub heard : Answer → Answer
heard (replied v e n) = replied v (as_original e) n
heard (sent s e n) = sent s (as_original e) n
heard (took t n) = took t n
heard (full n) = full n
heard (runs.has_room r) = runs.has_room r

-- It answers the same and leaves the two the same.
pub record Agrees (p : Port) (q : Original) (o : Op) : Type 0 where
  pub answer : heard (step p o).answer ≡ (original.step q o).answer
  pub same : Same (step p o).port (original.step q o).original

-- The rows are exact at a call: it agrees or is in a row, and not both.
pub record Exact (p : Port) (q : Original) (o : Op) : Type 0 where
  pub complete : Agrees p q o ⊎ RowAt p q o
  pub real : RowAt p q o → Agrees p q o → ⊥

-- And at each call of a run: each goes on from its own state.
abbrev pub ExactRun : Port → Original → List Op → Type 0
ExactRun p q [] = Unit {0}
ExactRun p q (o ∷ os) = Exact p q o × ExactRun (step p o).port (next q o) os

-- After `before` the call is in a row, and each of the two answers so.
pub record Shown (p : Port) (q : Original) (before : List Op) (call : Op) (ours theirs : Answer) : Type 0 where
  pub row : RowAt (run p before).port (run_beside q before).original call
  pub our : heard (step (run p before).port call).answer ≡ ours
  pub their : (original.step (run_beside q before).original call).answer ≡ theirs

-- The same of the row of FCR, which shows in what waits.
pub record ShownWaiting (p : Port) (q : Original) (before : List Op) (call : Op) (ours theirs : List ℕ) : Type 0 where
  pub row : RowAt (run p before).port (run_beside q before).original call
  pub our : (step (run p before).port call).port.waiting ≡ ours
  pub their : (original.step (run_beside q before).original call).original.waiting ≡ theirs
