-- The serial port of vm-superio 0.8.2, frozen: our port was once the same, and where ours changes this stays. They share the names of the
-- registers, the record of events, and the rooms of the line status and of the modem. What it keeps of what the guest wrote, the interrupts
-- and which events it tells are the original's own.
use Rattle.std.specs.Prelude.{ℕ, ◌+◌, ◌-◌, min, Bool, true, false, cond, not, ◌&&◌, length, take, ltb, eqb}
use mathlib.Core.List.{List, [], ◌∷◌, ◌++◌, tail}
use Rattle.std.specs.Int.Bits.{bit_and, bit_or}
use Rattle.common.specs.Bits.{on}
use Rattle.common.specs.Lists.{some, first_or0}
use Rattle.line_status.specs.LineStatus.{lsr_ready, lsr_after_read}
use Rattle.modem.specs.Modem.{is_loop, msr_read}
use Rattle.serial.specs.Port.{Register, RBR_THR, IER, IIR_FCR, LCR, MCR, LSR, MSR, SCR, DLL, DLM, reserved, addressed, Events, no_events}
use Rattle.runs.specs.Run.{Op, read, write, input, room, Answer, replied, sent, took, full, has_room}

-- ---- State

-- What the guest wrote last, in the registers that keep it. FCR is none of them.
pub record Settings : Type 0 where
  pub ier : ℕ
  pub lcr : ℕ
  pub mcr : ℕ
  pub scr : ℕ
  pub dll : ℕ
  pub dlm : ℕ

pub record Original : Type 0 where
  pub settings : Settings
  pub iir : ℕ
  pub lsr : ℕ
  pub msr : ℕ
  pub waiting : List ℕ
  -- 64 in vm-superio. Here it is any, so that there is an original beside a port of every size.
  pub size : ℕ

abbrev pub fresh : ℕ → Original
fresh size = record {
  settings = record { ier = 0; lcr = 0x03; mcr = 0x08; scr = 0; dll = 0x0c; dlm = 0 };
  iir = 0x01;
  lsr = 0x60;
  msr = 0xb0;
  waiting = [];
  size = size;
}

abbrev pub is_open : Original → Bool
is_open q = on q.settings.lcr 0x80

abbrev pub in_loop : Original → Bool
in_loop q = is_loop q.settings.mcr

abbrev pub is_room : Original → Bool
is_room q = ltb (length q.waiting) q.size

abbrev pub room_of : Original → ℕ
room_of q = q.size - length q.waiting

-- ---- Marks: IIR as it is stored has a bit for each kind that was announced and not taken back, or 0x01 where there is none

pub record Kind : Type 0 where
  pub enabled_by : ℕ
  pub marked_by : ℕ

abbrev pub received_data : Kind
received_data = record { enabled_by = 0x01; marked_by = 0x04 }

abbrev pub transmitter_empty : Kind
transmitter_empty = record { enabled_by = 0x02; marked_by = 0x02 }

abbrev pub is_enabled : ℕ → Kind → Bool
is_enabled ier kind = on ier kind.enabled_by

abbrev pub is_marked : ℕ → Kind → Bool
is_marked iir kind = on iir kind.marked_by

-- To mark a kind: "none pending" goes, the kind's bit comes. To unmark it: its bit goes, and where no bit is left "none pending" comes.
unfoldable pub mark : ℕ → Kind → ℕ
mark iir kind = bit_or (bit_and iir 0xfe) kind.marked_by

unfoldable pub unmark : ℕ → Kind → ℕ
unmark iir kind = let left = bit_and iir (0xff - kind.marked_by) in cond (eqb left 0) 0x01 left

-- A kind is due if it is enabled and not marked yet. To announce it: where it is due it is marked, and the interrupt is raised once.
abbrev pub is_due : ℕ → ℕ → Kind → Bool
is_due ier iir kind = is_enabled ier kind && not (is_marked iir kind)

pub record Announced : Type 0 where
  pub iir : ℕ
  pub raises : ℕ

unfoldable pub announce : ℕ → ℕ → Kind → Announced
announce ier iir kind = cond (is_due ier iir kind) (record { iir = mark iir kind; raises = 1 }) (record { iir = iir; raises = 0 })

-- ---- What an access does

pub record Out : Type 0 where
  pub original : Original
  pub reply : ℕ
  pub sent : List ℕ
  pub events : Events
  pub raises : ℕ

abbrev pub with_settings : Original → Settings → Original
with_settings q s = record { settings = s; iir = q.iir; lsr = q.lsr; msr = q.msr; waiting = q.waiting; size = q.size }

abbrev pub with_receiver : Original → ℕ → ℕ → List ℕ → Original
with_receiver q iir lsr waiting = record { settings = q.settings; iir = iir; lsr = lsr; msr = q.msr; waiting = waiting; size = q.size }

abbrev pub replies : Original → ℕ → Out
replies q value = record { original = q; reply = value; sent = []; events = no_events; raises = 0 }

abbrev pub becomes : Original → Out
becomes q = replies q 0

abbrev pub stores : Original → Settings → Out
stores q s = becomes (with_settings q s)

-- The settings with one register written.
abbrev pub put_ier : Settings → ℕ → Settings
put_ier s v = record { ier = v; lcr = s.lcr; mcr = s.mcr; scr = s.scr; dll = s.dll; dlm = s.dlm }

abbrev pub put_lcr : Settings → ℕ → Settings
put_lcr s v = record { ier = s.ier; lcr = v; mcr = s.mcr; scr = s.scr; dll = s.dll; dlm = s.dlm }

abbrev pub put_mcr : Settings → ℕ → Settings
put_mcr s v = record { ier = s.ier; lcr = s.lcr; mcr = v; scr = s.scr; dll = s.dll; dlm = s.dlm }

abbrev pub put_scr : Settings → ℕ → Settings
put_scr s v = record { ier = s.ier; lcr = s.lcr; mcr = s.mcr; scr = v; dll = s.dll; dlm = s.dlm }

abbrev pub put_dll : Settings → ℕ → Settings
put_dll s v = record { ier = s.ier; lcr = s.lcr; mcr = s.mcr; scr = s.scr; dll = v; dlm = s.dlm }

abbrev pub put_dlm : Settings → ℕ → Settings
put_dlm s v = record { ier = s.ier; lcr = s.lcr; mcr = s.mcr; scr = s.scr; dll = s.dll; dlm = v }

-- The callbacks of a read: RBR was read (`buffer_read`), and leaves no byte (`in_buffer_empty`). Those of a write, `out_byte` and
-- `tx_lost_byte`, follow from the byte sent and what the sink made of it, and are not here. Of the loop nobody hears.
abbrev pub called_back : Bool → Events
called_back waits = record {
  data_read = true;
  delivered = false;
  none_left = not waits;
  looped = false;
  dropped = false;
  flushed = false;
  discarded = [];
}

-- RBR: the first byte leaves, and received data is unmarked even if more wait.
unfoldable pub read_rbr : Original → Out
read_rbr q =
    let left = tail q.waiting in
    record {
      original = with_receiver q (unmark q.iir received_data) (lsr_after_read (some left) q.lsr) left;
      reply = first_or0 q.waiting;
      sent = [];
      events = called_back (some left);
      raises = 0;
    }

-- Bytes come to the receiver: received data is announced.
unfoldable pub receives : Original → List ℕ → Out
receives q bytes =
    let a = announce q.settings.ier q.iir received_data in
    let after = with_receiver q a.iir (lsr_ready q.lsr) (q.waiting ++ bytes) in
    record { original = after; reply = 0; sent = []; events = no_events; raises = a.raises }

-- THR: in the loop the byte comes to the receiver, if there is room, and nothing is said of the transmitter. On the line the byte is sent,
-- and the empty transmitter is announced.
abbrev pub write_loop : Original → ℕ → Out
write_loop q value = cond (is_room q) (receives q (value ∷ [])) (becomes q)

unfoldable pub write_line : Original → ℕ → Out
write_line q value =
    let a = announce q.settings.ier q.iir transmitter_empty in
    record { original = with_receiver q a.iir q.lsr q.waiting; reply = 0; sent = value ∷ []; events = no_events; raises = a.raises }

abbrev pub write_thr : Original → ℕ → Out
write_thr q value = cond (in_loop q) (write_loop q value) (write_line q value)

-- IER: four bits are kept. Received data is announced if bytes wait, then the empty transmitter, which it always is.
unfoldable pub ier_stored : ℕ → ℕ
ier_stored value = bit_and value 0x0f

abbrev pub enabling : ℕ → ℕ → Bool → Announced
enabling ier iir waits =
    let a = cond waits (announce ier iir received_data) (record { iir = iir; raises = 0 }) in
    let b = announce ier a.iir transmitter_empty in
    record { iir = b.iir; raises = a.raises + b.raises }

unfoldable pub write_ier : Original → ℕ → Out
write_ier q value =
    let s = put_ier q.settings (ier_stored value) in
    let a = enabling s.ier q.iir (some q.waiting) in
    let after = with_receiver (with_settings q s) a.iir q.lsr q.waiting in
    record { original = after; reply = 0; sent = []; events = no_events; raises = a.raises }

-- IIR: the marks, and the two bits that say the FIFOs are on. Nothing is marked afterwards.
unfoldable pub iir_read : ℕ → ℕ
iir_read iir = bit_or iir 0xc0

abbrev pub read_iir : Original → Out
read_iir q = replies (with_receiver q 0x01 q.lsr q.waiting) (iir_read q.iir)

-- ---- Each register: what a read of it does, and a write

pub record Rule : Type 0 where
  pub read : Out
  pub write : ℕ → Out

-- A write of FCR does nothing.
abbrev pub rule : Original → Register → Rule
rule q RBR_THR = record { read = read_rbr q; write = write_thr q }
rule q IER = record { read = replies q q.settings.ier; write = write_ier q }
rule q IIR_FCR = record { read = read_iir q; write = λ v. becomes q }
rule q LCR = record { read = replies q q.settings.lcr; write = λ v. stores q (put_lcr q.settings v) }
rule q MCR = record { read = replies q q.settings.mcr; write = λ v. stores q (put_mcr q.settings v) }
rule q LSR = record { read = replies q q.lsr; write = λ v. becomes q }
rule q MSR = record { read = replies q (msr_read q.settings.mcr q.msr); write = λ v. becomes q }
rule q SCR = record { read = replies q q.settings.scr; write = λ v. stores q (put_scr q.settings v) }
rule q DLL = record { read = replies q q.settings.dll; write = λ v. stores q (put_dll q.settings v) }
rule q DLM = record { read = replies q q.settings.dlm; write = λ v. stores q (put_dlm q.settings v) }
rule q reserved = record { read = replies q 0; write = λ v. becomes q }

unfoldable pub read_register : Original → Register → Out
read_register q register = (rule q register).read

unfoldable pub write_register : Original → Register → ℕ → Out
write_register q register value = (rule q register).write value

-- ---- Runs, of the same operations with the same answers as ours

pub record Did : Type 0 where
  pub original : Original
  pub answer : Answer

abbrev pub did_read : Out → Did
did_read o = record { original = o.original; answer = replied o.reply o.events o.raises }

abbrev pub did_write : Out → Did
did_write o = record { original = o.original; answer = sent o.sent o.events o.raises }

-- Bytes from the line: none in the loop; else as many as there is room for, or the answer "full".
abbrev pub takes : Original → List ℕ → Did
takes q bytes =
    let taken = min (room_of q) (length bytes) in
    let o = receives q (take taken bytes) in
    record { original = o.original; answer = took taken o.raises }

unfoldable pub input_of : Original → List ℕ → Did
input_of q bytes =
    cond (in_loop q) (record { original = q; answer = took 0 0 })
    (cond (eqb (length bytes) 0) (record { original = q; answer = took 0 0 })
    (cond (is_room q) (takes q bytes)
    (record { original = q; answer = full 0 })))

unfoldable pub step : Original → Op → Did
step q (read offset) = did_read (read_register q (addressed (is_open q) offset))
step q (write offset value) = did_write (write_register q (addressed (is_open q) offset) value)
step q (input bytes) = input_of q bytes
step q room = record { original = q; answer = has_room (room_of q) }

pub record Ran : Type 0 where
  pub original : Original
  pub answers : List Answer

unfoldable pub run : Original → List Op → Ran
run q [] = record { original = q; answers = [] }
run q (o ∷ os) =
    let d = step q o in
    let r = run d.original os in
    record { original = r.original; answers = d.answer ∷ r.answers }

-- A saved port is restored: each kind that is enabled and marked is raised once.
abbrev pub is_told : Original → Kind → Bool
is_told q kind = is_enabled q.settings.ier kind && is_marked q.iir kind

abbrev pub raised_again : Original → ℕ
raised_again q = cond (is_told q transmitter_empty) 1 0 + cond (is_told q received_data) 1 0
