-- The 16550 serial port: its registers, the bytes that wait in its receiver, and what each access does.
use Rattle.std.specs.Prelude.{ℕ, ◌+◌, ◌-◌, min, Bool, true, false, cond, not, ◌||◌, length, take, ltb, eqb}
use mathlib.Core.List.{List, [], ◌∷◌, ◌++◌, tail}
use Rattle.std.specs.Int.Bits.{bit_and}
use Rattle.common.specs.Bits.{on}
use Rattle.common.specs.Lists.{some, first_or0}
use Rattle.interrupts.specs.Interrupts.{Kind, Ended, ier_stored, none_pending, is_active, is_high}
use Rattle.interrupts.specs.Interrupts.{identification, after_identification, after_data_read, data_came, byte_sent, enabling}
use Rattle.line_status.specs.LineStatus.{lsr_ready, lsr_after_read}
use Rattle.modem.specs.Modem.{is_loop, msr_read}

-- ---- Registers

-- The data sheet's names; RBR is read and THR written at one offset, and so are IIR and FCR.
pub data Register : Type 0 where
  RBR_THR IER IIR_FCR LCR MCR LSR MSR SCR DLL DLM reserved : Register

-- The register at an offset. While LCR 0x80 (DLAB) is set, offsets 0 and 1 are the divisor's low and high byte.
unfoldable pub addressed : Bool → ℕ → Register
addressed dlab offset =
    cond (eqb offset 0) (cond dlab DLL RBR_THR)
    (cond (eqb offset 1) (cond dlab DLM IER)
    (cond (eqb offset 2) IIR_FCR
    (cond (eqb offset 3) LCR
    (cond (eqb offset 4) MCR
    (cond (eqb offset 5) LSR
    (cond (eqb offset 6) MSR
    (cond (eqb offset 7) SCR
    reserved)))))))

-- ---- State

-- What the guest wrote last, in the registers that keep it. Word length, parity, break and the divisor have no effect on the bytes:
-- DIFFERENCES, "serial-word-length" and "serial-line-settings".
pub record Settings : Type 0 where
  pub ier : ℕ
  pub lcr : ℕ
  pub mcr : ℕ
  pub scr : ℕ
  pub dll : ℕ
  pub dlm : ℕ
  pub fcr : ℕ

-- waiting: the receiver's bytes, the first to be read first; size: how many may wait. The manual's FIFO has 16: DIFFERENCES,
-- "serial-line-overrun".
pub record Port : Type 0 where
  pub settings : Settings
  pub iir : ℕ
  pub lsr : ℕ
  pub msr : ℕ
  pub waiting : List ℕ
  pub size : ℕ

abbrev pub is_open : Port → Bool
is_open p = on p.settings.lcr 0x80

abbrev pub in_loop : Port → Bool
in_loop p = is_loop p.settings.mcr

-- The sizes with which a port is made: the powers of two from 16 to 1,024.
abbrev pub is_size : ℕ → Bool
is_size size =
    eqb size 16 || (eqb size 32 || (eqb size 64 || (eqb size 128 || (eqb size 256 || (eqb size 512 || eqb size 1024)))))

-- A fresh port. A master reset clears LCR and MCR and leaves the divisor: DIFFERENCES, "serial-reset-values".
abbrev pub fresh : ℕ → Port
fresh size = record {
  settings = record { ier = 0; lcr = 0x03; mcr = 0x08; scr = 0; dll = 0x0c; dlm = 0; fcr = 0 };
  iir = none_pending;
  lsr = 0x60;
  msr = 0xb0;
  waiting = [];
  size = size;
}

-- A kind of interrupt is active; the interrupt line is high.
abbrev pub active : Port → Kind → Bool
active p kind = is_active p.settings.ier p.iir (some p.waiting) kind

abbrev pub line : Port → Bool
line p = is_high p.settings.ier p.iir (some p.waiting)

-- The port with other settings; with another IIR, line status and waiting bytes.
abbrev pub with_settings : Port → Settings → Port
with_settings p s = record { settings = s; iir = p.iir; lsr = p.lsr; msr = p.msr; waiting = p.waiting; size = p.size }

abbrev pub with_receiver : Port → ℕ → ℕ → List ℕ → Port
with_receiver p iir lsr waiting = record { settings = p.settings; iir = iir; lsr = lsr; msr = p.msr; waiting = waiting; size = p.size }

-- ---- What an access does: the port after it, the reply to a read, the byte sent if any, what its host is told, how often the interrupt is
-- raised

-- RBR was read; a byte left with the reply; RBR was read and no byte waits. In the loop: the byte written waits; there was no room for it.
-- FCR emptied the receiver, and threw these bytes away.
pub record Events : Type 0 where
  pub data_read : Bool
  pub delivered : Bool
  pub none_left : Bool
  pub looped : Bool
  pub dropped : Bool
  pub flushed : Bool
  pub discarded : List ℕ

abbrev pub no_events : Events
no_events = record { data_read = false; delivered = false; none_left = false; looped = false; dropped = false; flushed = false; discarded = [] }

pub record Out : Type 0 where
  pub port : Port
  pub reply : ℕ
  pub sent : List ℕ
  pub events : Events
  pub raises : ℕ

abbrev pub replies : Port → ℕ → Out
replies p value = record { port = p; reply = value; sent = []; events = no_events; raises = 0 }

abbrev pub becomes : Port → Out
becomes p = replies p 0

-- ---- RBR and THR

-- RBR is read: whether bytes waited before it, and wait after it.
abbrev pub read_events : Bool → Bool → Events
read_events waited waits = record { data_read = true; delivered = waited; none_left = not waits; looped = false; dropped = false; flushed = false; discarded = [] }

-- RBR: the first byte that waits leaves; 0 where none waits: DIFFERENCES, "serial-empty-receiver".
abbrev pub read_rbr : Port → Out
read_rbr p =
    let left = tail p.waiting in
    let iir = after_data_read p.settings.ier p.iir (some left) in
    record {
      port = with_receiver p iir (lsr_after_read (some left) p.lsr) left;
      reply = first_or0 p.waiting;
      sent = [];
      events = read_events (some p.waiting) (some left);
      raises = 0;
    }

-- Bytes come to the receiver: they wait behind the others, data is ready, received data is pending.
unfoldable pub receives : Port → List ℕ → Out
receives p bytes =
    let a = data_came p.settings.ier p.iir (some p.waiting) in
    let after = with_receiver p a.iir (lsr_ready p.lsr) (p.waiting ++ bytes) in
    record { port = after; reply = 0; sent = []; events = no_events; raises = a.raises }

abbrev pub has_room : Port → Bool
has_room p = ltb (length p.waiting) p.size

-- THR is written: the byte has left at once, and the transmitter is empty, whether or not the host delivers the byte.
abbrev pub transmits : Port → Ended
transmits p = byte_sent p.settings.ier p.iir (some p.waiting)

abbrev pub emptied : Port → Port
emptied p = with_receiver p (transmits p).iir p.lsr p.waiting

-- On the line the byte is sent.
unfoldable pub write_line : Port → ℕ → Out
write_line p value = record { port = emptied p; reply = 0; sent = value ∷ []; events = no_events; raises = (transmits p).raises }

-- A byte is written in the loop: whether there is room for it.
abbrev pub loop_events : Bool → Events
loop_events fits = record { data_read = false; delivered = false; none_left = false; looped = fits; dropped = not fits; flushed = false; discarded = [] }

-- In the loop it comes to the receiver. Where that is full the byte is dropped, and the guest is told nothing: DIFFERENCES,
-- "serial-loop-overrun".
unfoldable pub write_loop : Port → ℕ → Out
write_loop p value =
    let o = cond (has_room p) (receives (emptied p) (value ∷ [])) (becomes (emptied p)) in
    record { port = o.port; reply = 0; sent = []; events = loop_events (has_room p); raises = (transmits p).raises + o.raises }

abbrev pub write_thr : Port → ℕ → Out
write_thr p value = cond (in_loop p) (write_loop p value) (write_line p value)

-- ---- The registers that keep what is written

-- The settings with one register written.
abbrev pub put_ier : Settings → ℕ → Settings
put_ier s v = record { ier = v; lcr = s.lcr; mcr = s.mcr; scr = s.scr; dll = s.dll; dlm = s.dlm; fcr = s.fcr }

abbrev pub put_lcr : Settings → ℕ → Settings
put_lcr s v = record { ier = s.ier; lcr = v; mcr = s.mcr; scr = s.scr; dll = s.dll; dlm = s.dlm; fcr = s.fcr }

abbrev pub put_mcr : Settings → ℕ → Settings
put_mcr s v = record { ier = s.ier; lcr = s.lcr; mcr = v; scr = s.scr; dll = s.dll; dlm = s.dlm; fcr = s.fcr }

abbrev pub put_scr : Settings → ℕ → Settings
put_scr s v = record { ier = s.ier; lcr = s.lcr; mcr = s.mcr; scr = v; dll = s.dll; dlm = s.dlm; fcr = s.fcr }

abbrev pub put_dll : Settings → ℕ → Settings
put_dll s v = record { ier = s.ier; lcr = s.lcr; mcr = s.mcr; scr = s.scr; dll = v; dlm = s.dlm; fcr = s.fcr }

abbrev pub put_dlm : Settings → ℕ → Settings
put_dlm s v = record { ier = s.ier; lcr = s.lcr; mcr = s.mcr; scr = s.scr; dll = s.dll; dlm = v; fcr = s.fcr }

abbrev pub put_fcr : Settings → ℕ → Settings
put_fcr s v = record { ier = s.ier; lcr = s.lcr; mcr = s.mcr; scr = s.scr; dll = s.dll; dlm = s.dlm; fcr = v }

abbrev pub stores : Port → Settings → Out
stores p s = becomes (with_settings p s)

-- ---- IER

-- IER: the value is stored, and what it enables is active from now on.
unfoldable pub write_ier : Port → ℕ → Out
write_ier p value =
    let s = put_ier p.settings (ier_stored value) in
    let a = enabling p.settings.ier s.ier p.iir (some p.waiting) in
    let after = with_receiver (with_settings p s) a.iir p.lsr p.waiting in
    record { port = after; reply = 0; sent = []; events = no_events; raises = a.raises }

-- ---- IIR

-- What is active.
abbrev pub read_iir : Port → Out
read_iir p =
    let ier = p.settings.ier in
    let waits = some p.waiting in
    replies (with_receiver p (after_identification ier p.iir waits) p.lsr p.waiting) (identification ier p.iir waits)

-- ---- FCR

-- 0x01, 0x08 and 0xc0 are remembered, and have no effect: DIFFERENCES, "serial-fifo-off" and "serial-trigger-level". The others are not
-- kept by the chip either: 0x02 and 0x04 clear themselves, 0x30 is reserved.
abbrev pub fcr_stored : ℕ → ℕ
fcr_stored value = bit_and value 0xc9

-- FCR empties the receiver, in which these bytes waited.
abbrev pub flush_events : List ℕ → Events
flush_events bytes = record { data_read = false; delivered = false; none_left = false; looped = false; dropped = false; flushed = true; discarded = bytes }

-- The bytes that wait are thrown away: no data is ready, received data is not pending.
abbrev pub flushes : Port → Out
flushes p =
    let iir = after_data_read p.settings.ier p.iir false in
    record {
      port = with_receiver p iir (lsr_after_read false p.lsr) [];
      reply = 0;
      sent = [];
      events = flush_events p.waiting;
      raises = 0;
    }

-- 0x02 empties the receiver, whether or not 0x01 is set with it: DIFFERENCES, "serial-fifo-empty".
unfoldable pub write_fcr : Port → ℕ → Out
write_fcr p value =
    let kept = with_settings p (put_fcr p.settings (fcr_stored value)) in
    cond (on value 0x02) (flushes kept) (becomes kept)

-- ---- Each register: what a read of it does, and a write

pub record Rule : Type 0 where
  pub read : Out
  pub write : ℕ → Out

-- LSR, MSR and the reserved offsets are not written: DIFFERENCES, "serial-read-only" and "serial-beyond".
abbrev pub rule : Port → Register → Rule
rule p RBR_THR = record { read = read_rbr p; write = write_thr p }
rule p IER = record { read = replies p p.settings.ier; write = write_ier p }
rule p IIR_FCR = record { read = read_iir p; write = write_fcr p }
rule p LCR = record { read = replies p p.settings.lcr; write = λ v. stores p (put_lcr p.settings v) }
rule p MCR = record { read = replies p p.settings.mcr; write = λ v. stores p (put_mcr p.settings v) }
rule p LSR = record { read = replies p p.lsr; write = λ v. becomes p }
rule p MSR = record { read = replies p (msr_read p.settings.mcr p.msr); write = λ v. becomes p }
rule p SCR = record { read = replies p p.settings.scr; write = λ v. stores p (put_scr p.settings v) }
rule p DLL = record { read = replies p p.settings.dll; write = λ v. stores p (put_dll p.settings v) }
rule p DLM = record { read = replies p p.settings.dlm; write = λ v. stores p (put_dlm p.settings v) }
rule p reserved = record { read = replies p 0; write = λ v. becomes p }

unfoldable pub read_register : Port → Register → Out
read_register p register = (rule p register).read

unfoldable pub write_register : Port → Register → ℕ → Out
write_register p register value = (rule p register).write value

-- An access is one of the register at its offset.
abbrev pub read_of : Port → ℕ → Out
read_of p offset = read_register p (addressed (is_open p) offset)

abbrev pub write_of : Port → ℕ → ℕ → Out
write_of p offset value = write_register p (addressed (is_open p) offset) value

-- ---- Input from the host's side of the line: no bytes, some of them, or the answer "full"

pub record Input : Type 0 where
  pub port : Port
  pub taken : ℕ
  pub full : Bool
  pub raises : ℕ

abbrev pub room_of : Port → ℕ
room_of p = p.size - length p.waiting

abbrev pub takes_none : Port → Bool → Input
takes_none p full = record { port = p; taken = 0; full = full; raises = 0 }

-- As many bytes are taken as there is room for. What is not taken is the host's to offer again: DIFFERENCES, "serial-line-overrun".
abbrev pub takes_some : Port → List ℕ → Input
takes_some p bytes =
    let taken = min (room_of p) (length bytes) in
    let o = receives p (take taken bytes) in
    record { port = o.port; taken = taken; full = false; raises = o.raises }

-- In the loop the line is cut off and nothing is taken.
unfoldable pub input_of : Port → List ℕ → Input
input_of p bytes =
    cond (in_loop p) (takes_none p false)
    (cond (eqb (length bytes) 0) (takes_none p false)
    (cond (has_room p) (takes_some p bytes)
    (takes_none p true)))
