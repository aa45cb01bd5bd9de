-- The PC16550D by its data sheet: its registers, its interrupt pin, what each access does. Nothing here is taken from the device. The data
-- sheet was not at hand: its facts were collected from memory and held against drivers and QEMU's 16550 (docs/MANUALS.md).
--
-- Left out:
-- * Time. What is written to THR has left when the write ends, so LSR 0x20 and 0x40 are 1 and the transmit FIFO is empty (FCR 0x04 has
--   nothing to do). Between two operations four character times pass, after which the receiver's time-out has come.
-- * The form of a character: word length, stop bits, parity, break (LCR 0x7f), their errors (LSR 0x04, 0x08, 0x10, 0x80), the speed.
-- * All pins but the interrupt's: docs/DIFFERENCES.md, "serial-other-pins". The modem's four input pins stand still; its outputs and DMA
--   (FCR 0x08) reach nobody; OUT2 gates nothing.
use Rattle.std.specs.Prelude.{ℕ, ◌+◌, ◌*◌, ◌/◌, ◌%◌, Bool, true, false, cond, not, ◌&&◌, ◌||◌, length, get_or, ltb, eqb}
use mathlib.Core.List.{List, [], ◌∷◌, ◌++◌, tail}
use Rattle.std.specs.Int.Bits.{bit_and, bit_or, bit_xor}
use Rattle.common.specs.Bits.{on, bit}
use Rattle.common.specs.Lists.{some, first_or0}
use Rattle.sidebyside.specs.Answers.{Said, says, silent, none}

-- ---- Registers

-- RBR is read and THR written at one address, and so are IIR and FCR. The chip has three address lines: there is nothing reserved SCR.
pub data Register : Type 0 where
  RBR_THR IER IIR_FCR LCR MCR LSR MSR SCR DLL DLM outside : Register

-- While DLAB (LCR 0x80) is 1 the divisor's two bytes stand in the place of RBR/THR and IER, and of no other register.
unfoldable pub register_at : Bool → ℕ → Register
register_at dlab address =
    get_or (cond dlab DLL RBR_THR ∷ cond dlab DLM IER ∷ IIR_FCR ∷ LCR ∷ MCR ∷ LSR ∷ MSR ∷ SCR ∷ []) address outside

-- ---- State

-- LCR and the divisor.
pub record Line : Type 0 where
  pub lcr : ℕ
  pub dll : ℕ
  pub dlm : ℕ

-- IER; is the interrupt of the empty transmitter pending: never while IER 0x02 is 0, since setting that bit signals in any case.
pub record Interrupts : Type 0 where
  pub ier : ℕ
  pub thre : Bool

-- What FCR set: are the FIFOs on, and the trigger level. The bytes that wait, the first to be read first. Was one lost since LSR was read.
pub record Receiver : Type 0 where
  pub fifos : Bool
  pub trigger : ℕ
  pub waiting : List ℕ
  pub overrun : Bool

-- MCR. The input pins: CTS 0x01, DSR 0x02, RI 0x04, DCD 0x08. In the same order, what changed at the modem's inputs since MSR was read.
pub record Modem : Type 0 where
  pub mcr : ℕ
  pub pins : ℕ
  pub changes : ℕ

pub record Chip : Type 0 where
  pub line : Line
  pub interrupts : Interrupts
  pub receiver : Receiver
  pub modem : Modem
  pub scr : ℕ

abbrev pub with_line : Chip → Line → Chip
with_line c l = record { line = l; interrupts = c.interrupts; receiver = c.receiver; modem = c.modem; scr = c.scr }

abbrev pub with_interrupts : Chip → Interrupts → Chip
with_interrupts c i = record { line = c.line; interrupts = i; receiver = c.receiver; modem = c.modem; scr = c.scr }

abbrev pub with_receiver : Chip → Receiver → Chip
with_receiver c r = record { line = c.line; interrupts = c.interrupts; receiver = r; modem = c.modem; scr = c.scr }

abbrev pub with_modem : Chip → Modem → Chip
with_modem c m = record { line = c.line; interrupts = c.interrupts; receiver = c.receiver; modem = m; scr = c.scr }

abbrev pub with_scr : Chip → ℕ → Chip
with_scr c v = record { line = c.line; interrupts = c.interrupts; receiver = c.receiver; modem = c.modem; scr = v }

-- Master reset. The divisor and SCR are not affected; MSR's high half is the pins.
unfoldable pub master_reset : Chip → Chip
master_reset c = record {
  line = record { lcr = 0; dll = c.line.dll; dlm = c.line.dlm };
  interrupts = record { ier = 0; thre = false };
  receiver = record { fifos = false; trigger = 1; waiting = []; overrun = false };
  modem = record { mcr = 0; pins = c.modem.pins; changes = 0 };
  scr = c.scr;
}

-- ---- Interrupts: the four kinds, each while it is pending and its bit in IER is 1

abbrev pub enabled : Chip → ℕ → Bool
enabled c mask = on c.interrupts.ier mask

abbrev pub line_status : Chip → Bool
line_status c = c.receiver.overrun && enabled c 0x04

-- Pending as long as a byte waits: at the trigger level as data available, below it as the time-out.
abbrev pub received_data : Chip → Bool
received_data c = some c.receiver.waiting && enabled c 0x01

abbrev pub transmitter_empty : Chip → Bool
transmitter_empty c = c.interrupts.thre && enabled c 0x02

abbrev pub modem_status : Chip → Bool
modem_status c = not (eqb c.modem.changes 0) && enabled c 0x08

-- The interrupt pin is a level: high as long as there is one.
unfoldable pub pin : Chip → Bool
pin c = line_status c || received_data c || transmitter_empty c || modem_status c

-- Received data is identified as the time-out where fewer bytes wait than the trigger level.
abbrev pub data_code : Receiver → ℕ
data_code r = cond (r.fifos && ltb (length r.waiting) r.trigger) 0x0c 0x04

-- IIR shows one of them, that of the highest priority.
unfoldable pub code : Chip → ℕ
code c =
    cond (line_status c) 0x06
    (cond (received_data c) (data_code c.receiver)
    (cond (transmitter_empty c) 0x02
    (cond (modem_status c) 0x00
    0x01)))

-- Its two high bits are 1 while the FIFOs are on.
abbrev pub iir : Chip → ℕ
iir c = code c + cond c.receiver.fifos 0xc0 0

-- Reading IIR resets the transmitter's interrupt if that is what was answered.
unfoldable pub after_iir : Chip → Interrupts
after_iir c = record { ier = c.interrupts.ier; thre = c.interrupts.thre && not (eqb (code c) 0x02) }

-- IER's high four bits are always 0. To set 0x02 while the transmitter is empty, which it always is, signals at once.
unfoldable pub write_ier : Interrupts → ℕ → Interrupts
write_ier i v = let ier = bit_and v 0x0f in record { ier = ier; thre = on ier 0x02 && (not (on i.ier 0x02) || i.thre) }

-- A byte written to THR resets the transmitter's interrupt. Once it has left, the empty transmitter signals again.
unfoldable pub loads : Interrupts → Interrupts
loads i = record { ier = i.ier; thre = false }

unfoldable pub transmits : Interrupts → Interrupts
transmits i = record { ier = i.ier; thre = on i.ier 0x02 }

-- ---- The receiver

abbrev pub holding : Receiver → List ℕ → Bool → Receiver
holding r waiting overrun = record { fifos = r.fifos; trigger = r.trigger; waiting = waiting; overrun = overrun }

-- RBR: the first byte leaves. LSR: the overrun is cleared.
abbrev pub after_rbr : Receiver → Receiver
after_rbr r = holding r (tail r.waiting) r.overrun

abbrev pub lsr : Receiver → ℕ
lsr r = 0x60 + cond r.overrun 0x02 0 + cond (some r.waiting) 0x01 0

abbrev pub after_lsr : Receiver → Receiver
after_lsr r = holding r r.waiting false

-- The FIFO holds 16 bytes; without it there is one. A byte that comes when it is full is an overrun: the FIFO keeps what it has and the
-- byte is lost; without it the byte takes the place of the one that waits.
abbrev pub depth : Receiver → ℕ
depth r = cond r.fifos 16 1

unfoldable pub arrives : Receiver → ℕ → Receiver
arrives r byte =
    cond (ltb (length r.waiting) (depth r))
    (holding r (r.waiting ++ (byte ∷ [])) r.overrun)
    (holding r (cond r.fifos r.waiting (byte ∷ [])) true)

unfoldable pub arrive_all : Receiver → List ℕ → Receiver
arrive_all r [] = r
arrive_all r (byte ∷ bytes) = arrive_all (arrives r byte) bytes

-- FCR 0xc0: the trigger level.
unfoldable pub trigger_level : ℕ → ℕ
trigger_level v = get_or (1 ∷ 4 ∷ 8 ∷ 14 ∷ []) (v / 0x40 % 4) 1

-- FCR: 0x01 turns the FIFOs on, and where it is 0 no other bit counts; 0x02 empties the receiver's, and so does turning them on or off. Two
-- readings, docs/DECISIONS.md: the overrun stays until LSR is read; no write here signals the empty transmitter anew (in QEMU some do).
unfoldable pub write_fcr : Receiver → ℕ → Receiver
write_fcr r v =
    cond (on v 0x01)
    (record { fifos = true; trigger = trigger_level v; waiting = cond (on v 0x02 || not r.fifos) [] r.waiting; overrun = r.overrun })
    (record { fifos = false; trigger = r.trigger; waiting = cond r.fifos [] r.waiting; overrun = r.overrun })

-- ---- The modem and the loop

-- MCR 0x10. What is written to THR arrives in the receiver, and the line's input is disconnected.
abbrev pub in_loop : Chip → Bool
in_loop c = on c.modem.mcr 0x10

-- The modem's inputs are its pins; in the loop CTS follows RTS, DSR follows DTR, RI follows OUT1, DCD follows OUT2.
abbrev pub wired : ℕ → ℕ
wired mcr = bit mcr 1 * 0x01 + bit mcr 0 * 0x02 + bit mcr 2 * 0x04 + bit mcr 3 * 0x08

unfoldable pub inputs : ℕ → ℕ → ℕ
inputs mcr pins = cond (on mcr 0x10) (wired mcr) pins

-- From one state of the inputs to another: CTS, DSR, DCD changed; RI ended.
unfoldable pub changed : ℕ → ℕ → ℕ
changed before after = bit_and (bit_xor before after) 0x0b + cond (on before 0x04 && not (on after 0x04)) 0x04 0

-- MSR: the inputs above the changes, which reading it clears.
abbrev pub msr : Modem → ℕ
msr m = inputs m.mcr m.pins * 0x10 + m.changes

abbrev pub after_msr : Modem → Modem
after_msr m = record { mcr = m.mcr; pins = m.pins; changes = 0 }

-- MCR has five bits, the high three are always 0. By way of the loop the modem's inputs may change.
unfoldable pub write_mcr : Modem → ℕ → Modem
write_mcr m v =
    let mcr = v % 0x20 in
    let change = changed (inputs m.mcr m.pins) (inputs mcr m.pins) in
    record { mcr = mcr; pins = m.pins; changes = bit_or m.changes change }

-- ---- What an access does: the chip after it, and at the moments in between; what the manual says of the answer; the bytes sent

pub record Out : Type 0 where
  pub between : List Chip
  pub chip : Chip
  pub reply : Said
  pub sent : List ℕ

-- All at once: there is no moment in between.
abbrev pub replies : Chip → Said → Out
replies c said = record { between = []; chip = c; reply = said; sent = [] }

abbrev pub becomes : Chip → Out
becomes c = replies c none

-- Silent: RBR where no byte waits.
unfoldable pub read_register : Chip → Register → Out
read_register c RBR_THR =
    replies (with_receiver c (after_rbr c.receiver)) (cond (some c.receiver.waiting) (says (first_or0 c.receiver.waiting)) silent)
read_register c IER = replies c (says c.interrupts.ier)
read_register c IIR_FCR = replies (with_interrupts c (after_iir c)) (says (iir c))
read_register c LCR = replies c (says c.line.lcr)
read_register c MCR = replies c (says c.modem.mcr)
read_register c LSR = replies (with_receiver c (after_lsr c.receiver)) (says (lsr c.receiver))
read_register c MSR = replies (with_modem c (after_msr c.modem)) (says (msr c.modem))
read_register c SCR = replies c (says c.scr)
read_register c DLL = replies c (says c.line.dll)
read_register c DLM = replies c (says c.line.dlm)
read_register c outside = replies c silent

-- THR holds the byte for a moment. Then it has left, over the line or, in the loop, to the receiver.
abbrev pub held : Chip → Chip
held c = with_interrupts c (loads c.interrupts)

abbrev pub left : Chip → Chip
left c = with_interrupts c (transmits c.interrupts)

unfoldable pub write_thr : Chip → ℕ → Out
write_thr c v = record {
  between = held c ∷ [];
  chip = cond (in_loop c) (with_receiver (left (held c)) (arrives c.receiver v)) (left (held c));
  reply = none;
  sent = cond (in_loop c) [] (v ∷ []);
}

-- LSR and MSR are for reading alone.
unfoldable pub write_register : Chip → Register → ℕ → Out
write_register c RBR_THR v = write_thr c v
write_register c IER v = becomes (with_interrupts c (write_ier c.interrupts v))
write_register c IIR_FCR v = becomes (with_receiver c (write_fcr c.receiver v))
write_register c LCR v = becomes (with_line c (record { lcr = v; dll = c.line.dll; dlm = c.line.dlm }))
write_register c MCR v = becomes (with_modem c (write_mcr c.modem v))
write_register c LSR v = becomes c
write_register c MSR v = becomes c
write_register c SCR v = becomes (with_scr c v)
write_register c DLL v = becomes (with_line c (record { lcr = c.line.lcr; dll = v; dlm = c.line.dlm }))
write_register c DLM v = becomes (with_line c (record { lcr = c.line.lcr; dll = c.line.dll; dlm = v }))
write_register c outside v = becomes c

-- Bytes come over the line. It cannot be asked to wait: all of them arrive; in the loop none.
unfoldable pub from_line : Chip → List ℕ → Out
from_line c bytes =
    cond (in_loop c)
    (replies c (says 0))
    (replies (with_receiver c (arrive_all c.receiver bytes)) (says (length bytes)))

-- ---- One operation: the guest reads or writes at an address, or bytes come over the line

pub data Op : Type 0 where
  read : ℕ → Op
  write : ℕ → ℕ → Op
  input : List ℕ → Op

abbrev pub dlab : Chip → Bool
dlab c = on c.line.lcr 0x80

unfoldable pub chip_does : Chip → Op → Out
chip_does c (read address) = read_register c (register_at (dlab c) address)
chip_does c (write address v) = write_register c (register_at (dlab c) address) v
chip_does c (input bytes) = from_line c bytes

-- The pin rises during it: it is low at one moment and high at the next, from before the operation to after it.
unfoldable pub rising : Chip → List Chip → Chip → Bool
rising c [] c' = not (pin c) && pin c'
rising c (m ∷ ms) c' = not (pin c) && pin m || rising m ms c'

abbrev pub rises : Chip → Out → Bool
rises c o = rising c o.between o.chip
