-- The device beside the chip: what a port of the device is on the chip, when a call agrees, the rows of docs/DIFFERENCES.md where not.
use Rattle.std.specs.Prelude.{ℕ, ◌+◌, ◌/◌, ◌%◌, ◌≤◌, ◌<◌, ◌≡◌, List, [], Bool, true, false, cond, not, ◌&&◌, length}
use Rattle.common.specs.Bits.{on}
use Rattle.common.specs.Lists.{some}
use Rattle.sidebyside.specs.Answers.{Answer, answers, refuses, Fits}
use Rattle.sidebyside.specs.Runs.{Pair}
use Rattle.interrupts.specs.Interrupts.{Kind, received_data, transmitter_empty, is_enabled, ier_stored}
use Rattle.serial.specs.Port.{Port, Register, RBR_THR, IER, IIR_FCR, MCR, addressed, is_open, in_loop, active, line, read_of, write_of, input_of}
use Rattle.serial.specs.Port as device
use Rattle.pc16550d.specs.Chip.{Chip, pin, Op, read, write, input, chip_does, rises}
use Rattle.pc16550d.specs.Chip as chip

-- ---- One call of the device. The host's question for room is not among them: it changes nothing, and nothing on the chip is like it.

-- The answer is the byte read, or the number of bytes taken, or "full", by which an input is refused. A write has none.
pub record Done : Type 0 where
  pub port : Port
  pub reply : Answer
  pub sent : List ℕ
  pub raises : ℕ

abbrev pub accessed : device.Out → Done
accessed o = record { port = o.port; reply = answers o.reply; sent = o.sent; raises = o.raises }

abbrev pub fed : device.Input → Done
fed i = record { port = i.port; reply = cond i.full refuses (answers i.taken); sent = []; raises = i.raises }

unfoldable pub device_does : Port → Op → Done
device_does p (read offset) = accessed (read_of p offset)
device_does p (write offset value) = accessed (write_of p offset value)
device_does p (input bytes) = fed (input_of p bytes)

-- ---- A port of the device, read as a state of the chip

abbrev pub enables : Port → Kind → Bool
enables p kind = is_enabled p.settings.ier kind

-- The FIFOs are on, at trigger level 1, whatever the port remembers of FCR; no byte was lost; nothing changed at the modem's inputs. The
-- transmitter's interrupt is pending where it is active: on the chip it never is while IER 0x02 is 0.
unfoldable pub chip_of : Port → Chip
chip_of p = record {
  line = record { lcr = p.settings.lcr; dll = p.settings.dll; dlm = p.settings.dlm };
  interrupts = record { ier = p.settings.ier; thre = active p transmitter_empty };
  receiver = record { fifos = true; trigger = 1; waiting = p.waiting; overrun = false };
  modem = record { mcr = p.settings.mcr % 0x20; pins = p.msr / 0x10; changes = 0 };
  scr = p.settings.scr;
}

-- ---- The ports that runs keep to. Nothing is asked of IIR.

pub record Sound (p : Port) : Type 0 where
  pub lsr : p.lsr ≡ cond (some p.waiting) 0x61 0x60
  pub msr : p.msr % 0x10 ≡ 0
  -- at least as many bytes can wait as on the chip
  pub size : 16 ≤ p.size

-- ---- A call agrees

-- It looks alike from outside: the answer, the bytes sent, and the interrupt.
pub record Alike (before : Chip) (d : Done) (c : chip.Out) : Type 0 where
  pub reply : Fits d.reply c.reply
  pub sent : d.sent ≡ c.sent
  -- where the chip's pin rises at some moment of the call, the device raises the interrupt
  pub rise : rises before c ≡ true → 0 < d.raises
  -- where the device raises it, the chip's pin is high after the call
  pub high : 0 < d.raises → pin c.chip ≡ true
  -- after the call the device's interrupt line is the chip's pin: it rose, fell or stayed as that did
  pub level : line d.port ≡ pin c.chip

-- And the port after it is, on the chip, the chip after it.
pub record Agrees (before : Chip) (d : Done) (c : chip.Out) : Type 0 where
  pub alike : Alike before d c
  pub next : chip_of d.port ≡ c.chip

abbrev pub AgreesAt : Port → Op → Type 0
AgreesAt p o = Agrees (chip_of p) (device_does p o) (chip_does (chip_of p) o)

-- ---- The rows

-- What an operation is to the device: a register read or written, by its map; or bytes from the line.
pub data Access : Type 0 where
  reads : Register → Access
  writes : Register → ℕ → Access
  receives : List ℕ → Access

abbrev pub access_of : Port → Op → Access
access_of p (read offset) = reads (addressed (is_open p) offset)
access_of p (write offset value) = writes (addressed (is_open p) offset) value
access_of p (input bytes) = receives bytes

-- FCR is written without 0x01, which turns the chip's FIFOs off, and without 0x02, while bytes wait.
abbrev pub off_with_bytes : Port → ℕ → Bool
off_with_bytes p v = not (on v 0x01) && not (on v 0x02) && some p.waiting

pub data Row (p : Port) : Access → Type 0 where
  -- MCR is read and shows one of its three high bits, which on the chip are always 0.
  serial_wide_mcr : 0x20 ≤ p.settings.mcr → Row p (reads MCR)
  -- THR is written while the transmitter's interrupt is active, and received data is neither active nor made so by the loop: the chip's pin
  -- falls and rises again, the device raises nothing.
  serial_thr_burst : {v : ℕ} → active p transmitter_empty ≡ true → active p received_data ≡ false
      → (in_loop p && enables p received_data) ≡ false → Row p (writes RBR_THR v)
  -- THR is written in the loop and 16 bytes wait: the chip loses the byte and says "overrun"; the device keeps it or loses it with no word.
  serial_loop_overrun : {v : ℕ} → in_loop p ≡ true → 16 ≤ length p.waiting → Row p (writes RBR_THR v)
  -- Bytes come over the line, and more than 16 would wait: the chip loses some and says "overrun"; the device takes what fits its size.
  serial_line_overrun : {bytes : List ℕ} → in_loop p ≡ false → some bytes ≡ true → 16 < length p.waiting + length bytes
      → Row p (receives bytes)
  -- IER is written with 0x02 at 1, which it was already, and the transmitter's interrupt is not active: the device signals it again, the
  -- chip does not.
  serial_transmitter_again : {v : ℕ} → enables p transmitter_empty ≡ true → is_enabled (ier_stored v) transmitter_empty ≡ true
      → active p transmitter_empty ≡ false → Row p (writes IER v)
  -- FCR is written with 0x01 off: the chip turns its FIFOs off.
  serial_fifo_off : {v : ℕ} → on v 0x01 ≡ false → Row p (writes IIR_FCR v)
  -- Of these, where 0x02 is off too and bytes wait: the chip loses them, as its FIFOs are turned off; the device keeps them.
  serial_fifo_empty : {v : ℕ} → off_with_bytes p v ≡ true → Row p (writes IIR_FCR v)
  -- FCR is written with a trigger level above 1: below it the chip identifies received data as the time-out.
  serial_trigger_level : {v : ℕ} → on v 0x01 ≡ true → (chip.trigger_level v ≡ 1 → ⊥) → Row p (writes IIR_FCR v)
  -- MCR is written, and by way of the loop a modem input changes: the chip keeps the change in MSR's low half, and signals it.
  serial_modem_change : {v : ℕ} → ((chip.write_mcr (chip_of p).modem v).changes ≡ 0 → ⊥) → Row p (writes MCR v)

abbrev pub RowAt : Port → Op → Type 0
RowAt p o = Row p (access_of p o)

-- ---- Both side by side

abbrev pub pair : Pair
pair = record {
  Device = Port;
  Chip = Chip;
  Op = Op;
  device_next = λ p o. (device_does p o).port;
  device_reply = λ p o. (device_does p o).reply;
  chip_next = λ c o. (chip_does c o).chip;
  chip_reply = λ c o. (chip_does c o).reply;
  chip_of = chip_of;
  Alike = λ p c o. Alike c (device_does p o) (chip_does c o);
  Row = RowAt;
}
