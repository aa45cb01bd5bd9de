-- Behind a first row: the chip has run on its own and is never set equal to the device again. What a driver keeps to, and what then looks
-- alike at every call, for ever.
use Rattle.std.specs.Prelude.{ℕ, ◌+◌, ◌/◌, ◌%◌, ◌<◌, ◌≡◌, List, [], ◌∷◌, ◌++◌, Bool, true, false, cond, not, ◌&&◌, ◌||◌, length, eqb, ltb}
use Rattle.std.specs.Int.Bits.{bit_and}
use Rattle.common.specs.Bits.{on}
use Rattle.sidebyside.specs.Answers.{Said, says, silent, none, Answer, answers, refuses}
use Rattle.serial.specs.Port.{Port, line}
use Rattle.pc16550d.specs.Chip.{Chip, Register, RBR_THR, IER, IIR_FCR, LCR, MCR, LSR, MSR, SCR, DLL, DLM, outside, register_at, dlab}
use Rattle.pc16550d.specs.Chip.{pin, enabled, modem_status, depth, in_loop, write_fcr, write_mcr, Op, read, write, input, chip_does}
use Rattle.pc16550d.specs.Chip as chip
use Rattle.pc16550d.specs.Compare.{Done, device_does, chip_of}
use Rattle.pc16550d.specs.Drivers.{linux_receives, linux_prints_typed_at}

-- ---- A port, and a chip that has run beside it

-- The chip with other FIFO control and other changes at the modem's inputs.
abbrev pub tuned : Bool → ℕ → ℕ → Chip → Chip
tuned fifos trigger changes c = record {
  line = c.line;
  interrupts = c.interrupts;
  receiver = record { fifos = fifos; trigger = trigger; waiting = c.receiver.waiting; overrun = c.receiver.overrun };
  modem = record { mcr = c.modem.mcr; pins = c.modem.pins; changes = changes };
  scr = c.scr;
}

-- The chip is what the port is, but for its FIFO control and for changes at the modem's inputs, of which it signals none.
pub record Follows (p : Port) (c : Chip) : Type 0 where
  pub same : c ≡ tuned c.receiver.fifos c.receiver.trigger c.modem.changes (chip_of p)
  pub four : c.modem.changes < 0x10
  pub quiet : modem_status c ≡ false

-- ---- What a driver keeps to

-- The receiver holds so many bytes more: 16 in all while the FIFOs are on, else one.
abbrev pub holds : Chip → ℕ → Bool
holds c more = not (ltb (depth c.receiver) (length c.receiver.waiting + more))

unfoldable pub careful_write : Chip → Register → ℕ → Bool
-- In the loop a byte is written only where the receiver holds it.
careful_write c RBR_THR v = not (in_loop c) || holds c 1
-- IER 0x02 is not written as 1 again while it is 1 and its interrupt is not pending; 0x08 is written as 1 only where no modem input has
-- changed since MSR was read.
careful_write c IER v =
    let ier = bit_and v 0x0f in
    (not (on ier 0x02) || (not (enabled c 0x02) || c.interrupts.thre)) && (not (on ier 0x08) || eqb c.modem.changes 0)
-- FCR empties the receiver by 0x02 and not otherwise, or no byte waits: the FIFOs are turned on or off only together with 0x02, and while
-- they stay off 0x02 is not written.
careful_write c IIR_FCR v = eqb (length (write_fcr c.receiver v).waiting) (cond (on v 0x02) 0 (length c.receiver.waiting))
-- While IER 0x08 is 1, no modem input is changed by way of the loop.
careful_write c MCR v = not (enabled c 0x08) || eqb (write_mcr c.modem v).changes 0
-- All else is free.
careful_write c LCR v = true
careful_write c LSR v = true
careful_write c MSR v = true
careful_write c SCR v = true
careful_write c DLL v = true
careful_write c DLM v = true
careful_write c outside v = true

-- Reads are free. Over the line, while it is connected, no more bytes come than the receiver holds.
unfoldable pub careful : Chip → Op → Bool
careful c (read address) = true
careful c (write address v) = careful_write c (register_at (dlab c) address) v
careful c (input bytes) = in_loop c || holds c (length bytes)

unfoldable pub careful_run : Chip → List Op → Bool
careful_run c [] = true
careful_run c (o ∷ os) = careful c o && careful_run (chip_does c o).chip os

-- ---- What looks alike

-- The bits of an answer that are compared: of IIR all but the FIFOs' 0xc0 and the time-out's 0x08, of MCR the five that the chip has, of
-- MSR the inputs and not their changes; of every other register, and of what an input answers, all.
abbrev pub compared : Register → ℕ → ℕ
compared RBR_THR v = v
compared IER v = v
compared IIR_FCR v = bit_and v 0x37
compared LCR v = v
compared MCR v = v % 0x20
compared LSR v = v
compared MSR v = v / 0x10
compared SCR v = v
compared DLL v = v
compared DLM v = v
compared outside v = v

abbrev pub compared_at : Chip → Op → ℕ → ℕ
compared_at c (read address) v = compared (register_at (dlab c) address) v
compared_at c (write address w) v = v
compared_at c (input bytes) v = v

-- The device's answer is, in those bits, the one that the manual says, if it says one.
abbrev pub FitsBy : (ℕ → ℕ) → Answer → Said → Type 0
FitsBy bits (answers v) (says w) = bits v ≡ bits w
FitsBy bits refuses (says w) = ⊥
FitsBy bits a silent = Unit {0}
FitsBy bits a none = Unit {0}

pub record AlikeBehind (before : Chip) (bits : ℕ → ℕ) (d : Done) (c : chip.Out) : Type 0 where
  pub reply : FitsBy bits d.reply c.reply
  pub sent : d.sent ≡ c.sent
  -- where the chip's pin is low before the call and high after it, the device raises the interrupt
  pub rise : pin before ≡ false → pin c.chip ≡ true → 0 < d.raises
  -- where the device raises it, the chip's pin is high after the call
  pub high : 0 < d.raises → pin c.chip ≡ true
  -- after the call the device's interrupt line is the chip's pin
  pub level : line d.port ≡ pin c.chip

-- Every call of a run, each going on from its own state.
abbrev pub AlikeRun : Port → Chip → List Op → Type 0
AlikeRun p c [] = Unit {0}
AlikeRun p c (o ∷ os) =
    AlikeBehind c (compared_at c o) (device_does p o) (chip_does c o) × AlikeRun (device_does p o).port (chip_does c o).chip os

-- ---- Linux

-- Its 8250 driver starts, as in lists/guests/linux-8250-start.list: it looks for a port, tries the loop and the FIFOs, empties them and
-- turns them off, sets the line up and tests the transmitter.
abbrev pub linux_starts : List Op
linux_starts =
    write 1 0x00 ∷ read 1 ∷ write 1 0x0f ∷ read 1 ∷ write 1 0x00
    ∷ write 4 0x1a ∷ read 6 ∷ write 4 0x08
    ∷ write 2 0x01 ∷ read 2 ∷ write 2 0x01 ∷ write 2 0x07 ∷ write 2 0x00
    ∷ read 5 ∷ read 0 ∷ read 2 ∷ read 6 ∷ write 3 0x03 ∷ write 4 0x0b ∷ write 1 0x02 ∷ read 2 ∷ read 2 ∷ write 1 0x00 ∷ []

-- The port is opened: the divisor, eight bits, FIFOs at trigger level 8; received data and line status are enabled. (This and how it sends
-- are from memory, not from a list.)
abbrev pub linux_opens : List Op
linux_opens = write 3 0x83 ∷ write 0 0x01 ∷ write 1 0x00 ∷ write 3 0x03 ∷ write 2 0x01 ∷ write 2 0x81 ∷ write 4 0x0b ∷ write 1 0x05 ∷ []

-- It sends by interrupts, two bytes each time.
abbrev pub linux_sends : List Op
linux_sends =
    write 1 0x07 ∷ read 2 ∷ read 5 ∷ write 0 0x68 ∷ write 0 0x65 ∷ read 2 ∷ read 5 ∷ write 0 0x79 ∷ write 0 0x0a
    ∷ read 2 ∷ read 5 ∷ write 1 0x05 ∷ read 2 ∷ []

-- Then it receives three bytes, below the trigger level, sends, and prints on its console while a key is pressed.
abbrev pub linux_boots : List Op
linux_boots = linux_starts ++ (linux_opens ++ (linux_receives ++ (linux_sends ++ linux_prints_typed_at)))
