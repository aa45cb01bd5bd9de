-- The chip by itself, from a master reset: runs with the answers that the data sheet's rules give. Inside a row nothing else holds the
-- definition to the sheet.
use mathlib.Core.Path.{◌≡◌, refl}
use mathlib.Core.Bool.{true, false, cond}
use mathlib.Core.List.{List, [], ◌∷◌, ◌++◌}
use Prim.Native.Nat.{ℕ, ◌<◌}
use lib.Dec.{leb}
use Rattle.common.proofs.EveryByte.{same}
use Rattle.sidebyside.specs.Runs.{Step, does, tells, hushes, Told, chip_after}
use Rattle.pc16550d.specs.Chip.{Chip, Op, read, write, input, master_reset, trigger_level}
use Rattle.pc16550d.specs.Compare.{pair}
use Rattle.pc16550d.specs.Runs.{sends, pin_of, rises_of}
use Rattle.pc16550d.proofs.Computing.{computing}

-- A write; a read and its answer; a read of which the manual says nothing; bytes over the line and how many arrive.
abbrev w : ℕ → ℕ → Step pair
w address v = does (write address v)

abbrev r : ℕ → ℕ → Step pair
r address v = tells (read address) v

abbrev r? : ℕ → Step pair
r? address = hushes (read address)

abbrev i : List ℕ → ℕ → Step pair
i bytes n = tells (input bytes) n

abbrev four : List ℕ
four = 1 ∷ 2 ∷ 3 ∷ 4 ∷ []

abbrev thirteen : List ℕ
thirteen = four ++ (four ++ (four ++ (13 ∷ [])))

abbrev seventeen : List ℕ
seventeen = thirteen ++ four

abbrev twelve_reads : List Op
twelve_reads = read 0 ∷ read 0 ∷ read 0 ∷ read 0 ∷ read 0 ∷ read 0 ∷ read 0 ∷ read 0 ∷ read 0 ∷ read 0 ∷ read 0 ∷ read 0 ∷ []

-- The trigger level goes by the two high bits of FCR and by no other.
pub trigger_levels : (v : ℕ) → v < 256 → trigger_level v ≡ cond (leb 0xc0 v) 14 (cond (leb 0x80 v) 8 (cond (leb 0x40 v) 4 1))
unfolding trigger_level
trigger_levels = same trigger_level (λ v. cond (leb 0xc0 v) 14 (cond (leb 0x80 v) 8 (cond (leb 0x40 v) 4 1))) tt

module _ (c : Chip) where
  abbrev reset : Chip
  reset = master_reset c

  -- ---- Registers

  -- Master reset: IER, IIR, LCR, MCR, LSR; no byte waits; SCR and the divisor are as they were.
  pub after_reset_lem : Told pair reset
      (r 1 0x00 ∷ r 2 0x01 ∷ r 3 0x00 ∷ r 4 0x00 ∷ r 5 0x60 ∷ r? 0 ∷ r 7 c.scr ∷ w 3 0x80 ∷ r 0 c.line.dll ∷ r 1 c.line.dlm ∷ [])
  unfolding computing
  after_reset_lem = refl

  -- DLAB opens the divisor at 0 and 1 and touches no other address; IER is what it was behind it; there is no address reserved 7.
  pub divisor : Told pair reset
      (w 1 0x05 ∷ w 3 0x80 ∷ w 0 0x0c ∷ w 1 0x34 ∷ r 0 0x0c ∷ r 1 0x34 ∷ r 3 0x80 ∷ r 5 0x60 ∷ w 3 0x7f ∷ r 1 0x05 ∷ r 3 0x7f ∷ r? 8 ∷ [])
  unfolding computing
  divisor = refl

  -- IER has four bits, MCR five, SCR eight.
  pub widths : Told pair reset (w 1 0xff ∷ r 1 0x0f ∷ w 4 0xff ∷ r 4 0x1f ∷ w 7 0xff ∷ r 7 0xff ∷ [])
  unfolding computing
  widths = refl

  -- What is written to THR is sent, in order; in the loop and behind DLAB nothing is.
  pub sending : sends reset
      (write 0 0x41 ∷ write 0 0x42 ∷ write 4 0x10 ∷ write 0 0x43 ∷ write 4 0x00 ∷ write 3 0x80 ∷ write 0 0x44 ∷ write 3 0x00 ∷ write 0 0x45 ∷ [])
      ≡ 0x41 ∷ 0x42 ∷ 0x45 ∷ []
  unfolding computing
  sending = refl

  -- ---- Interrupts

  -- A chip on which all four kinds are pending: an overrun, received data, the empty transmitter, and CTS by way of the loop.
  abbrev all_pending : Chip
  all_pending = chip_after pair reset (write 2 0x01 ∷ input seventeen ∷ write 4 0x10 ∷ read 6 ∷ write 4 0x12 ∷ write 1 0x0f ∷ [])

  -- Priority: line status, which reading LSR resets; received data, which lasts while a byte waits; the transmitter, which its own
  -- identification resets and no other; modem status, which reading MSR resets; none.
  pub priority : Told pair all_pending
      (r 2 0xc6 ∷ r 5 0x63 ∷ r 2 0xc4 ∷ r 0 0x01 ∷ r 2 0xc4 ∷ w 2 0x03 ∷ r 2 0xc2 ∷ r 2 0xc0 ∷ r 6 0x11 ∷ r 2 0xc1 ∷ [])
  unfolding computing
  priority = refl

  -- The pin is a level: it falls when the last kind is reset.
  pub pin_falls_last : pin_of all_pending (read 2 ∷ read 5 ∷ read 2 ∷ write 2 0x03 ∷ read 2 ∷ read 2 ∷ read 6 ∷ []) ≡ true ∷ true ∷ true ∷ true ∷ true ∷ true ∷ false ∷ []
  unfolding computing
  pin_falls_last = refl

  -- A kind that is not enabled is neither shown nor signalled; each bit of IER enables one.
  pub each_enabled : Told pair all_pending
      (w 1 0x00 ∷ r 2 0xc1 ∷ w 1 0x04 ∷ r 2 0xc6 ∷ w 1 0x01 ∷ r 2 0xc4 ∷ w 1 0x08 ∷ r 2 0xc0 ∷ w 1 0x02 ∷ r 2 0xc2 ∷ [])
  unfolding computing
  each_enabled = refl

  pub each_signalled : pin_of all_pending (write 1 0x00 ∷ write 1 0x04 ∷ write 1 0x00 ∷ write 1 0x01 ∷ write 1 0x00 ∷ write 1 0x08 ∷ write 1 0x00 ∷ write 1 0x02 ∷ [])
      ≡ false ∷ true ∷ false ∷ true ∷ false ∷ true ∷ false ∷ true ∷ []
  unfolding computing
  each_signalled = refl

  -- Each kind by its own bit of IER and by no other. One of them is pending at a time: the line status, where the byte that was not lost has
  -- been read; received data; the modem status. The transmitter's comes with its bit.
  pub line_status_by_04 : Told pair reset (i (1 ∷ 2 ∷ []) 2 ∷ r 0 2 ∷ w 1 0x09 ∷ r 2 0x01 ∷ w 1 0x04 ∷ r 2 0x06 ∷ w 1 0x02 ∷ r 2 0x02 ∷ r 2 0x01 ∷ [])
  unfolding computing
  line_status_by_04 = refl

  pub received_data_by_01 : Told pair reset (i (1 ∷ []) 1 ∷ w 1 0x0c ∷ r 2 0x01 ∷ w 1 0x01 ∷ r 2 0x04 ∷ w 1 0x02 ∷ r 2 0x02 ∷ r 2 0x01 ∷ [])
  unfolding computing
  received_data_by_01 = refl

  pub transmitter_by_02 : Told pair reset (w 1 0x0d ∷ r 2 0x01 ∷ w 1 0x02 ∷ r 2 0x02 ∷ [])
  unfolding computing
  transmitter_by_02 = refl

  pub modem_status_by_08 : Told pair (chip_after pair reset (write 4 0x10 ∷ read 6 ∷ write 4 0x12 ∷ []))
      (w 1 0x05 ∷ r 2 0x01 ∷ w 1 0x08 ∷ r 2 0x00 ∷ w 1 0x02 ∷ r 2 0x02 ∷ r 2 0x01 ∷ [])
  unfolding computing
  modem_status_by_08 = refl

  -- The transmitter signals when it is enabled. Reading IIR resets that; to enable it while it is enabled changes nothing; writing THR and
  -- enabling it anew signal again. Without the FIFOs IIR's high bits are 0.
  pub transmitter : Told pair reset
      (w 1 0x02 ∷ r 2 0x02 ∷ r 2 0x01 ∷ w 1 0x02 ∷ r 2 0x01 ∷ w 0 0x41 ∷ r 2 0x02 ∷ r 2 0x01 ∷ w 1 0x00 ∷ r 2 0x01 ∷ w 1 0x02 ∷ r 2 0x02 ∷ [])
  unfolding computing
  transmitter = refl

  pub transmitter_pin : pin_of reset
      (write 1 0x02 ∷ read 2 ∷ write 1 0x02 ∷ write 0 0x41 ∷ read 2 ∷ write 1 0x00 ∷ write 0 0x41 ∷ write 1 0x02 ∷ [])
      ≡ true ∷ false ∷ false ∷ true ∷ false ∷ false ∷ false ∷ true ∷ []
  unfolding computing
  transmitter_pin = refl

  -- A byte written to THR makes the pin fall and, as it leaves, rise; not where the transmitter's interrupt is disabled, nor while received
  -- data keeps the pin high. Nothing else makes a pin rise that was high.
  pub thr_rises : rises_of reset
      (write 2 0x01 ∷ write 0 0x41 ∷ write 1 0x02 ∷ write 0 0x41 ∷ write 1 0x02 ∷ write 0 0x42 ∷ read 2 ∷ write 0 0x43
      ∷ write 1 0x03 ∷ input (1 ∷ []) ∷ write 0 0x44 ∷ read 2 ∷ read 0 ∷ write 0 0x45 ∷ write 3 0x80 ∷ write 0 0x46 ∷ [])
      ≡ false ∷ false ∷ true ∷ true ∷ false ∷ true ∷ false ∷ true
      ∷ false ∷ false ∷ false ∷ false ∷ false ∷ true ∷ false ∷ false ∷ []
  unfolding computing
  thr_rises = refl

  -- The same in the loop.
  pub loop_rises : rises_of (chip_after pair reset (write 2 0x01 ∷ write 4 0x10 ∷ read 6 ∷ write 1 0x02 ∷ []))
      (write 0 0x41 ∷ write 1 0x03 ∷ write 0 0x42 ∷ read 0 ∷ read 0 ∷ write 0 0x43 ∷ [])
      ≡ true ∷ false ∷ false ∷ false ∷ false ∷ true ∷ []
  unfolding computing
  loop_rises = refl

  -- Behind received data the transmitter's interrupt is kept: reading IIR, which shows received data, does not reset it.
  pub kept_behind_data : Told pair reset
      (w 2 0x01 ∷ w 1 0x03 ∷ i (0x41 ∷ []) 1 ∷ r 2 0xc4 ∷ r 2 0xc4 ∷ r 0 0x41 ∷ r 2 0xc2 ∷ r 2 0xc1 ∷ [])
  unfolding computing
  kept_behind_data = refl

  -- ---- The receiver

  -- The FIFO keeps 16 bytes and loses the seventeenth: LSR says so once.
  pub overrun : Told pair reset (w 2 0x01 ∷ i seventeen 17 ∷ r 5 0x63 ∷ r 5 0x61 ∷ r 0 1 ∷ r 0 2 ∷ [])
  unfolding computing
  overrun = refl

  -- Its bytes come in order, up to the sixteenth; the overrun is not reset by them.
  pub keeps_sixteen : Told pair (chip_after pair reset (write 2 0x01 ∷ input seventeen ∷ twelve_reads)) (r 0 13 ∷ r 0 1 ∷ r 0 2 ∷ r 0 3 ∷ r 5 0x62 ∷ r? 0 ∷ [])
  unfolding computing
  keeps_sixteen = refl

  -- Without the FIFOs one byte waits, and a second takes its place.
  pub overrun_of_one : Told pair reset (i (0x41 ∷ []) 1 ∷ r 5 0x61 ∷ i (0x42 ∷ []) 1 ∷ r 5 0x63 ∷ r 0 0x42 ∷ r 5 0x60 ∷ [])
  unfolding computing
  overrun_of_one = refl

  -- Trigger level 4: below it received data is the time-out, also where a read brings it there.
  pub trigger_4 : Told pair reset (w 1 0x01 ∷ w 2 0x41 ∷ i (1 ∷ 2 ∷ 3 ∷ []) 3 ∷ r 2 0xcc ∷ i (4 ∷ []) 1 ∷ r 2 0xc4 ∷ r 0 1 ∷ r 2 0xcc ∷ [])
  unfolding computing
  trigger_4 = refl

  -- Levels 1, 8 and 14. Without the FIFOs there is no time-out.
  pub trigger_others : Told pair reset
      (w 1 0x01 ∷ w 2 0x01 ∷ i (1 ∷ []) 1 ∷ r 2 0xc4 ∷ w 2 0x83 ∷ i (four ++ (5 ∷ 6 ∷ 7 ∷ [])) 7 ∷ r 2 0xcc ∷ i (8 ∷ []) 1 ∷ r 2 0xc4
      ∷ w 2 0xc3 ∷ i thirteen 13 ∷ r 2 0xcc ∷ i (14 ∷ []) 1 ∷ r 2 0xc4 ∷ w 2 0x00 ∷ i (1 ∷ []) 1 ∷ r 2 0x04 ∷ [])
  unfolding computing
  trigger_others = refl

  -- FCR 0x02 empties the FIFO, 0x04 and 0x08 do not; turning the FIFOs off or on empties; without 0x01 no other bit counts.
  pub fifo_control : Told pair reset
      (w 2 0x01 ∷ i four 4 ∷ w 2 0x0d ∷ r 5 0x61 ∷ w 2 0x03 ∷ r 5 0x60 ∷ i four 4 ∷ w 2 0x00 ∷ r 5 0x60 ∷ r 2 0x01
      ∷ i (9 ∷ []) 1 ∷ w 2 0xc2 ∷ r 5 0x61 ∷ w 2 0x01 ∷ r 5 0x60 ∷ [])
  unfolding computing
  fifo_control = refl

  -- A reading of what the data sheet leaves open: emptying the FIFO, turning the FIFOs off or on, and reading RBR leave the overrun until LSR
  -- is read.
  pub emptied_keeps_overrun : Told pair (chip_after pair reset (write 2 0x01 ∷ input seventeen ∷ [])) (w 2 0x03 ∷ r 5 0x62 ∷ r 5 0x60 ∷ [])
  unfolding computing
  emptied_keeps_overrun = refl

  pub turned_keeps_overrun : Told pair (chip_after pair reset (write 2 0x01 ∷ input seventeen ∷ [])) (w 2 0x00 ∷ w 2 0x01 ∷ w 2 0x00 ∷ r 5 0x62 ∷ r 5 0x60 ∷ [])
  unfolding computing
  turned_keeps_overrun = refl

  -- A reading too: neither emptying the transmit FIFO nor turning the FIFOs on or off signals the empty transmitter anew.
  pub fcr_signals_nothing : Told pair reset (w 1 0x02 ∷ r 2 0x02 ∷ w 2 0x01 ∷ r 2 0xc1 ∷ w 2 0x05 ∷ r 2 0xc1 ∷ w 2 0x07 ∷ r 2 0xc1 ∷ w 2 0x00 ∷ r 2 0x01 ∷ [])
  unfolding computing
  fcr_signals_nothing = refl

  -- ---- The modem and the loop

  -- What is written comes back, the line is cut off, and received data and the transmitter still interrupt.
  pub loop : Told pair reset
      (w 2 0x01 ∷ w 1 0x03 ∷ r 2 0xc2 ∷ w 4 0x10 ∷ i four 0 ∷ r 5 0x60 ∷ w 0 0x41 ∷ r 2 0xc4 ∷ r 5 0x61 ∷ r 0 0x41 ∷ r 2 0xc2 ∷ r 5 0x60 ∷ [])
  unfolding computing
  loop = refl

  -- In the loop CTS follows RTS, DSR follows DTR, RI follows OUT1, DCD follows OUT2. That CTS, DSR or DCD changed is kept until MSR is
  -- read, and that RI ended.
  pub loop_lines : Told pair (chip_after pair reset (write 4 0x10 ∷ read 6 ∷ []))
      (w 4 0x12 ∷ r 6 0x11 ∷ r 6 0x10 ∷ w 4 0x11 ∷ r 6 0x23 ∷ w 4 0x14 ∷ r 6 0x42 ∷ w 4 0x18 ∷ r 6 0x8c ∷ w 4 0x1a ∷ w 4 0x1b ∷ r 6 0xb3
      ∷ w 4 0x10 ∷ r 6 0x0b ∷ r 6 0x00 ∷ w 4 0x12 ∷ w 4 0x10 ∷ r 6 0x01 ∷ [])
  unfolding computing
  loop_lines = refl

  -- RI's end is 0x04 and its beginning nothing, with the other lines on and with them off.
  pub ring_ends : Told pair (chip_after pair reset (write 4 0x10 ∷ read 6 ∷ []))
      (w 4 0x14 ∷ r 6 0x40 ∷ w 4 0x10 ∷ r 6 0x04 ∷ r 6 0x00 ∷ w 4 0x1b ∷ r 6 0xbb ∷ w 4 0x1f ∷ r 6 0xf0 ∷ w 4 0x1b ∷ r 6 0xb4 ∷ r 6 0xb0 ∷ [])
  unfolding computing
  ring_ends = refl

  -- Outside of the loop they are the pins, here CTS, DSR and DCD; going into the loop and out of it are changes.
  pub pins_and_loop : c.modem.pins ≡ 0x0b
      → Told pair reset (r 6 0xb0 ∷ w 4 0x0f ∷ r 6 0xb0 ∷ w 4 0x10 ∷ r 6 0x0b ∷ w 4 0x00 ∷ r 6 0xbb ∷ r 6 0xb0 ∷ [])
  unfolding computing
  pins_and_loop pins = rw pins
