-- Each row from the fresh device: the operations before it, the call that is in it, those behind it that show it, and the last answer of
-- both.
use mathlib.Core.Path.{◌≡◌, refl}
use mathlib.Core.List.{List, [], ◌∷◌, ◌++◌}
use Prim.Native.Nat.{ℕ}
use native.Mathlib.Omega.{arith}
use lib.Dec.{lit≤, lit<}
use Rattle.sidebyside.specs.Answers.{says, refuses}
use Rattle.sidebyside.specs.Runs.{device_after, chip_after, Shown}
use Rattle.pc16550d.specs.Chip.{read, write, input, chip_does}
use Rattle.pc16550d.specs.Compare.{device_does, chip_of, pair, serial_wide_mcr, serial_thr_burst, serial_loop_overrun}
use Rattle.pc16550d.specs.Compare.{serial_line_overrun, serial_transmitter_again, serial_fifo_off, serial_fifo_empty}
use Rattle.pc16550d.specs.Compare.{serial_trigger_level, serial_modem_change}
use Rattle.pc16550d.specs.Runs.{begins, ShownQuiet}
use Rattle.pc16550d.proofs.Computing.{computing}

abbrev sixteen : List ℕ
sixteen = 1 ∷ 2 ∷ 3 ∷ 4 ∷ 5 ∷ 6 ∷ 7 ∷ 8 ∷ 9 ∷ 10 ∷ 11 ∷ 12 ∷ 13 ∷ 14 ∷ 15 ∷ 16 ∷ []

pub shows_serial_wide_mcr : Shown pair begins (write 4 0xe8 ∷ []) (read 4) [] 0xe8 0x08
unfolding computing
shows_serial_wide_mcr = record { row = serial_wide_mcr (lit≤ tt); device = refl; manual = refl }

-- Two bytes are written, and IIR was not read between them.
pub shows_serial_thr_burst : ShownQuiet (write 1 0x02 ∷ read 2 ∷ write 0 0x41 ∷ []) (write 0 0x42)
unfolding computing
shows_serial_thr_burst = record { row = serial_thr_burst refl refl refl; device = refl; manual = refl }

-- DTR, RTS and OUT2 go with the loop, so that the modem's inputs stay as they are.
pub shows_serial_loop_overrun : Shown pair begins (input sixteen ∷ write 4 0x1b ∷ []) (write 0 0x41) (read 5 ∷ []) 0x61 0x63
unfolding computing
shows_serial_loop_overrun = record { row = serial_loop_overrun refl (lit≤ tt); device = refl; manual = refl }

pub shows_serial_line_overrun : Shown pair begins (input sixteen ∷ []) (input (0x41 ∷ [])) (read 5 ∷ []) 0x61 0x63
unfolding computing
shows_serial_line_overrun = record { row = serial_line_overrun refl refl (lit< tt); device = refl; manual = refl }

-- The same row with 64 bytes waiting: the device refuses the input, and the chip takes it and loses it.
pub shows_full : ((device_does (device_after pair begins (input (sixteen ++ (sixteen ++ (sixteen ++ sixteen))) ∷ [])) (input (0x41 ∷ []))).reply ≡ refuses)
    × ((chip_does (chip_after pair (chip_of begins) (input (sixteen ++ (sixteen ++ (sixteen ++ sixteen))) ∷ [])) (input (0x41 ∷ []))).reply ≡ says 1)
unfolding computing
shows_full = (refl, refl)

pub shows_serial_transmitter_again : Shown pair begins (write 1 0x02 ∷ read 2 ∷ []) (write 1 0x02) (read 2 ∷ []) 0xc2 0xc1
unfolding computing
shows_serial_transmitter_again = record { row = serial_transmitter_again refl refl refl; device = refl; manual = refl }

pub shows_serial_fifo_off : Shown pair begins [] (write 2 0x00) (read 2 ∷ []) 0xc1 0x01
unfolding computing
shows_serial_fifo_off = record { row = serial_fifo_off refl; device = refl; manual = refl }

pub shows_serial_fifo_empty : Shown pair begins (input (0x41 ∷ []) ∷ []) (write 2 0x00) (read 5 ∷ []) 0x61 0x60
unfolding computing
shows_serial_fifo_empty = record { row = serial_fifo_empty refl; device = refl; manual = refl }

-- Behind the row of the FIFOs, which are off: 0x02 without 0x01 empties the device alone, and to turn them on empties the chip alone.
pub shows_emptied_without_fifos : Shown pair begins [] (write 2 0x00) (input (0x41 ∷ []) ∷ write 2 0x02 ∷ read 5 ∷ []) 0x60 0x61
unfolding computing
shows_emptied_without_fifos = record { row = serial_fifo_off refl; device = refl; manual = refl }

pub shows_emptied_by_turning_on : Shown pair begins [] (write 2 0x00) (input (0x41 ∷ []) ∷ write 2 0x01 ∷ read 5 ∷ []) 0x61 0x60
unfolding computing
shows_emptied_by_turning_on = record { row = serial_fifo_off refl; device = refl; manual = refl }

pub shows_serial_trigger_level : Shown pair begins [] (write 2 0x41) (write 1 0x01 ∷ input (0x41 ∷ []) ∷ read 2 ∷ []) 0xc4 0xcc
unfolding computing
shows_serial_trigger_level = record { row = serial_trigger_level {v = 0x41} refl (omega arith); device = refl; manual = refl }

pub shows_serial_modem_change : Shown pair begins [] (write 4 0x18) (read 6 ∷ []) 0x80 0x83
unfolding computing
shows_serial_modem_change = record { row = serial_modem_change {v = 0x18} (omega arith); device = refl; manual = refl }
