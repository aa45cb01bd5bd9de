-- One name for all that has to be unfolded to compute a run of the device and of the chip.
use Rattle.interrupts.specs.Interrupts.{ier_stored, is_high, code, settled}
use Rattle.line_status.specs.LineStatus.{lsr_ready, lsr_after_read}
use Rattle.modem.specs.Modem.{is_loop, msr_read}
use Rattle.serial.specs.Port.{addressed, read_register, receives, write_line, write_loop, write_register, input_of}
use Rattle.serial.specs.Port as device
use Rattle.pc16550d.specs.Chip.{register_at, master_reset, pin, after_iir, write_ier, loads, transmits, arrives, arrive_all, trigger_level}
use Rattle.pc16550d.specs.Chip.{write_fcr, inputs, changed, write_mcr, write_thr, from_line, chip_does, rising}
use Rattle.pc16550d.specs.Chip as chip
use Rattle.pc16550d.specs.Compare.{device_does, chip_of}

unfoldable pub computing : Unit {0}
unfolding ier_stored is_high code settled lsr_ready lsr_after_read is_loop msr_read addressed read_register receives device.write_ier device.write_fcr write_line write_loop write_register input_of register_at master_reset pin chip.code after_iir write_ier loads transmits arrives arrive_all trigger_level write_fcr inputs changed write_mcr chip.read_register write_thr chip.write_register from_line chip_does rising device_does chip_of
computing = tt
