-- One name for all that has to be unfolded to compute a run of ours and of the original.
use Rattle.interrupts.specs.Interrupts.{ier_stored, code, settled}
use Rattle.line_status.specs.LineStatus.{lsr_ready, lsr_after_read}
use Rattle.modem.specs.Modem.{is_loop, msr_read}
use Rattle.serial.specs.Port.{addressed, read_register, receives, write_line, write_loop, write_ier, write_fcr, write_register, input_of}
use Rattle.runs.specs.Run.{step, run}
use Rattle.vm_superio.specs.Original.{mark, unmark, announce, read_rbr, iir_read}
use Rattle.vm_superio.specs.Original as original
use Rattle.vm_superio.specs.Beside.{drained, run_beside}

unfoldable pub computing : Unit {0}
unfolding ier_stored code settled lsr_ready lsr_after_read is_loop msr_read addressed read_register receives write_line write_loop write_ier write_fcr write_register input_of step run mark unmark announce read_rbr iir_read original.ier_stored original.read_register original.receives original.write_line original.write_ier original.write_register original.input_of original.step original.run drained run_beside
computing = tt
