-- Written by lists/manual.py from the lists: change these.
use mathlib.Core.Path.{refl}
use Rattle.pc16550d.specs.Chip.{Chip}
use Rattle.pc16550d.proofs.Computing.{computing}
use Rattle.manual_lists.specs.Serial.{AsTold}
use Rattle.manual_lists.specs.SerialLists as lists

pub serial_beyond : (c : Chip) → AsTold c lists.serial_beyond
unfolding computing
serial_beyond c = refl

pub serial_empty_receiver : (c : Chip) → AsTold c lists.serial_empty_receiver
unfolding computing
serial_empty_receiver c = refl

pub serial_fifo_empty : (c : Chip) → AsTold c lists.serial_fifo_empty
unfolding computing
serial_fifo_empty c = refl

pub serial_fifo_off : (c : Chip) → AsTold c lists.serial_fifo_off
unfolding computing
serial_fifo_off c = refl

pub serial_line_overrun : (c : Chip) → AsTold c lists.serial_line_overrun
unfolding computing
serial_line_overrun c = refl

pub serial_loop_overrun : (c : Chip) → AsTold c lists.serial_loop_overrun
unfolding computing
serial_loop_overrun c = refl

pub serial_modem_change : (c : Chip) → AsTold c lists.serial_modem_change
unfolding computing
serial_modem_change c = refl

pub serial_read_only : (c : Chip) → AsTold c lists.serial_read_only
unfolding computing
serial_read_only c = refl

pub serial_reset_values : (c : Chip) → AsTold c lists.serial_reset_values
unfolding computing
serial_reset_values c = refl

pub serial_thr_burst : (c : Chip) → AsTold c lists.serial_thr_burst
unfolding computing
serial_thr_burst c = refl

pub serial_transmitter_again : (c : Chip) → AsTold c lists.serial_transmitter_again
unfolding computing
serial_transmitter_again c = refl

pub serial_trigger_level : (c : Chip) → AsTold c lists.serial_trigger_level
unfolding computing
serial_trigger_level c = refl

pub serial_wide_mcr : (c : Chip) → AsTold c lists.serial_wide_mcr
unfolding computing
serial_wide_mcr c = refl

pub freebsd_by_codes : (c : Chip) → AsTold c lists.freebsd_by_codes
unfolding computing
freebsd_by_codes c = refl

pub linux_8250_start : (c : Chip) → AsTold c lists.linux_8250_start
unfolding computing
linux_8250_start c = refl

pub seabios_detection : (c : Chip) → AsTold c lists.seabios_detection
unfolding computing
seabios_detection c = refl

pub xen_until_none : (c : Chip) → AsTold c lists.xen_until_none
unfolding computing
xen_until_none c = refl
