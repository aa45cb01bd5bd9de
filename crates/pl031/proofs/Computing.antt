-- One name for all that has to be unfolded to compute a run of the device and of the chip.
use Rattle.clock.specs.Registers.{fresh, register_at, shown, rule, read_of, write_of}
use Rattle.pl031.specs.Chip.{after_reset, ticks, read_register, write_register, chip_does}
use Rattle.pl031.specs.Chip as chip
use Rattle.pl031.specs.Compare.{device_does, chip_of}

unfoldable pub computing : Unit {0}
unfolding fresh register_at shown rule read_of write_of chip.register_at after_reset ticks read_register write_register chip_does device_does chip_of
computing = tt
