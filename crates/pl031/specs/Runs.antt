-- Runs from reset and from a fresh clock.
use Rattle.std.specs.Prelude.{ℕ, zero, suc, List, [], ◌∷◌}
use Rattle.clock.specs.Registers.{fresh}
use Rattle.pl031.specs.Chip.{Chip, Op, second, read, write, chip_does}
use Rattle.pl031.specs.Compare.{Timed}

-- A clock that is fresh at the host's second n.
abbrev pub fresh_at : ℕ → Timed
fresh_at n = record { clock = fresh; time = n }

-- A chip that was started, and n seconds passed.
abbrev pub started_for : ℕ → Chip → Chip
started_for zero c = (chip_does c (write 0x00c 1)).chip
started_for (suc n) c = (chip_does (started_for n c) second).chip

-- The rows are shown from a clock that is fresh at 1,000.
abbrev pub begins : Timed
begins = fresh_at 1000

-- A guest sets the clock and reads it, at once and two seconds later.
abbrev pub set_and_read : List Op
set_and_read = write 0x008 0x6000_0000 ∷ read 0x000 ∷ second ∷ second ∷ read 0x000 ∷ read 0x008 ∷ []

-- Linux sets an alarm: MR, the status cleared, the interrupt let through; a second passes, and it looks at the time and the status.
abbrev pub alarm_set : List Op
alarm_set = read 0x000 ∷ write 0x004 1060 ∷ write 0x01c 1 ∷ write 0x010 1 ∷ second ∷ read 0x000 ∷ read 0x018 ∷ []
