-- Runs from reset and from the fresh device, and what they show.
use Rattle.std.specs.Prelude.{ℕ, ◌≡◌, Bool, true, List, [], ◌∷◌, ◌++◌}
use Rattle.sidebyside.specs.Runs.{device_after, chip_after}
use Rattle.serial.specs.Port.{Port, fresh}
use Rattle.pc16550d.specs.Chip.{Chip, pin, Op, write, chip_does, rises}
use Rattle.pc16550d.specs.Compare.{device_does, chip_of, RowAt, pair}

-- What is written after a reset to come to the fresh device: the FIFOs on, the divisor 12 behind DLAB, eight bits a character, OUT2, SCR 0.
abbrev pub set_up : List Op
set_up = write 2 0x01 ∷ write 3 0x80 ∷ write 0 0x0c ∷ write 1 0x00 ∷ write 3 0x03 ∷ write 4 0x08 ∷ write 7 0x00 ∷ []

-- The fresh device, of the usual size.
abbrev pub begins : Port
begins = fresh 64

-- A row that shows in the signal: after `before` the chip's pin rises at some moment of the call, and the device raises nothing.
pub record ShownQuiet (before : List Op) (call : Op) : Type 0 where
  pub row : RowAt (device_after pair begins before) call
  pub device : (device_does (device_after pair begins before) call).raises ≡ 0
  pub manual : rises (chip_after pair (chip_of begins) before) (chip_does (chip_after pair (chip_of begins) before) call) ≡ true

-- Of a run of the chip: the bytes that it sends; the pin after each of its operations, and whether it rose at some moment of it.
abbrev pub sends : Chip → List Op → List ℕ
sends c [] = []
sends c (o ∷ os) = (chip_does c o).sent ++ sends (chip_does c o).chip os

abbrev pub pin_of : Chip → List Op → List Bool
pin_of c [] = []
pin_of c (o ∷ os) = pin (chip_does c o).chip ∷ pin_of (chip_does c o).chip os

abbrev pub rises_of : Chip → List Op → List Bool
rises_of c [] = []
rises_of c (o ∷ os) = rises c (chip_does c o) ∷ rises_of (chip_does c o).chip os
