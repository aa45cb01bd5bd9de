-- Whole runs: device and chip side by side, up to the first row; and where the fresh device comes from.
use mathlib.Core.Path.{◌≡◌, refl}
use mathlib.Core.Logic.{◌⊎◌}
use mathlib.Core.List.{List}
use mathlib.Core.Bool.{true, false}
use Prim.Native.Nat.{ℕ, ◌<◌}
use lib.ListN.{length}
use Rattle.sidebyside.specs.Runs.{SameRun, Meets, RowFree, chip_after}
use Rattle.sidebyside.proofs.Alongside as sidebyside
use Rattle.serial.specs.Port.{Port, is_open, in_loop, addressed, fresh}
use Rattle.serial.specs.Port as device
use Rattle.pc16550d.specs.Chip.{Chip, Op, write, chip_does, master_reset, register_at, write_register, write_ier, write_fcr, trigger_level}
use Rattle.pc16550d.specs.Chip.{write_mcr, inputs, changed}
use Rattle.pc16550d.specs.Compare.{device_does, chip_of, Sound, Alike, AgreesAt, pair}
use Rattle.pc16550d.specs.Runs.{set_up}
use Rattle.pc16550d.proofs.Transmitting.{thr_next}
use Rattle.pc16550d.proofs.Exact.{complete, real}
use Rattle.pc16550d.proofs.Keeping.{keeps}

alike : (p : Port) (o : Op) → AgreesAt p o → Alike (chip_of p) (device_does p o) (chip_does (chip_of p) o)
alike p o a = a.alike

same : (p : Port) (o : Op) → AgreesAt p o → chip_of (device_does p o).port ≡ (chip_does (chip_of p) o).chip
same p o a = a.next

-- Over runs: all calls of a run look alike, or it meets a first row and looks alike up to it.
pub runs : (p : Port) → Sound p → (os : List Op) → SameRun pair p (chip_of p) os ⊎ Meets pair p (chip_of p) os
runs = sidebyside.runs pair Sound AgreesAt alike same keeps complete (λ p k. real p)

-- A run without a row looks alike from beginning to end.
pub row_free : (p : Port) → Sound p → (os : List Op) → RowFree pair p os → SameRun pair p (chip_of p) os
row_free = sidebyside.row_free pair Sound AgreesAt alike same keeps complete (λ p k. real p)

-- In the row of the burst too the port after the write is, on the chip, the chip after it: the rise is missed and nothing else, and the run
-- goes on from there.
pub thr_in_step : (p : Port) → Sound p → (v : ℕ) → is_open p ≡ false → (in_loop p ≡ true → length p.waiting < 16)
    → chip_of (device_does p (write 0 v)).port ≡ (chip_does (chip_of p) (write 0 v)).chip
unfolding device_does chip_does chip_of addressed register_at device.write_register write_register
thr_in_step p k v closed few = rw closed (thr_next p v k _ refl few)

-- From reset: the fresh device is the chip, with CTS, DSR and DCD on at its pins, after a master reset and the writes of `set_up`.
pub from_reset : (c : Chip) → c.modem.pins ≡ 0x0b → (size : ℕ) → chip_of (fresh size) ≡ chip_after pair (master_reset c) set_up
unfolding chip_of chip_does master_reset register_at write_register write_ier write_fcr trigger_level write_mcr inputs changed
from_reset c pins size = rw pins
