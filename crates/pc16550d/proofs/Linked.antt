-- The ports that runs reach are sound, so the list of differences is exact on them.
use mathlib.Core.Logic.{◌⊎◌}
use mathlib.Core.Path.{◌≡◌}
use mathlib.Core.Bool.{true}
use Prim.Native.Nat.{ℕ, ◌≤◌}
use Rattle.serial.specs.Port.{Port, is_size}
use Rattle.serial.proofs.Sizes.{size_at_least}
use Rattle.runs.specs.Reachable.{Reachable}
use Rattle.pc16550d.specs.Chip.{Op}
use Rattle.pc16550d.specs.Compare.{Sound, AgreesAt, RowAt}
use Rattle.pc16550d.proofs.Exact.{complete, real}

pub reachable_sound : (size : ℕ) (p : Port) → 16 ≤ size → Reachable size p → Sound p
reachable_sound size p h r = record { lsr = r.lsr; msr = rw r.msr; size = rw r.sized h }

-- So both sentences hold of every port that some run reaches, of every size with which one is made.
pub reached_complete : (size : ℕ) (p : Port) → is_size size ≡ true → Reachable size p → (o : Op) → AgreesAt p o ⊎ RowAt p o
reached_complete size p s r o = complete p (reachable_sound size p (size_at_least size s) r) o

pub reached_real : (size : ℕ) (p : Port) → is_size size ≡ true → Reachable size p → (o : Op) → RowAt p o → AgreesAt p o → ⊥
reached_real size p s r o = real p o
