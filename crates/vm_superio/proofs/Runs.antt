-- Whole runs of the two, each going on from its own state: what is the same for ever, and that the rows are exact at every call.
use mathlib.Core.Path.{refl}
use mathlib.Core.List.{List, [], ◌∷◌}
use Prim.Native.Nat.{ℕ}
use Rattle.serial.specs.Port.{Port, fresh}
use Rattle.runs.specs.Run.{Op, step, run}
use Rattle.vm_superio.specs.Original.{Original}
use Rattle.vm_superio.specs.Original as original
use Rattle.vm_superio.specs.Beside.{restored, next, run_beside, Beside, SameRun, ExactRun}
use Rattle.vm_superio.proofs.Twins.{fresh_beside, restored_beside}
use Rattle.vm_superio.proofs.Keeping.{kept}
use Rattle.vm_superio.proofs.Exact.{exact}

-- Every run keeps the pair beside.
pub beside_for_ever : (p : Port) (q : Original) → Beside p q → (os : List Op) → Beside (run p os).port (run_beside q os).original
unfolding run run_beside
beside_for_ever p q b [] = b
beside_for_ever p q b (o ∷ os) = beside_for_ever (step p o).port (next q o) (kept b o).beside os

-- Everything but IIR's reply and the number of raises is the same for ever.
pub same_for_ever : (p : Port) (q : Original) → Beside p q → (os : List Op) → SameRun p q os
unfolding run run_beside
same_for_ever p q b [] = record { same = b.same; answers = refl }
same_for_ever p q b (o ∷ os) =
    let k = kept b o in
    let more = same_for_ever (step p o).port (next q o) k.beside os in
    record { same = more.same; answers = rw (k.common, more.answers) refl }

-- Each call of a run agrees or is in a row, and not both.
pub exact_for_ever : (p : Port) (q : Original) → Beside p q → (os : List Op) → ExactRun p q os
exact_for_ever p q b [] = tt
exact_for_ever p q b (o ∷ os) = (exact b o, exact_for_ever (step p o).port (next q o) (kept b o).beside os)

-- ---- From where runs begin: both fresh, and both restored from one saved state

pub same_from_fresh : (size : ℕ) (os : List Op) → SameRun (fresh size) (original.fresh size) os
same_from_fresh size os = same_for_ever (fresh size) (original.fresh size) (fresh_beside size) os

pub exact_from_fresh : (size : ℕ) (os : List Op) → ExactRun (fresh size) (original.fresh size) os
exact_from_fresh size os = exact_for_ever (fresh size) (original.fresh size) (fresh_beside size) os

pub same_from_restored : (p : Port) (os : List Op) → SameRun p (restored p) os
same_from_restored p os = same_for_ever p (restored p) (restored_beside p) os

pub exact_from_restored : (p : Port) (os : List Op) → ExactRun p (restored p) os
exact_from_restored p os = exact_for_ever p (restored p) (restored_beside p) os
