-- From single calls to runs: where every call agrees or is in a row, a run looks alike up to the first row that it meets.
use mathlib.Core.Path.{◌≡◌, subst}
use mathlib.Core.Logic.{◌⊎◌, inl, inr}
use mathlib.Core.List.{List, [], ◌∷◌}
use Prim.Native.Nat.{ℕ}
use Rattle.sidebyside.specs.Answers.{says, refuses, Fits}
use Rattle.sidebyside.specs.Runs.{Pair, SameRun, Meets, now, later, RowFree}

-- A refusal fits nothing that a manual says.
pub refusal_never_fits : (v : ℕ) → Fits refuses (says v) → ⊥
refusal_never_fits v fits = fits

-- A call agrees: it looks alike, and the device's next state is, on the chip, the chip's.
module _ (x : Pair) (Sound : x.Device → Type 0) (Agrees : x.Device → x.Op → Type 0)
    (alike : (d : x.Device) (o : x.Op) → Agrees d o → x.Alike d (x.chip_of d) o)
    (same : (d : x.Device) (o : x.Op) → Agrees d o → x.chip_of (x.device_next d o) ≡ x.chip_next (x.chip_of d) o)
    (keeps : (d : x.Device) → Sound d → (o : x.Op) → Sound (x.device_next d o))
    (complete : (d : x.Device) → Sound d → (o : x.Op) → Agrees d o ⊎ x.Row d o)
    (real : (d : x.Device) → Sound d → (o : x.Op) → x.Row d o → Agrees d o → ⊥) where
  -- All calls of a run look alike, or it meets a first row and looks alike up to it.
  pub runs : (d : x.Device) → Sound d → (os : List x.Op) → SameRun x d (x.chip_of d) os ⊎ Meets x d (x.chip_of d) os
  runs d k [] = inl tt
  runs d k (o ∷ os) = go (complete d k o) (runs (x.device_next d o) (keeps d k o) os)
    where
      next : x.Device
      next = x.device_next d o

      go : Agrees d o ⊎ x.Row d o → SameRun x next (x.chip_of next) os ⊎ Meets x next (x.chip_of next) os
          → SameRun x d (x.chip_of d) (o ∷ os) ⊎ Meets x d (x.chip_of d) (o ∷ os)
      go (inr row) rest = inr (now row)
      go (inl a) (inl run) = inl (alike d o a, subst (λ (c : x.Chip). SameRun x next c os) (same d o a) run)
      go (inl a) (inr meets) = inr (later (λ row. real d k o row a) (alike d o a) (subst (λ (c : x.Chip). Meets x next c os) (same d o a) meets))

  -- A run without a row looks alike from beginning to end.
  no_row_met : {d : x.Device} {c : x.Chip} (os : List x.Op) → RowFree x d os → Meets x d c os → ⊥
  no_row_met [] free meets = elim meets [ ]
  no_row_met (o ∷ os) free (now row) = free.0 row
  no_row_met {d = d} {c = c} (o ∷ os) free (later first alike meets) =
      no_row_met {d = x.device_next d o} {c = x.chip_next c o} os free.1 meets

  pub row_free : (d : x.Device) → Sound d → (os : List x.Op) → RowFree x d os → SameRun x d (x.chip_of d) os
  row_free d k os free = elim (runs d k os) [ inl run ↦ run | inr meets ↦ absurd (no_row_met os free meets) ]
