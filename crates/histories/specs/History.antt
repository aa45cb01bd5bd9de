-- A port that its host saves and restores while it runs: which operations still count.
use Rattle.std.specs.Prelude.{ℕ, suc, ◌≡◌, Bool, true, cond, List, [], ◌∷◌, ◌++◌, get_or}
use Rattle.serial.specs.Port.{Port, line}
use Rattle.runs.specs.Run.{Op, Answer, raises_of, step}
use Rattle.serial_saved.specs.Saved.{fits, restore_of}

-- What a host does: an operation of a run; it saves the port and keeps that; it restores one that it kept, 0 the last, 1 the one before; it
-- restores one that was saved elsewhere.
pub data Deed : Type 0 where
  does : Op → Deed
  save : Deed
  restore : ℕ → Deed
  bring : Port → Deed

-- A port, and its history: the port with which it began, the operations since, and what they answered.
pub record Standing : Type 0 where
  pub port : Port
  pub origin : Port
  pub ops : List Op
  pub answers : List Answer

abbrev pub begins : Port → Standing
begins p = record { port = p; origin = p; ops = []; answers = [] }

abbrev pub goes_on : Standing → Op → Standing
goes_on s o =
    let d = step s.port o in
    record { port = d.port; origin = s.origin; ops = s.ops ++ o ∷ []; answers = s.answers ++ d.answer ∷ [] }

-- What is restored has its own history. Where more bytes wait than there is room for it is refused, and all stays.
unfoldable pub back_to : Standing → Standing → Standing
back_to here saved = cond (fits saved.port) saved here

-- The port as it stands, and what the host kept, the last first.
pub record Host : Type 0 where
  pub here : Standing
  pub kept : List Standing

abbrev pub starts : Port → Host
starts p = record { here = begins p; kept = [] }

-- Where so many were not kept, nothing happens.
abbrev pub next : Host → Deed → Host
next h (does o) = record { here = goes_on h.here o; kept = h.kept }
next h save = record { here = h.here; kept = h.here ∷ h.kept }
next h (restore n) = record { here = back_to h.here (get_or h.kept n h.here); kept = h.kept }
next h (bring p) = record { here = back_to h.here (begins p); kept = h.kept }

unfoldable pub after : Host → List Deed → Host
after h [] = h
after h (d ∷ ds) = after (next h d) ds

-- How many ports the host keeps by these deeds.
abbrev pub saves_in : List Deed → ℕ
saves_in [] = 0
saves_in (does o ∷ ds) = saves_in ds
saves_in (save ∷ ds) = suc (saves_in ds)
saves_in (restore n ∷ ds) = saves_in ds
saves_in (bring p ∷ ds) = saves_in ds

-- Whatever comes from outside has a property: the operations, and the ports from elsewhere, where they are not refused.
abbrev pub Each : (Op → Type 0) → (Port → Type 0) → List Deed → Type 0
Each O P [] = Unit {0}
Each O P (does o ∷ ds) = O o × Each O P ds
Each O P (save ∷ ds) = Each O P ds
Each O P (restore n ∷ ds) = Each O P ds
Each O P (bring p ∷ ds) = (fits p ≡ true → P p) × Each O P ds

-- ---- The interrupt line along it

abbrev pub line_here : Host → Bool
line_here h = line h.here.port

-- How often a deed raises.
abbrev pub raises_by : Host → Deed → ℕ
raises_by h (does o) = raises_of (step h.here.port o).answer
raises_by h save = 0
raises_by h (restore n) = (restore_of h.here.port (get_or h.kept n h.here).port).raises
raises_by h (bring p) = (restore_of h.here.port p).raises
