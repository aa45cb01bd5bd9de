-- A device and the chip that it stands for: runs of both, side by side and one by one.
use Rattle.std.specs.Prelude.{ℕ, ◌≡◌, List, [], ◌∷◌}
use Rattle.sidebyside.specs.Answers.{Said, says, silent, none, Answer, answers}

-- What has to be known of the two. An operation makes another state of each and has an answer; a state of the device is some state of the
-- chip; a call may look alike from outside; a call may be in a row of the list of differences.
pub record Pair : Type 1 where
  pub Device : Type 0
  pub Chip : Type 0
  pub Op : Type 0
  pub device_next : Device → Op → Device
  pub device_reply : Device → Op → Answer
  pub chip_next : Chip → Op → Chip
  pub chip_reply : Chip → Op → Said
  pub chip_of : Device → Chip
  pub Alike : Device → Chip → Op → Type 0
  pub Row : Device → Op → Type 0

module _ (x : Pair) where
  -- ---- Side by side

  -- Every call of a run looks alike: the device goes on from its own state and the chip from its own, and they are never set equal again.
  abbrev pub SameRun : x.Device → x.Chip → List x.Op → Type 0
  SameRun d c [] = Unit {0}
  SameRun d c (o ∷ os) = x.Alike d c o × SameRun (x.device_next d o) (x.chip_next c o) os

  -- A run meets a row: a call that is in one, the first of them, and the calls before it look alike. Nothing is said of the calls behind
  -- it.
  pub data Meets : x.Device → x.Chip → List x.Op → Type 0 where
    now : {d : x.Device} {c : x.Chip} {o : x.Op} {os : List x.Op} → x.Row d o → Meets d c (o ∷ os)
    later : {d : x.Device} {c : x.Chip} {o : x.Op} {os : List x.Op} → (x.Row d o → ⊥) → x.Alike d c o
        → Meets (x.device_next d o) (x.chip_next c o) os → Meets d c (o ∷ os)

  -- No call of a run is in a row.
  abbrev pub RowFree : x.Device → List x.Op → Type 0
  RowFree d [] = Unit {0}
  RowFree d (o ∷ os) = (x.Row d o → ⊥) × RowFree (x.device_next d o) os

  -- ---- One by one

  -- The states after a run.
  abbrev pub device_after : x.Device → List x.Op → x.Device
  device_after d [] = d
  device_after d (o ∷ os) = device_after (x.device_next d o) os

  abbrev pub chip_after : x.Chip → List x.Op → x.Chip
  chip_after c [] = c
  chip_after c (o ∷ os) = chip_after (x.chip_next c o) os

  -- The answer to the last call of a run.
  abbrev pub device_last : x.Device → x.Op → List x.Op → Answer
  device_last d o [] = x.device_reply d o
  device_last d o (next ∷ os) = device_last (x.device_next d o) next os

  abbrev pub chip_last : x.Chip → x.Op → List x.Op → Said
  chip_last c o [] = x.chip_reply c o
  chip_last c o (next ∷ os) = chip_last (x.chip_next c o) next os

  -- ---- A run of the chip with what the manual says to each of its operations

  -- Nothing, since there is no answer; a number; or it is silent.

  pub data Step : Type 0 where
    does : x.Op → Step
    tells : x.Op → ℕ → Step
    hushes : x.Op → Step

  abbrev pub operations : List Step → List x.Op
  operations [] = []
  operations (does o ∷ steps) = o ∷ operations steps
  operations (tells o v ∷ steps) = o ∷ operations steps
  operations (hushes o ∷ steps) = o ∷ operations steps

  abbrev pub expected : List Step → List Said
  expected [] = []
  expected (does o ∷ steps) = none ∷ expected steps
  expected (tells o v ∷ steps) = says v ∷ expected steps
  expected (hushes o ∷ steps) = silent ∷ expected steps

  abbrev pub replies : x.Chip → List x.Op → List Said
  replies c [] = []
  replies c (o ∷ os) = x.chip_reply c o ∷ replies (x.chip_next c o) os

  abbrev pub Told : x.Chip → List Step → Type 0
  Told c steps = replies c (operations steps) ≡ expected steps

  -- ---- A row, shown by a run from a state of the device

  -- After `before` the call is in a row, and to the last call of `behind`, or to the call itself where there is none, the device answers
  -- `ours` and the manual says `theirs`. The chip has run beside from the same state.
  pub record Shown (begins : x.Device) (before : List x.Op) (call : x.Op) (behind : List x.Op) (ours theirs : ℕ) : Type 0 where
    pub row : x.Row (device_after begins before) call
    pub device : device_last (device_after begins before) call behind ≡ answers ours
    pub manual : chip_last (chip_after (x.chip_of begins) before) call behind ≡ says theirs
