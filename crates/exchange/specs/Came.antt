-- What the contracts of the reading cite.
use Rattle.std.specs.Prelude.{ℕ, ◌≡◌, true, false, List, length, take}
use Rattle.pieces.specs.Pieces.{Fills}
use Rattle.pieces.specs.declared.State.{State}

-- A read changes nothing before `end`.
pub record ReadsAfter (held : List ℕ) (end : ℕ) (held' : List ℕ) : Type 0 where
  pub before : take end held' ≡ take end held
  pub block : length held' ≡ length held

-- Some bytes were read behind what is held, or the input has ended.
pub record Filled (held : List ℕ) (s : State) (held' : List ℕ) (s' : State) : Type 0 where
  pub bytes : List ℕ
  pub fills : Fills held s bytes held' s'

-- More is read, unless lines wait; after the end of the input nothing is.
pub record Exchanged (held : List ℕ) (s : State) (held' : List ℕ) (s' : State) : Type 0 where
  pub again : s.full ≡ true → (held' ≡ held) × (s' ≡ s)
  pub more : s.full ≡ false → (s.ended ≡ false) × Filled held s held' s'
