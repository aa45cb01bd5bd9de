-- What the functions of the code promise each other: premises of `answers_all` that their contracts meet. `AnswersInput` does without them.
use Rattle.std.specs.Prelude.{ℕ, ◌≤◌, ◌≡◌, List, ◌++◌}
use Rattle.pieces.specs.Cutting.{bytes_from}
use Rattle.pieces.specs.Pieces.{Stands}
use Rattle.pieces.specs.declared.State.{State}
use Rattle.lines.specs.Answering.{Reads, told_of}
use Rattle.lines.specs.declared.devices.Devices.{Devices}

-- From one place in what is held to another, `said` is said.
pub record Goes (held : List ℕ) (s : State) (w : Devices) (line said : List ℕ) (s' : State) (w' : Devices) : Type 0 where
  pub line' : List ℕ
  pub stands : Stands held s' line'
  pub reads : Reads w line (told_of s.passes line) (bytes_from s.seen s'.seen held) said w' line' (told_of s'.passes line')

-- A turn: what is held is read on, and what is said is put behind what waited.
pub record Turns (held : List ℕ) (s : State) (w : Devices) (out out' : List ℕ) (s' : State) (w' : Devices) : Type 0 where
  pub said : List ℕ
  pub puts : out' ≡ out ++ said
  pub goes : (line : List ℕ) → Stands held s line → Goes held s w line said s' w'
  pub onward : s.seen ≤ s'.seen
  pub end : s'.end ≡ s.end
  pub ended : s'.ended ≡ s.ended
