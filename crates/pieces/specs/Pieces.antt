-- Where the reading stands: places within the block; and what is held after more was read.
use Rattle.std.specs.Prelude.{ℕ, ◌+◌, ◌≤◌, ◌<◌, true, false, ◌≡◌, List, [], length}
use Rattle.words.specs.Put.{Puts}
use Rattle.pieces.specs.Cutting.{longest, bytes_from}
use Rattle.pieces.specs.Inside.{Settles, Closes}
use Rattle.pieces.specs.declared.State.{State}

-- The current line starts at `from`, and no newline stands between there and `seen`: so much of it is short. `end` bytes are held.
pub record Sound (s : State) : Type 0 where
  pub started : s.from ≤ s.seen
  pub short : s.seen ≤ s.from + 8192
  pub searched : s.seen ≤ s.end
  pub held : s.end ≤ 65536

-- Unless the answers are full, all that is held is searched.
pub record Answered (s : State) : Type 0 where
  pub all : s.full ≡ false → s.seen ≡ s.end

-- `line` is what has come of the current line. It is held from its start to where it is searched; where the line was too long that is only
-- its rest.
pub record Stands (held : List ℕ) (s : State) (line : List ℕ) : Type 0 where
  pub whole : s.passes ≡ false → line ≡ bytes_from s.from s.seen held
  pub long : s.passes ≡ true → longest < length line

-- ---- Between two reads

abbrev pub start_of : State
start_of = record { from = 0; seen = 0; end = 0; ended = false; passes = false; full = false }

abbrev pub came_of : State → ℕ → State
came_of s count =
    record { from = s.from; seen = s.seen; end = s.end + count; ended = s.ended; passes = s.passes; full = s.full }

-- The current line was moved to the front of the block of 65,536 bytes. Then `bytes` were read behind it, or the input has ended.
pub data Fills (held : List ℕ) (s : State) : List ℕ → List ℕ → State → Type 0 where
  read : {bytes held' held'' : List ℕ} {s' : State} → Settles held s held' s' → length held' ≡ 65536
      → Puts held' s'.end bytes held'' (s'.end + length bytes)
      → Fills held s bytes held'' (came_of s' (length bytes))
  ended_here : {held' held'' : List ℕ} {s' s'' : State} → Settles held s held' s' → length held' ≡ 65536 → Closes held' s' held'' s''
      → Fills held s [] held'' s''
