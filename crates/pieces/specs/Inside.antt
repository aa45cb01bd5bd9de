-- What the functions of the cutting promise each other: premises of `answers_all` that their contracts meet.
use Rattle.std.specs.Prelude.{ℕ, ◌+◌, ◌-◌, ◌≤◌, ◌<◌, true, ◌≡◌, List, [], ◌∷◌, take}
use Rattle.words.specs.Put.{Puts}
use Rattle.pieces.specs.Cutting.{bytes_from}
use Rattle.pieces.specs.declared.State.{State}
use Rattle.pieces.specs.declared.cut.Cut.{Cut}

-- The line that starts at `from` ends within what is held, and more of that is searched than was before. What is searched of the next
-- one is short.
pub record Cuts (from seen end : ℕ) (r : Cut) : Type 0 where
  pub starts : from ≤ r.stop
  pub stops : r.stop ≤ end
  pub goes_on : seen < r.seen
  pub searched : r.seen ≤ end
  pub started : r.from ≤ r.seen
  pub short : r.seen ≤ r.from + 8192

abbrev pub settle_of : State → State
settle_of s =
    let count = s.end - s.from in
    record { from = 0; seen = count; end = count; ended = s.ended; passes = s.passes; full = s.full }

abbrev pub close_of : State → State
close_of s =
    record { from = s.from; seen = s.seen; end = s.end + 1; ended = true; passes = s.passes; full = s.full }

-- What is held of the current line stands in front, and nothing else is held.
pub record Settles (held : List ℕ) (s : State) (held' : List ℕ) (r : State) : Type 0 where
  pub line : take r.end held' ≡ bytes_from s.from s.end held
  pub place : r ≡ settle_of s

-- The input has ended: a newline stands behind what is held.
pub record Closes (held : List ℕ) (s : State) (held' : List ℕ) (r : State) : Type 0 where
  pub line : Puts held s.end (0x0a ∷ []) held' r.end
  pub place : r ≡ close_of s
