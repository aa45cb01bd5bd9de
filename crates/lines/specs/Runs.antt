-- A whole run between reading and writing, turn by turn, each call as its contract promises.
use Rattle.std.specs.Prelude.{ℕ, ◌≡◌, true, false, List, [], ◌++◌}
use Rattle.pieces.specs.Pieces.{Sound, Answered, Fills, start_of}
use Rattle.pieces.specs.declared.State.{State}
use Rattle.lines.specs.Answering.{First}
use Rattle.lines.specs.Inside.{Turns}
use Rattle.lines.specs.declared.Turn.{Turn}
use Rattle.lines.specs.declared.devices.Devices.{Devices}

-- What `answer` promises.
pub record Answering (held : List ℕ) (s : State) (w : Devices) (out out' : List ℕ) (t : Turn) : Type 0 where
  pub sound : Sound t.state
  pub answered : Answered t.state
  pub turns : Turns held s w out out' t.state t.devices

-- `input` was read and `written` written, up to what waits in `out`. A turn writes what waits. Then, unless lines wait, more is read or the
-- input ends; and lines are answered.
pub data Runs : List ℕ → List ℕ → List ℕ → List ℕ → Turn → Type 0 where
  begun : {held : List ℕ} {t : Turn} → First t.devices → t.state ≡ start_of → Runs [] [] held [] t
  again : {input written held out out' : List ℕ} {t t' : Turn} → Runs input written held out t → t.state.full ≡ true
      → Answering held t.state t.devices [] out' t'
      → Runs input (written ++ out) held out' t'
  more : {input written bytes held held' out out' : List ℕ} {s : State} {t t' : Turn} → Runs input written held out t
      → t.state.full ≡ false
      → t.state.ended ≡ false
      → Fills held t.state bytes held' s
      → Answering held' s t.devices [] out' t'
      → Runs (input ++ bytes) (written ++ out) held' out' t'

-- Some run comes to what is held, to what waits and to this turn.
pub record Ran (held out : List ℕ) (t : Turn) : Type 0 where
  pub input : List ℕ
  pub written : List ℕ
  pub runs : Runs input written held out t

-- Some run, of some input, comes to this turn, with these answers in `out`; one of no turn is a run too.
pub record Left (out : List ℕ) (t : Turn) : Type 0 where
  pub held : List ℕ
  pub ran : Ran held out t
