-- What the guest is told: which kinds of interrupt are active, when the interrupt is raised, and what a handler finds.
use Rattle.std.specs.Prelude.{ℕ, zero, suc, ◌+◌, ◌≤◌, ◌≡◌, Bool, true, false, cond, List, [], ◌∷◌, length, eqb}
use Rattle.interrupts.specs.Interrupts.{Kind, received_data, transmitter_empty, is_enabled, newly}
use Rattle.serial.specs.Port.{Port, active, read_of}
use Rattle.runs.specs.Run.{Op, raises_of, step}

abbrev pub enabled : Port → Kind → Bool
enabled p kind = is_enabled p.settings.ier kind

-- ---- How often a call raises

-- From one port to another: once for each kind that is active in the second and was not in the first.
abbrev pub raised_from : Port → Port → ℕ
raised_from p q = newly (active p received_data) (active q received_data) + newly (active p transmitter_empty) (active q transmitter_empty)

-- ---- Raised since

-- Whatever goes on deed by deed and raises: a port with its operations, or a host with what it does.
abbrev pub ends_in : {State Deed : Type 0} → (State → Deed → State) → State → List Deed → State
ends_in next s [] = s
ends_in next s (d ∷ ds) = ends_in next (next s d) ds

module _ {State Deed : Type 0} (next : State → Deed → State) (raises : State → Deed → ℕ) (f : State → Bool) where
  -- Something is so from here on, up to the end: the line is high, say, or a kind is active.
  unfoldable pub Stays : State → List Deed → Type 0
  Stays s [] = f s ≡ true
  Stays s (d ∷ ds) = (f s ≡ true) × Stays (next s d) ds

  -- The interrupt was raised since it last was not so: some deed found it not so and raised, and from then on it is so up to the end.
  pub data RaisedSince : State → List Deed → Type 0 where
    now : {s : State} {d : Deed} {ds : List Deed} → f s ≡ false → 1 ≤ raises s d → Stays (next s d) ds → RaisedSince s (d ∷ ds)
    later : {s : State} {d : Deed} {ds : List Deed} → RaisedSince (next s d) ds → RaisedSince s (d ∷ ds)

-- A port with its operations.
abbrev pub port_next : Port → Op → Port
port_next p o = (step p o).port

abbrev pub port_raises : Port → Op → ℕ
port_raises p o = raises_of (step p o).answer

-- ---- A handler that does what it is told

-- It reads IIR. Where that says received data it fetches a byte from RBR and goes on; where it says the empty transmitter it has nothing to
-- send and goes on; where it says none it ends. It gives up after so many rounds.
pub record Served : Type 0 where
  pub port : Port
  pub fetched : List ℕ

abbrev pub fetching : ℕ → Served → Served
fetching byte s = record { port = s.port; fetched = byte ∷ s.fetched }

unfoldable pub serve : ℕ → Port → Served
serve zero p = record { port = p; fetched = [] }
serve (suc rounds) p =
    let told = read_of p 2 in
    let byte = read_of told.port 0 in
    cond (eqb told.reply 0xc4) (fetching byte.reply (serve rounds byte.port))
    (cond (eqb told.reply 0xc2) (serve rounds told.port)
    (record { port = told.port; fetched = [] }))

-- How many rounds there are for it: one for each byte that waits, if received data is enabled, and one for the transmitter, if that is
-- active.
abbrev pub rounds : Port → ℕ
rounds p = cond (enabled p received_data) (length p.waiting) 0 + cond (active p transmitter_empty) 1 0
