-- What the guest is told, over every run and from any port.
use mathlib.Core.Path.{◌≡◌, refl, sym, ap, ◌∙◌}
use mathlib.Core.Logic.{◌⊎◌, inl, inr, ⊎_elim}
use mathlib.Core.Bool.{Bool, true, false, ◌||◌, true≢false, false≢true}
use mathlib.Core.List.{List, [], ◌∷◌}
use Prim.Native.Nat.{ℕ, ◌+◌, ◌≤◌}
use native.Mathlib.Omega.{arith}
use Rattle.common.specs.Lists.{some}
use Rattle.interrupts.specs.Interrupts.{Kind, received_data, transmitter_empty, is_high, code, newly}
use Rattle.serial.specs.Port.{Port, addressed, active, line, read_register, read_of}
use Rattle.runs.specs.Run.{Op, raises_of, step, run}
use Rattle.runs.specs.Told.{enabled, ends_in, Stays, RaisedSince, now, later, port_next, port_raises}
use Rattle.runs.proofs.Raising.{raises_exactly}

-- ---- A call

-- Where the line rises, the call raises ..
rises : (a b c d : Bool) → (a || b) ≡ false → (c || d) ≡ true → 1 ≤ newly a c + newly b d
rises false false true d h k = omega arith
rises false false false true h k = omega arith
rises false false false false h k = absurd (false≢true k)
rises true b c d h k = absurd (true≢false h)
rises false true c d h k = absurd (true≢false h)

pub rise_raises : (p : Port) (o : Op) → line p ≡ false → line (step p o).port ≡ true → 1 ≤ raises_of (step p o).answer
unfolding is_high
rise_raises p o h k =
    let q = (step p o).port in
    omega (arith, raises_exactly p o, rises (active p received_data) (active p transmitter_empty) (active q received_data) (active q transmitter_empty) h k)

-- .. and where a call raises, the line is high after it.
high : (a b c d : Bool) → 1 ≤ newly a c + newly b d → (c || d) ≡ true
high a b true d h = refl
high a b false true h = refl
high true true false false h = absurd (omega arith)
high true false false false h = absurd (omega arith)
high false true false false h = absurd (omega arith)
high false false false false h = absurd (omega arith)

pub raise_high : (p : Port) (o : Op) → 1 ≤ raises_of (step p o).answer → line (step p o).port ≡ true
unfolding is_high
raise_high p o h =
    let q = (step p o).port in
    high (active p received_data) (active p transmitter_empty) (active q received_data) (active q transmitter_empty)
    (omega (arith, raises_exactly p o))

-- A kind that comes to be active is raised.
comes : (a b c d : Bool) → a ≡ false → c ≡ true → (1 ≤ newly a c + newly b d) × (1 ≤ newly b d + newly a c)
comes false b true d h k = (omega arith, omega arith)
comes true b c d h k = absurd (true≢false h)
comes false b false d h k = absurd (false≢true k)

pub active_raises : (kind : Kind) (p : Port) (o : Op) → active p kind ≡ false → active (step p o).port kind ≡ true
    → 1 ≤ raises_of (step p o).answer
active_raises received_data p o h k =
    let q = (step p o).port in
    omega (arith, raises_exactly p o, (comes (active p received_data) (active p transmitter_empty) (active q received_data) (active q transmitter_empty) h k).0)
active_raises transmitter_empty p o h k =
    let q = (step p o).port in
    omega (arith, raises_exactly p o, (comes (active p transmitter_empty) (active p received_data) (active q transmitter_empty) (active q received_data) h k).1)

-- Twice at most.
once : (a b : Bool) → newly a b ≤ 1
once true b = omega arith
once false true = omega arith
once false false = omega arith

pub at_most_twice : (p : Port) (o : Op) → raises_of (step p o).answer ≤ 2
at_most_twice p o =
    let q = (step p o).port in
    omega (arith, raises_exactly p o, once (active p received_data) (active q received_data), once (active p transmitter_empty) (active q transmitter_empty))

-- ---- Every run

module _ {State Deed : Type 0} (next : State → Deed → State) (raises : State → Deed → ℕ) (f : State → Bool)
    (rising : (s : State) (d : Deed) → f s ≡ false → f (next s d) ≡ true → 1 ≤ raises s d) where
  stays_first : (s : State) (ds : List Deed) → Stays next raises f s ds → f s ≡ true
  unfolding Stays
  stays_first s [] h = h
  stays_first s (d ∷ ds) h = h.0

  pub stays_or_raised : (s : State) (ds : List Deed) → f (ends_in next s ds) ≡ true
      → Stays next raises f s ds ⊎ RaisedSince next raises f s ds
  unfolding Stays
  stays_or_raised s [] h = inl h
  stays_or_raised s (d ∷ ds) h = go (f s) refl (stays_or_raised (next s d) ds h)
    where
      go : (m : Bool) → f s ≡ m → Stays next raises f (next s d) ds ⊎ RaisedSince next raises f (next s d) ds
          → Stays next raises f s (d ∷ ds) ⊎ RaisedSince next raises f s (d ∷ ds)
      go m e (inr t) = inr (later t)
      go true e (inl t) = inl (e, t)
      go false e (inl t) = inr (now e (rising s d e (stays_first (next s d) ds t)) t)

  pub raised_since : (s : State) (ds : List Deed) → f s ≡ false → f (ends_in next s ds) ≡ true → RaisedSince next raises f s ds
  raised_since s ds e h = ⊎_elim (λ t. absurd (false≢true (sym e ∙ stays_first s ds t))) (λ t. t) (stays_or_raised s ds h)

run_ends : (p : Port) (os : List Op) → (run p os).port ≡ ends_in port_next p os
unfolding run
run_ends p [] = refl
run_ends p (o ∷ os) = run_ends (step p o).port os

-- Whenever the line is high it was high all along, or it was raised since it was last low; so from a port where it is low, as a fresh one,
-- it was raised.
pub line_stays_or_raised : (p : Port) (os : List Op) → line (run p os).port ≡ true
    → Stays port_next port_raises line p os ⊎ RaisedSince port_next port_raises line p os
line_stays_or_raised p os h = stays_or_raised port_next port_raises line rise_raises p os (sym (ap line (run_ends p os)) ∙ h)

pub line_raised : (p : Port) (os : List Op) → line p ≡ false → line (run p os).port ≡ true → RaisedSince port_next port_raises line p os
line_raised p os e h = raised_since port_next port_raises line rise_raises p os e (sym (ap line (run_ends p os)) ∙ h)

-- The same of each kind.
pub kind_raised : (kind : Kind) (p : Port) (os : List Op) → active p kind ≡ false → active (run p os).port kind ≡ true
    → RaisedSince port_next port_raises (λ q. active q kind) p os
kind_raised kind p os e h =
    let f : Port → Bool = λ q. active q kind in
    raised_since port_next port_raises f (active_raises kind) p os e (sym (ap f (run_ends p os)) ∙ h)

-- ---- A byte that waits

-- While a byte waits and received data is enabled the line is high and IIR says so, on any port.
pub waiting_shows : (p : Port) → some p.waiting ≡ true → enabled p received_data ≡ true → (line p ≡ true) × ((read_of p 2).reply ≡ 0xc4)
unfolding is_high code addressed read_register
waiting_shows p w e = rw (w, e) (refl, refl)

-- So a guest that reads IIR until it says "none" has fetched every byte.

pub none_left : (p : Port) → (read_of p 2).reply ≡ 0xc1 → enabled p received_data ≡ true → p.waiting ≡ []
none_left p h e = empty p.waiting (λ w. (waiting_shows p w e).1)
  where
    empty : (q : List ℕ) → (some q ≡ true → (read_of p 2).reply ≡ 0xc4) → q ≡ []
    empty [] k = refl
    empty (x ∷ q) k = absurd (omega (arith, h, k refl))
