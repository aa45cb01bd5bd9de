-- What runs of the original reach from fresh: IIR is one of four, and received data is marked only while a byte waits.
use mathlib.Core.Path.{◌≡◌, refl, sym, ap, subst, ◌∙◌}
use mathlib.Core.List.{List, [], ◌∷◌, ◌++◌}
use mathlib.Core.Bool.{Bool, true, false, cond, not, ◌&&◌, false≢true}
use Prim.Native.Nat.{ℕ, zero, suc, ◌<◌, min}
use native.Mathlib.Omega.{arith}
use lib.ListN.{length, take}
use lib.Dec.{eqb}
use borrow.Author.Tests.{eqb-false, ltb-true}
use Rattle.common.specs.Lists.{some}
use Rattle.interrupts.specs.Interrupts as interrupts
use Rattle.line_status.specs.LineStatus.{lsr_after_read}
use Rattle.serial.specs.Port.{Register, RBR_THR, IER, IIR_FCR, LCR, MCR, LSR, MSR, SCR, DLL, DLM, reserved, addressed}
use Rattle.serial.specs.Port as serial
use Rattle.runs.specs.Run.{Op, read, write, input, room}
use Rattle.runs.specs.Run as runs
use Rattle.runs.specs.Reached.{AllOfBytes}
use Rattle.runs.proofs.Reachable.{all_reachable}
use Rattle.vm_superio.specs.Original.{Original, fresh, is_open, in_loop, is_room, room_of, received_data, transmitter_empty, is_marked}
use Rattle.vm_superio.specs.Original.{is_due, mark, unmark}
use Rattle.vm_superio.specs.Original.{Announced, announce, enabling, ier_stored, iir_read, read_rbr, read_register, receives, write_line}
use Rattle.vm_superio.specs.Original.{write_ier, write_register}
use Rattle.vm_superio.specs.Original.{Out, Did, input_of, step, run}
use Rattle.vm_superio.specs.Beside.{is_strange, enables, data_quiet, is_to_empty, run_beside, with_fetching}
use Rattle.vm_superio.proofs.Draining.{run_fetching}
use Rattle.vm_superio.proofs.Runs.{same_from_fresh}

-- IIR as it is stored, and whether a byte waits.
pub data Sound : ℕ → Bool → Type 0 where
  none : {w : Bool} → Sound 0x01 w
  transmitter : {w : Bool} → Sound 0x02 w
  received : Sound 0x04 true
  both : Sound 0x06 true

-- ---- Marks

more_wait : {iir : ℕ} {w : Bool} → Sound iir w → Sound iir true
more_wait none = none
more_wait transmitter = transmitter
more_wait received = received
more_wait both = both

data_marked : {iir : ℕ} {w : Bool} → Sound iir w → Sound (mark iir received_data) true
unfolding mark
data_marked none = received
data_marked transmitter = both
data_marked received = received
data_marked both = both

transmitter_marked : {iir : ℕ} {w : Bool} → Sound iir w → Sound (mark iir transmitter_empty) w
unfolding mark
transmitter_marked none = transmitter
transmitter_marked transmitter = transmitter
transmitter_marked received = both
transmitter_marked both = both

data_unmarked : {iir : ℕ} {w : Bool} (left : Bool) → Sound iir w → Sound (unmark iir received_data) left
unfolding unmark
data_unmarked left none = none
data_unmarked left transmitter = transmitter
data_unmarked left received = none
data_unmarked left both = transmitter

by_test : {A : Type 0} (P : A → Type 0) (t : Bool) {a b : A} → (t ≡ true → P a) → (t ≡ false → P b) → P (cond t a b)
by_test P true f g = f refl
by_test P false f g = g refl

data_announced : {iir : ℕ} {w : Bool} (ier : ℕ) → Sound iir w → Sound (announce ier iir received_data).iir true
unfolding announce
data_announced {iir} ier s = by_test (λ (a : Announced). Sound a.iir true) (is_due ier iir received_data) (λ d. data_marked s) (λ d. more_wait s)

transmitter_announced : {iir : ℕ} {w : Bool} (ier : ℕ) → Sound iir w → Sound (announce ier iir transmitter_empty).iir w
unfolding announce
transmitter_announced {iir} {w} ier s =
    by_test (λ (a : Announced). Sound a.iir w) (is_due ier iir transmitter_empty) (λ d. transmitter_marked s) (λ d. s)

both_announced : (ier iir : ℕ) (w : Bool) → Sound iir w → Sound (enabling ier iir w).iir w
both_announced ier iir true s = transmitter_announced ier (data_announced ier s)
both_announced ier iir false s = transmitter_announced ier s

-- ---- Every call

abbrev pub Reached : Original → Type 0
Reached q = Sound q.iir (some q.waiting)

some_more : (l : List ℕ) (x : ℕ) (xs : List ℕ) → some (l ++ (x ∷ xs)) ≡ true
some_more [] x xs = refl
some_more (y ∷ l) x xs = refl

some_taken : (l : List ℕ) (n : ℕ) (bytes : List ℕ) → 0 < n → 0 < length bytes → some (l ++ take n bytes) ≡ true
some_taken l zero bytes h i = absurd (omega arith)
some_taken l (suc n) [] h i = absurd (omega arith)
some_taken l (suc n) (x ∷ xs) h i = some_more l x (take n xs)

module _ (q : Original) (s : Reached q) where
  receives_reached : (bytes : List ℕ) → some (q.waiting ++ bytes) ≡ true → Reached (receives q bytes).original
  unfolding receives
  receives_reached bytes w =
      subst (λ (t : Bool). Sound (announce q.settings.ier q.iir received_data).iir t) (sym w) (data_announced q.settings.ier s)

  read_reached : (r : Register) → Reached (read_register q r).original
  unfolding read_register read_rbr
  read_reached RBR_THR = data_unmarked _ s
  read_reached IER = s
  read_reached IIR_FCR = none
  read_reached LCR = s
  read_reached MCR = s
  read_reached LSR = s
  read_reached MSR = s
  read_reached SCR = s
  read_reached DLL = s
  read_reached DLM = s
  read_reached reserved = s

  write_reached : (r : Register) (v : ℕ) → Reached (write_register q r v).original
  unfolding write_register write_line write_ier
  write_reached RBR_THR v =
      let R : Out → Type 0 = λ o. Reached o.original in
      by_test R (in_loop q) (λ l. by_test R (is_room q) (λ h. receives_reached (v ∷ []) (some_more q.waiting v [])) (λ h. s))
      (λ l. transmitter_announced q.settings.ier s)
  write_reached IER v = both_announced (ier_stored v) q.iir (some q.waiting) s
  write_reached IIR_FCR v = s
  write_reached LCR v = s
  write_reached MCR v = s
  write_reached LSR v = s
  write_reached MSR v = s
  write_reached SCR v = s
  write_reached DLL v = s
  write_reached DLM v = s
  write_reached reserved v = s

  input_reached : (bytes : List ℕ) → Reached (input_of q bytes).original
  unfolding input_of
  input_reached bytes =
      let R : Did → Type 0 = λ d. Reached d.original in
      by_test R (in_loop q) (λ l. s)
      (λ l. by_test R (eqb (length bytes) 0) (λ e. s)
      (λ e. by_test R (is_room q)
      (λ h.
      let n = eqb-false (length bytes) 0 e in
      let r = ltb-true (length q.waiting) q.size h in
      let count = min (room_of q) (length bytes) in
      receives_reached (take count bytes) (some_taken q.waiting count bytes (omega arith) (omega arith)))
      (λ h. s)))

  step_reached : (o : Op) → Reached (step q o).original
  unfolding step
  step_reached (read offset) = read_reached (addressed (is_open q) offset)
  step_reached (write offset v) = write_reached (addressed (is_open q) offset) v
  step_reached (input bytes) = input_reached bytes
  step_reached room = s

run_reached : (q : Original) → Reached q → (os : List Op) → Reached (run q os).original
unfolding run
run_reached q s [] = s
run_reached q s (o ∷ os) = run_reached (step q o).original (step_reached q s o) os

pub all_reached : (size : ℕ) (os : List Op) → Reached (run (fresh size) os).original
all_reached size os = run_reached (fresh size) none os

-- Beside ours too: what waits there is fetched by reads.
beside_reached : (size : ℕ) (os : List Op) → Reached (run_beside (fresh size) os).original
beside_reached size os = subst Reached (run_fetching (fresh size) os) (all_reached size (with_fetching (fresh size) os))

-- ---- What that says

pub marked_waits : {iir : ℕ} {w : Bool} → Sound iir w → is_marked iir received_data ≡ true → w ≡ true
marked_waits none m = absurd (false≢true m)
marked_waits transmitter m = absurd (false≢true m)
marked_waits received m = refl
marked_waits both m = refl

ordinary : {iir : ℕ} {w : Bool} → Sound iir w → is_strange iir ≡ false
unfolding iir_read
ordinary none = refl
ordinary transmitter = refl
ordinary received = refl
ordinary both = refl

-- No run from fresh meets the three rows that are shown from a restored state.
pub never_strange : (size : ℕ) (os : List Op) → is_strange (run_beside (fresh size) os).original.iir ≡ false
never_strange size os = ordinary (beside_reached size os)

-- Nor the one of FCR where no byte waits: something is to empty exactly where one does.
only_bytes : (w : List ℕ) (lsr : ℕ) → lsr ≡ cond (some w) 0x61 0x60 → is_to_empty w lsr ≡ some w
unfolding lsr_after_read
only_bytes [] lsr e = rw e
only_bytes (x ∷ xs) lsr e = refl

pub emptied_where_waits : (size : ℕ) (os : List Op) → AllOfBytes os
    → let p = (runs.run (serial.fresh size) os).port in is_to_empty p.waiting p.lsr ≡ some p.waiting
emptied_where_waits size os h =
    let p = (runs.run (serial.fresh size) os).port in only_bytes p.waiting p.lsr (all_reachable size os h).lsr

no_quiet : (e w m : Bool) → (m ≡ true → w ≡ true) → (e && not w && m) ≡ false
no_quiet true true m h = refl
no_quiet true false true h = absurd (false≢true (h refl))
no_quiet true false false h = refl
no_quiet false w m h = refl

pub never_quiet : (size : ℕ) (os : List Op) → data_quiet (runs.run (serial.fresh size) os).port (run_beside (fresh size) os).original ≡ false
never_quiet size os =
    no_quiet (enables (runs.run (serial.fresh size) os).port interrupts.received_data) _ _
    (λ m. ap some (sym (same_from_fresh size os).same.waiting) ∙ marked_waits (beside_reached size os) m)
