-- Bytes that come over the line: the input agrees with the chip or is in the row of the overrun, and there it does not agree.
use mathlib.Core.Path.{◌≡◌, refl, sym, ap, subst, ◌∙◌}
use mathlib.Core.Logic.{◌⊎◌, inl, inr}
use mathlib.Core.List.{List, [], ◌∷◌, ◌++◌, append_assoc, append-nil}
use mathlib.Core.Bool.{Bool, true, false, ◌||◌, false≢true}
use Prim.Native.Nat.{ℕ, ◌+◌, ◌≤◌, ◌<◌, min}
use native.Mathlib.Omega.{arith}
use native.Mathlib.Decide.{dec_lt}
use native.Mathlib.Nat.{add-zero}
use lib.ListN.{length, take, length-append}
use lib.Dec.{ltb}
use lib.Seq.{take_all}
use borrow.Author.Tests.{ne_eqb, lt-ltb, le-ltb}
use Rattle.common.specs.Lists.{some}
use Rattle.interrupts.specs.Interrupts.{received_data, transmitter_empty, is_high, newly}
use Rattle.interrupts.proofs.Laws.{newly_same}
use Rattle.serial.specs.Port.{Port, active, in_loop, input_of}
use Rattle.serial.specs.Port as device
use Rattle.pc16550d.specs.Chip.{Chip, Receiver, holding, depth, arrives, arrive_all, from_line}
use Rattle.pc16550d.specs.Compare.{fed, chip_of, enables, Sound, Agrees, Row, receives, serial_line_overrun}
use Rattle.pc16550d.proofs.Agreement.{Signal, agrees, each_raised, quietly}
use Rattle.pc16550d.proofs.Reading.{loop_kept}
use Rattle.pc16550d.proofs.Receiving.{received}

abbrev pub InputAgrees : Port → List ℕ → Type 0
InputAgrees p bytes = Agrees (chip_of p) (fed (input_of p bytes)) (from_line (chip_of p) bytes)

-- ---- The chip's FIFO

-- A byte that fits waits behind the others; one that does not is an overrun.
fits : (r : Receiver) (x : ℕ) → r.fifos ≡ true → length r.waiting < 16 → arrives r x ≡ holding r (r.waiting ++ (x ∷ [])) r.overrun
unfolding arrives
fits r x f h = rw (f, lt-ltb (length r.waiting) 16 h)

lost : (r : Receiver) (x : ℕ) → r.fifos ≡ true → 16 ≤ length r.waiting → (arrives r x).overrun ≡ true
unfolding arrives
lost r x f h = rw (f, le-ltb (length r.waiting) 16 h)

all_fit : (r : Receiver) (xs : List ℕ) → r.fifos ≡ true → length r.waiting + length xs ≤ 16
    → arrive_all r xs ≡ holding r (r.waiting ++ xs) r.overrun
unfolding arrive_all
all_fit r [] f h = ap (λ (w : List ℕ). holding r w r.overrun) (sym (append-nil r.waiting))
all_fit r (x ∷ xs) f h =
    let next : Receiver = holding r (r.waiting ++ (x ∷ [])) r.overrun in
    ap (λ (s : Receiver). arrive_all s xs) (fits r x f (omega arith))
    ∙ all_fit next xs f (simp length-append (omega arith))
    ∙ ap (λ (w : List ℕ). holding r w r.overrun) (append_assoc r.waiting (x ∷ []) xs)

-- An overrun stays until LSR is read.
stays : (r : Receiver) (x : ℕ) (t : Bool) → ltb (length r.waiting) (depth r) ≡ t → r.overrun ≡ true → (arrives r x).overrun ≡ true
unfolding arrives
stays r x true h e = rw h e
stays r x false h e = rw h

all_stay : (r : Receiver) (xs : List ℕ) → r.overrun ≡ true → (arrive_all r xs).overrun ≡ true
unfolding arrive_all
all_stay r [] e = e
all_stay r (x ∷ xs) e = all_stay (arrives r x) xs (stays r x _ refl e)

loses : (r : Receiver) (x : ℕ) (xs : List ℕ) → r.fifos ≡ true → 16 ≤ length r.waiting + length xs → (arrive_all r (x ∷ xs)).overrun ≡ true
unfolding arrive_all
loses r x [] f h = lost r x f (omega arith)
loses r x (y ∷ ys) f h = go (loses (holding r (r.waiting ++ (x ∷ [])) r.overrun) y ys f) (dec_lt (length r.waiting) 16)
  where
    go : (16 ≤ length (r.waiting ++ (x ∷ [])) + length ys → (arrive_all (holding r (r.waiting ++ (x ∷ [])) r.overrun) (y ∷ ys)).overrun ≡ true)
        → Dec (length r.waiting < 16) → (arrive_all r (x ∷ y ∷ ys)).overrun ≡ true
    go again (no n) = all_stay (arrives r x) (y ∷ ys) (lost r x f (omega arith))
    go again (yes l) = ap (λ (s : Receiver). (arrive_all s (y ∷ ys)).overrun) (fits r x f l) ∙ again (simp length-append (omega arith))

-- ---- Both
-- r, t: received data and the transmitter's interrupt before it; e: received data is enabled.
data_raised : (r e t : Bool) → Signal (r || t) (e || t) (newly r e)
data_raised r e t = subst (Signal (r || t) (e || t)) (rw (newly_same t) (add-zero _)) (each_raised e t r t)

line_agrees : (p : Port) (x : ℕ) (xs : List ℕ) → Sound p → in_loop p ≡ false → length p.waiting + length (x ∷ xs) ≤ 16
    → InputAgrees p (x ∷ xs)
unfolding chip_of input_of from_line is_high
line_agrees p x xs k l h =
    let r = received p x xs in
    let s = k.size in
    let d = active p received_data in
    let t = active p transmitter_empty in
    let all : take (min (device.room_of p) (length (x ∷ xs))) (x ∷ xs) ≡ x ∷ xs = take_all (min (device.room_of p) (length (x ∷ xs))) (x ∷ xs) (omega arith) in
    let none_lost = all_fit (chip_of p).receiver (x ∷ xs) refl h in
    simp (loop_kept, l, none_lost, lt-ltb (length p.waiting) p.size (omega arith), ne_eqb (length (x ∷ xs)) 0 (omega arith), all)
    (agrees p (omega arith) refl r.next (rw (r.level, r.raised) (data_raised d (enables p received_data) t)))

line_input : (p : Port) (bytes : List ℕ) → Sound p → (l : Bool) → in_loop p ≡ l → InputAgrees p bytes ⊎ Row p (receives bytes)
unfolding chip_of input_of from_line arrive_all
line_input p bytes k true l = inl (rw (loop_kept, l) (quietly p refl refl refl))
line_input p [] k false l = inl (rw (loop_kept, l) (quietly p refl refl refl))
line_input p (x ∷ xs) k false l = go (dec_lt 16 (length p.waiting + length (x ∷ xs)))
  where
    go : Dec (16 < length p.waiting + length (x ∷ xs)) → InputAgrees p (x ∷ xs) ⊎ Row p (receives (x ∷ xs))
    go (yes h) = inr (serial_line_overrun l refl h)
    go (no h) = inl (line_agrees p x xs k l (omega arith))

-- Every input agrees or is in the row.
pub input_complete : (p : Port) → Sound p → (bytes : List ℕ) → InputAgrees p bytes ⊎ Row p (receives bytes)
input_complete p k bytes = line_input p bytes k _ refl

-- In the row it does not agree: the chip says "overrun".
overrun_differs : (p : Port) (bytes : List ℕ) → in_loop p ≡ false → some bytes ≡ true → 16 < length p.waiting + length bytes
    → InputAgrees p bytes → ⊥
unfolding chip_of input_of from_line
overrun_differs p [] l s h r = false≢true s
overrun_differs p (x ∷ xs) l s h r =
    false≢true (ap (λ (c : Chip). c.receiver.overrun) (rw (loop_kept, l) at r.next) ∙ loses (chip_of p).receiver x xs refl (omega arith))

pub input_real : (p : Port) (bytes : List ℕ) → Row p (receives bytes) → InputAgrees p bytes → ⊥
input_real p bytes (serial_line_overrun l s h) r = overrun_differs p bytes l s h r
