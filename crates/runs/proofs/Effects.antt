-- What an operation can do to a port is one of four things. Each theorem over runs goes by these cases and by induction.
use mathlib.Core.Path.{◌≡◌, refl}
use mathlib.Core.Bool.{Bool, true, false, cond, not, ◌||◌}
use mathlib.Core.List.{List, [], ◌∷◌, ◌++◌, tail}
use Prim.Native.Nat.{ℕ, zero, suc, ◌+◌, ◌≤◌, min}
use native.Mathlib.Omega.{arith}
use lib.ListN.{length, take, length-take}
use lib.Dec.{eqb}
use borrow.Author.Tests.{eqb-false, ltb-true}
use Rattle.common.specs.Bits.{on}
use Rattle.common.specs.Lists.{some, first_or0}
use Rattle.line_status.specs.LineStatus.{lsr_ready, lsr_after_read}
use Rattle.serial.specs.Port.{Register, RBR_THR, IER, IIR_FCR, LCR, MCR, LSR, MSR, SCR, DLL, DLM, reserved, addressed, Settings, Port}
use Rattle.serial.specs.Port.{is_open, in_loop, with_settings, with_receiver, Out, replies, becomes, read_rbr, read_iir, read_register}
use Rattle.serial.specs.Port.{receives, has_room, transmits, emptied, write_ier, write_line, loop_events, write_loop, put_fcr, fcr_stored, flushes, write_fcr, write_register}
use Rattle.serial.specs.Port.{Input, room_of, takes_none, takes_some, input_of}
use Rattle.runs.specs.Run.{Op, Answer, read, write, input, room, did_input, step, run}
use Rattle.runs.specs.Accepted.{accepted, delivered, gone, taken, events_of}

-- ---- The four: the port after it, the bytes accepted, whether none is left by a read or by FCR, the bytes that left. What is stored in IIR, and raised,
-- is another matter: `Raising`.

-- other settings: no byte moves and the line status stays
abbrev pub with_iir : Port → Settings → ℕ → Port
with_iir p s iir = record { settings = s; iir = iir; lsr = p.lsr; msr = p.msr; waiting = p.waiting; size = p.size }

pub data Effect (p : Port) : Port → List ℕ → Bool → List ℕ → Type 0 where
  keeps : (s : Settings) (iir : ℕ) → Effect p (with_iir p s iir) [] false []
  comes : (bytes : List ℕ) (iir : ℕ) → some bytes ≡ true → length p.waiting + length bytes ≤ p.size
      → Effect p (with_receiver p iir (lsr_ready p.lsr) (p.waiting ++ bytes)) bytes false []
  reads : Effect p (read_rbr p).port [] (not (some (tail p.waiting))) (take 1 p.waiting)
  empties : (s : Settings) (iir : ℕ)
      → Effect p (with_receiver (with_settings p s) iir (lsr_after_read false p.lsr) []) [] true p.waiting

-- ---- Reads

pub read_cases : (P : Out → Type 0) (p : Port) → P (read_rbr p) → P (read_iir p) → ((v : ℕ) → P (replies p v)) → (r : Register)
    → P (read_register p r)
unfolding read_register
read_cases P p a b c RBR_THR = a
read_cases P p a b c IER = c _
read_cases P p a b c IIR_FCR = b
read_cases P p a b c LCR = c _
read_cases P p a b c MCR = c _
read_cases P p a b c LSR = c _
read_cases P p a b c MSR = c _
read_cases P p a b c SCR = c _
read_cases P p a b c DLL = c _
read_cases P p a b c DLM = c _
read_cases P p a b c reserved = c _

-- ---- Writes

-- a byte written in the loop comes back, or is dropped
abbrev pub returned : Port → ℕ → Out
returned p v =
    let o = receives (emptied p) (v ∷ []) in
    record { port = o.port; reply = 0; sent = []; events = loop_events true; raises = (transmits p).raises + o.raises }

abbrev pub dropped : Port → Out
dropped p = record { port = emptied p; reply = 0; sent = []; events = loop_events false; raises = (transmits p).raises + 0 }

pub write_cases : (P : Out → Type 0) (p : Port) (v : ℕ) → (has_room p ≡ true → P (returned p v)) → P (dropped p) → P (write_line p v)
    → P (write_ier p v) → ((s : Settings) → s.ier ≡ p.settings.ier → P (becomes (with_settings p s)))
    → ((s : Settings) → s.ier ≡ p.settings.ier → P (flushes (with_settings p s)))
    → (r : Register) → P (write_register p r v)
unfolding write_register write_loop write_fcr
write_cases P p v a b c d e f RBR_THR = go (in_loop p) (has_room p) refl
  where
    go : (l h : Bool) → has_room p ≡ h
        → let o = cond h (receives (emptied p) (v ∷ [])) (becomes (emptied p)) in
        P (cond l (record { port = o.port; reply = 0; sent = []; events = loop_events h; raises = (transmits p).raises + o.raises }) (write_line p v))
    go true true k = a k
    go true false k = b
    go false h k = c
write_cases P p v a b c d e f IER = d
write_cases P p v a b c d e f IIR_FCR = go (on v 0x02)
  where
    go : (t : Bool) → let kept = with_settings p (put_fcr p.settings (fcr_stored v)) in P (cond t (flushes kept) (becomes kept))
    go true = f _ refl
    go false = e _ refl
write_cases P p v a b c d e f LCR = e _ refl
write_cases P p v a b c d e f MCR = e _ refl
write_cases P p v a b c d e f LSR = e p.settings refl
write_cases P p v a b c d e f MSR = e p.settings refl
write_cases P p v a b c d e f SCR = e _ refl
write_cases P p v a b c d e f DLL = e _ refl
write_cases P p v a b c d e f DLM = e _ refl
write_cases P p v a b c d e f reserved = e p.settings refl

-- ---- Input

some_taken : (n : ℕ) (l : List ℕ) → 1 ≤ n → 1 ≤ length l → some (take n l) ≡ true
some_taken zero l h g = absurd (omega arith)
some_taken (suc n) [] h g = absurd (omega arith)
some_taken (suc n) (x ∷ xs) h g = refl

-- how many bytes are taken where some are
abbrev takes : Port → List ℕ → ℕ
takes p bytes = min (room_of p) (length bytes)

pub input_cases : (P : Input → Type 0) (p : Port) (bytes : List ℕ) → ((full : Bool) → P (takes_none p full))
    → (some (take (takes p bytes) bytes) ≡ true → length p.waiting + length (take (takes p bytes) bytes) ≤ p.size → P (takes_some p bytes))
    → P (input_of p bytes)
unfolding input_of
input_cases P p bytes a b = go (in_loop p) (eqb (length bytes) 0) (has_room p) refl refl
  where
    go : (l e h : Bool) → eqb (length bytes) 0 ≡ e → has_room p ≡ h
        → P (cond l (takes_none p false) (cond e (takes_none p false) (cond h (takes_some p bytes) (takes_none p true))))
    go true e h _ _ = a false
    go false true h _ _ = a false
    go false false false _ _ = a true
    go false false true e h =
        let n = eqb-false (length bytes) 0 e in
        let r = ltb-true (length p.waiting) p.size h in
        b (some_taken (takes p bytes) bytes (omega arith) (omega arith)) (omega (arith, length-take (takes p bytes) bytes))

-- ---- Every operation

abbrev none_left_by : Answer → Bool
none_left_by a = (events_of a).none_left || (events_of a).flushed

-- what a read of RBR delivers is the first byte that waits
first_said : (q : List ℕ) → cond (some q) (first_or0 q ∷ []) [] ++ [] ≡ take 1 q
first_said [] = refl
first_said (x ∷ q) = refl

left_by_read : (t : Bool) → (t || false) ≡ t
left_by_read true = refl
left_by_read false = refl

read_off : (p : Port) → let e = (read_rbr p).events in
    Effect p (read_rbr p).port [] (e.none_left || e.flushed) (cond e.delivered (first_or0 p.waiting ∷ []) [] ++ e.discarded)
read_off p = rw (first_said p.waiting, left_by_read (not (some (tail p.waiting)))) reads

received : (p : Port) (bytes : List ℕ) → some bytes ≡ true → length p.waiting + length bytes ≤ p.size
    → Effect p (receives p bytes).port bytes false []
unfolding receives
received p bytes = comes bytes _

-- what a write of v does, as its answer tells
abbrev Wrote : Port → ℕ → Out → Type 0
Wrote p v o =
    Effect p o.port (cond o.events.looped (v ∷ []) []) (o.events.none_left || o.events.flushed)
    (cond o.events.delivered (0 ∷ []) [] ++ o.events.discarded)

looped : (p : Port) (v : ℕ) → has_room p ≡ true → Wrote p v (returned p v)
unfolding receives
looped p v h = comes (v ∷ []) _ refl (omega (arith, ltb-true (length p.waiting) p.size h))

sent_on : (p : Port) (v : ℕ) → Wrote p v (write_line p v)
unfolding write_line
sent_on p v = keeps p.settings _

enabled : (p : Port) (v : ℕ) → Wrote p v (write_ier p v)
unfolding write_ier
enabled p v = keeps _ _

not_taken : (p : Port) (bytes : List ℕ) (f : Bool)
    → let a = (did_input (takes_none p f)).answer in Effect p p (take (taken a) bytes) (none_left_by a) (gone a)
unfolding delivered gone
not_taken p bytes true = keeps p.settings p.iir
not_taken p bytes false = keeps p.settings p.iir

pub effect : (p : Port) (o : Op)
    → let a = (step p o).answer in Effect p (step p o).port (accepted o a) (none_left_by a) (gone a)
unfolding step accepted delivered gone
effect p (read offset) =
    let P : Out → Type 0 = λ o. Effect p o.port [] (o.events.none_left || o.events.flushed) (cond o.events.delivered (o.reply ∷ []) [] ++ o.events.discarded) in
    read_cases P p (read_off p) (keeps p.settings _) (λ v. keeps p.settings p.iir) (addressed (is_open p) offset)
effect p (write offset v) =
    write_cases (Wrote p v) p v (looped p v) (keeps p.settings _) (sent_on p v) (enabled p v) (λ s e. keeps s p.iir) (λ s e. empties s _)
    (addressed (is_open p) offset)
effect p (input bytes) =
    input_cases (λ (i : Input). let a = (did_input i).answer in Effect p i.port (take (taken a) bytes) (none_left_by a) (gone a)) p bytes
    (not_taken p bytes) (received p (take (takes p bytes) bytes))
effect p room = keeps p.settings p.iir

-- ---- A run in two parts

pub run_on : (p : Port) (os more : List Op) → (run p (os ++ more)).port ≡ (run (run p os).port more).port
unfolding run
run_on p [] more = refl
run_on p (o ∷ os) more = run_on (step p o).port os more
