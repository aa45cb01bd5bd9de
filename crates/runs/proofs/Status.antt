-- The line status register tells the truth on every port that a run from a fresh one reaches; and from any port, when it is true again.
use mathlib.Core.Path.{◌≡◌, refl, sym, ap, ◌∙◌}
use mathlib.Core.Bool.{Bool, true, false, not, ◌||◌, false≢true, true≢false}
use mathlib.Core.List.{List, [], ◌∷◌, ◌++◌, tail}
use Prim.Native.Nat.{ℕ}
use Rattle.common.specs.Bits.{on}
use Rattle.common.specs.Lists.{some}
use Rattle.line_status.specs.LineStatus.{lsr_after_read}
use Rattle.serial.specs.Port.{Port, fresh}
use Rattle.runs.specs.Run.{Op, step, run}
use Rattle.runs.specs.Status.{Truthful, Same, settles, settled}
use Rattle.runs.proofs.LineStatus.{ready_set, ready_cleared}
use Rattle.runs.proofs.Effects.{Effect, keeps, comes, reads, empties, effect}

pub some_more : (q l : List ℕ) → some l ≡ true → some (q ++ l) ≡ true
some_more [] l e = e
some_more (x ∷ q) l e = refl

-- ---- One operation

true_after_read : (q : List ℕ) (lsr : ℕ) → not (some (tail q)) ≡ true → on (lsr_after_read (some (tail q)) lsr) 0x01 ≡ some (tail q)
true_after_read [] lsr e = ready_cleared lsr
true_after_read (x ∷ []) lsr e = ready_cleared lsr
true_after_read (x ∷ y ∷ q) lsr e = absurd (false≢true e)

true_after : {p q : Port} {a d : List ℕ} {t : Bool} → Effect p q a t d → (some a || t) ≡ true → Truthful q
true_after (keeps s m) h = absurd (false≢true h)
true_after {p} (comes bytes i s _) h = ready_set p.lsr ∙ sym (some_more p.waiting bytes s)
true_after {p} reads h = true_after_read p.waiting p.lsr h
true_after {p} (empties s i) h = ready_cleared p.lsr

same_after_read : (q : List ℕ) (lsr : ℕ) → not (some (tail q)) ≡ false
    → (on (lsr_after_read (some (tail q)) lsr) 0x01 ≡ on lsr 0x01) × (some (tail q) ≡ some q)
unfolding lsr_after_read
same_after_read [] lsr e = absurd (true≢false e)
same_after_read (x ∷ []) lsr e = absurd (true≢false e)
same_after_read (x ∷ y ∷ q) lsr e = (refl, refl)

same_after : {p q : Port} {a d : List ℕ} {t : Bool} → Effect p q a t d → (some a || t) ≡ false → Same p q
same_after (keeps s m) h = record { says = refl; waits = refl }
same_after {p} (comes bytes i s _) h = absurd (true≢false (sym (ap (λ (b : Bool). b || false) s) ∙ h))
same_after {p} reads h = let r = same_after_read p.waiting p.lsr h in record { says = r.0; waits = r.1 }
same_after (empties s i) h = absurd (true≢false h)

-- After an operation that settles it the register tells the truth, whatever it said before ..
pub settling : (p : Port) (o : Op) → settles o (step p o).answer ≡ true → Truthful (step p o).port
unfolding settles
settling p o h = true_after (effect p o) h

-- .. and after any other the bit is what it was, and so is whether a byte waits.
pub not_settling : (p : Port) (o : Op) → settles o (step p o).answer ≡ false → Same p (step p o).port
unfolding settles
not_settling p o h = same_after (effect p o) h

-- ---- Every run

still : {p q : Port} → Same p q → Truthful p → Truthful q
still s t = s.says ∙ t ∙ sym s.waits

join : {p q r : Port} → Same p q → Same q r → Same p r
join s t = record { says = t.says ∙ s.says; waits = t.waits ∙ s.waits }

-- The same over a run: where some operation settles it the register tells the truth at the end; where none does, bit and bytes are as they
-- were.
pub over_run : (p : Port) (os : List Op) → let s = settled os (run p os).answers in
    (s ≡ true → Truthful (run p os).port) × (s ≡ false → Same p (run p os).port)
unfolding run
over_run p [] = (λ h. absurd (false≢true h), λ h. record { says = refl; waits = refl })
over_run p (o ∷ os) =
    let q = (step p o).port in
    go (settles o (step p o).answer) refl (settled os (run q os).answers) (over_run q os)
  where
    go : (s : Bool) → settles o (step p o).answer ≡ s → (r : Bool)
        → let q = (step p o).port in let e = (run q os).port in
        (r ≡ true → Truthful e) × (r ≡ false → Same q e) → ((s || r) ≡ true → Truthful e) × ((s || r) ≡ false → Same p e)
    go true h true ih = (λ _. ih.0 refl, λ f. absurd (true≢false f))
    go true h false ih = (λ _. still (ih.1 refl) (settling p o h), λ f. absurd (true≢false f))
    go false h r ih = (ih.0, λ f. join (not_settling p o h) (ih.1 f))

-- So it stays true where it is true ..
pub stays_true : (p : Port) (os : List Op) → Truthful p → Truthful (run p os).port
stays_true p os t = go (settled os (run p os).answers) refl
  where
    go : (s : Bool) → settled os (run p os).answers ≡ s → Truthful (run p os).port
    go true h = (over_run p os).0 h
    go false h = still ((over_run p os).1 h) t

-- .. and is true on every port that a run from a fresh one reaches.
pub fresh_true : (size : ℕ) (os : List Op) → Truthful (run (fresh size) os).port
fresh_true size os = stays_true (fresh size) os refl
