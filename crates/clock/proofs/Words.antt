-- Runs of the code: what the contracts promise of calls one after the other, on the same eight words.
use Rattle.std.proofs.Common.{◌≡◌, ℕ, zero, suc, ◌-◌, ◌^◌, ◌<◌, List, get_or, ℤ, pos, negsuc, sym, refl, ap, ◌∙◌, arith, ext_get_or}
use native.Mathlib.Decide.{dec_lt}
use Rattle.clock.specs.Registers.{Clock, fresh, Change, becomes, ignored}
use Rattle.clock.specs.Layout.{Words, joined, signed, clock_of, spare_of, Inits, refusal, Writes}
use Rattle.clock.specs.Runs.{Access, read, write, Result, result_of, next, after, results, Promised, Called, none, then}
use Rattle.clock.proofs.Time.{signed_low, signed_high}

-- ---- Calls answer as the definition does

same_result : {b c : List ℕ} {v w : ℕ} → b ≡ c → v ≡ w
    → ◌≡◌ {A = Result} (record { bytes = b; answer = v }) (record { bytes = c; answer = w })
same_result e f = rw (e, f)

-- One call that meets its contract.
promised : (words : List ℕ) (a : Access) (words' : List ℕ) (r : Result) → Promised words a words' r
    → (r ≡ result_of (clock_of words) a) × (clock_of words' ≡ next (clock_of words) a)
unfolding result_of next
promised words (read time offset bytes) words' r p = (same_result p.1.bytes p.1.answer, ap clock_of p.0)
promised words (write time offset bytes) words' r p = (same_result p.0 p.1.answer, p.1.clock)

-- Calls one after the other give the results of the definition's run, and leave its clock.
pub as_defined : {words words' : List ℕ} {run : List Access} {rs : List Result} → Called words run words' rs
    → (rs ≡ results (clock_of words) run) × (clock_of words' ≡ after (clock_of words) run)
as_defined none = (refl, refl)
as_defined (then {words = words} {words' = middle} {a = a} {rest = rest} {r = r} p more) =
    let one = promised words a middle r p in
    let others = as_defined more in
    (cc, cc)

-- No call changes a spare word.
pub spare_stays : {words words' : List ℕ} {run : List Access} {rs : List Result} → Called words run words' rs
    → spare_of words' ≡ spare_of words
spare_stays none = refl
spare_stays (then {words = words} {words' = middle} {a = a} {r = r} p more) = spare_stays more ∙ once a r p
  where
    once : (a : Access) (r : Result) → Promised words a middle r → spare_of middle ≡ spare_of words
    once (read time offset bytes) r p = ap spare_of p.0
    once (write time offset bytes) r p = p.1.spare

-- So do calls on words that were just made a fresh clock.
pub from_fresh : {words words' : List ℕ} {run : List Access} {rs : List Result} → Inits words → Called words run words' rs
    → rs ≡ results fresh run
from_fresh {run = run} made a = (as_defined a).0 ∙ ap (λ (c : Clock). results c run) made.clock

-- Two clocks in the same state answer the same for ever.
pub same_for_ever : {v v' w w' : List ℕ} {run : List Access} {rs ss : List Result} → clock_of v ≡ clock_of w
    → Called v run v' rs → Called w run w' ss → (rs ≡ ss) × (clock_of v' ≡ clock_of w')
same_for_ever {run = run} e a b =
    let x = as_defined a in
    let y = as_defined b in
    (x.0 ∙ ap (λ (c : Clock). results c run) e ∙ sym y.0, x.1 ∙ ap (λ (c : Clock). after c run) e ∙ sym y.1)

-- ---- The words are determined, too

-- The 64 bits that a signed number is.
pattern_of : ℤ → ℕ
pattern_of (pos n) = n
pattern_of (negsuc n) = 2 ^ 64 - suc n

pattern_signed : (bits : ℕ) → bits < 2 ^ 64 → pattern_of (signed bits) ≡ bits
unfolding pattern_of
pattern_signed bits b = go (dec_lt bits (2 ^ 63))
  where
    go : Dec (bits < 2 ^ 63) → pattern_of (signed bits) ≡ bits
    go (yes l) = rw (signed_low bits l)
    go (no l) = rw (signed_high bits (omega arith) b) (omega arith)

-- No two patterns are the same number.
pub same_bits : (x y : ℕ) → x < 2 ^ 64 → y < 2 ^ 64 → signed x ≡ signed y → x ≡ y
same_bits x y a b e = sym (pattern_signed x a) ∙ ap pattern_of e ∙ pattern_signed y b

-- No two are the same clock with the same spare words: what a contract says of these two it says of every bit of the words.
pub same_words : (v w : List ℕ) → Words v → Words w → clock_of v ≡ clock_of w → spare_of v ≡ spare_of w → v ≡ w
unfolding clock_of spare_of
same_words v w a b e s =
    ext_get_or 0 v w (a.eight ∙ sym b.eight) (λ i l. at i (omega (arith, a.eight)))
  where
    field : {X : Type 0} (f : Clock → X) → f (clock_of v) ≡ f (clock_of w)
    field f = ap f e

    halves : joined (get_or v 4 0) (get_or v 5 0) ≡ joined (get_or w 4 0) (get_or w 5 0)
    halves = same_bits _ _ (omega (arith, a.small 4, a.small 5)) (omega (arith, b.small 4, b.small 5)) (field (λ c. c.ahead))

    at : (i : ℕ) → i < 8 → get_or v i 0 ≡ get_or w i 0
    at zero h = field (λ c. c.lr)
    at (suc zero) h = field (λ c. c.mr)
    at (suc (suc zero)) h = field (λ c. c.imsc)
    at (suc (suc (suc zero))) h = field (λ c. c.ris)
    at (suc (suc (suc (suc zero)))) h = omega (arith, halves, a.small 4, a.small 5, b.small 4, b.small 5)
    at (suc (suc (suc (suc (suc zero))))) h = omega (arith, halves, a.small 4, a.small 5, b.small 4, b.small 5)
    at (suc (suc (suc (suc (suc (suc zero)))))) h = ap (λ (l : List ℕ). get_or l 0 0) s
    at (suc (suc (suc (suc (suc (suc (suc zero))))))) h = ap (λ (l : List ℕ). get_or l 1 0) s
    at (suc (suc (suc (suc (suc (suc (suc (suc i)))))))) h = absurd (omega arith)

-- A write that is refused leaves every bit of the words.
pub invalid_write_keeps : (change : Change) (v w : List ℕ) → Words v → Words w → Writes change v w refusal → w ≡ v
invalid_write_keeps ignored v w a b p = same_words w v b a p.clock p.spare
invalid_write_keeps (becomes c) v w a b p = absurd (omega (arith, p.answer))
