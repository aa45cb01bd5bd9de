-- What answers have in common leaves out the reply to a read of IIR, the number of raises, and the events that the original does not tell
-- (delivered, looped, dropped, flushed and what was discarded), and nothing else: where two are the same in common, all the rest of them
-- is the same.
use mathlib.Core.Path.{◌≡◌, refl, sym, ap, ◌∙◌}
use mathlib.Core.Bool.{Bool, true, false, true≢false}
use mathlib.Core.List.{List, [], ◌∷◌, tail}
use Prim.Native.Nat.{ℕ}
use borrow.Author.Tests.{ne_eqb}
use Rattle.serial.specs.Port.{Events}
use Rattle.runs.specs.Accepted.{events_of}
use Rattle.runs.specs.Run.{Op, read, Answer, replied, sent, took, full, has_room}
use Rattle.vm_superio.specs.Beside.{is_iir_read, common, commons}

-- The number in an answer, the bytes, and whether it is "full".
abbrev number : Answer → ℕ
number (replied v e n) = v
number (sent s e n) = 0
number (took t n) = t
number (full n) = 0
number (has_room r) = r

abbrev bytes : Answer → List ℕ
bytes (replied v e n) = []
bytes (sent s e n) = s
bytes (took t n) = []
bytes (full n) = []
bytes (has_room r) = []

abbrev is_full : Answer → Bool
is_full (replied v e n) = false
is_full (sent s e n) = false
is_full (took t n) = false
is_full (full n) = true
is_full (has_room r) = false

pub reply_counts : (offset v n v' n' : ℕ) (e e' : Events) → (offset ≡ 2 → ⊥)
    → common (is_iir_read (read offset)) (replied v e n) ≡ common (is_iir_read (read offset)) (replied v' e' n') → v ≡ v'
reply_counts offset v n v' n' e e' apart same = ap number (rw (ne_eqb offset 2 apart) at same)

pub sent_counts : (o : Op) (s s' : List ℕ) (e e' : Events) (n n' : ℕ)
    → common (is_iir_read o) (sent s e n) ≡ common (is_iir_read o) (sent s' e' n') → s ≡ s'
sent_counts o s s' e e' n n' same = ap bytes same

-- So do the two events that the original tells, of a read of IIR too.
pub events_count : (o : Op) (a a' : Answer) → common (is_iir_read o) a ≡ common (is_iir_read o) a'
    → ((events_of a).data_read ≡ (events_of a').data_read) × ((events_of a).none_left ≡ (events_of a').none_left)
events_count o a a' same = (
  sym (kept a).0 ∙ ap (λ (b : Answer). (events_of b).data_read) same ∙ (kept a').0,
  sym (kept a).1 ∙ ap (λ (b : Answer). (events_of b).none_left) same ∙ (kept a').1,
)
  where
    kept : (b : Answer) → let c = events_of (common (is_iir_read o) b) in
        (c.data_read ≡ (events_of b).data_read) × (c.none_left ≡ (events_of b).none_left)
    kept (replied v e n) = (refl, refl)
    kept (sent s e n) = (refl, refl)
    kept (took t n) = (refl, refl)
    kept (full n) = (refl, refl)
    kept (has_room r) = (refl, refl)

pub taken_counts : (o : Op) (t t' n n' : ℕ) → common (is_iir_read o) (took t n) ≡ common (is_iir_read o) (took t' n') → t ≡ t'
taken_counts o t t' n n' e = ap number e

pub full_counts : (o : Op) (t n n' : ℕ) → common (is_iir_read o) (full n) ≡ common (is_iir_read o) (took t n') → ⊥
full_counts o t n n' e = true≢false (ap is_full e)

pub room_counts : (o : Op) (r r' : ℕ) → common (is_iir_read o) (has_room r) ≡ common (is_iir_read o) (has_room r') → r ≡ r'
room_counts o r r' e = ap number e

-- And every answer of a list counts.
abbrev head_or : Answer → List Answer → Answer
head_or a [] = a
head_or a (b ∷ more) = b

pub each_counts : (o : Op) (os : List Op) (a a' : Answer) (more more' : List Answer)
    → commons (o ∷ os) (a ∷ more) ≡ commons (o ∷ os) (a' ∷ more')
    → (common (is_iir_read o) a ≡ common (is_iir_read o) a') × (commons os more ≡ commons os more')
each_counts o os a a' more more' e = (ap (head_or (full 0)) e, ap tail e)
