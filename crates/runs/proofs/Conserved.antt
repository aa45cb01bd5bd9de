-- Nothing is lost, nothing is made up, the order is kept; and never do more bytes wait than the port has room for.
use mathlib.Core.Path.{◌≡◌, refl, sym, ap, ◌∙◌}
use mathlib.Core.Bool.{Bool}
use mathlib.Core.List.{List, [], ◌∷◌, ◌++◌, tail, append_assoc, append-nil}
use Prim.Native.Nat.{ℕ, ◌-◌, ◌≤◌, max}
use native.Mathlib.Omega.{arith}
use lib.ListN.{length, take, length-append}
use Rattle.serial.specs.Port.{Port, fresh}
use Rattle.runs.specs.Run.{Op, room, has_room, step, run}
use Rattle.runs.specs.Accepted.{accepted, gone, all_accepted, all_gone}
use Rattle.runs.proofs.Effects.{Effect, keeps, comes, reads, empties, effect}

-- ---- One operation

first_tail : (q : List ℕ) → q ++ [] ≡ take 1 q ++ tail q
first_tail [] = refl
first_tail (x ∷ q) = ap (λ (l : List ℕ). x ∷ l) (append-nil q)

-- what waited and what is accepted is what left and what waits then
pub moves : {p q : Port} {a d : List ℕ} {t : Bool} → Effect p q a t d → p.waiting ++ a ≡ d ++ q.waiting
moves (keeps s m) = append-nil _
moves (comes bytes i s h) = refl
moves {p} reads = first_tail p.waiting
moves {p} (empties s i) = refl

-- the size stays
pub same_size : {p q : Port} {a d : List ℕ} {t : Bool} → Effect p q a t d → q.size ≡ p.size
same_size (keeps s m) = refl
same_size (comes bytes i s h) = refl
same_size reads = refl
same_size (empties s i) = refl

-- ---- Every run

-- Nothing lost, nothing made up, order kept: from any port, what waited and then all that was accepted is all that was delivered or thrown
-- away by the guest, and then what waits.
pub conserved : (p : Port) (os : List Op) → let r = run p os in
    p.waiting ++ all_accepted os r.answers ≡ all_gone r.answers ++ r.port.waiting
unfolding run
conserved p [] = append-nil p.waiting
conserved p (o ∷ os) =
    let d = step p o in
    let more = (run d.port os).answers in
    sym (append_assoc p.waiting (accepted o d.answer) (all_accepted os more))
    ∙ ap (λ (l : List ℕ). l ++ all_accepted os more) (moves (effect p o))
    ∙ append_assoc (gone d.answer) d.port.waiting (all_accepted os more)
    ∙ ap (λ (l : List ℕ). gone d.answer ++ l) (conserved d.port os)
    ∙ sym (append_assoc (gone d.answer) (all_gone more) (run d.port os).port.waiting)

-- From a fresh port: all that was accepted is all that was delivered or thrown away, and then what waits.
pub fresh_conserved : (size : ℕ) (os : List Op) → let r = run (fresh size) os in
    all_accepted os r.answers ≡ all_gone r.answers ++ r.port.waiting
fresh_conserved size os = conserved (fresh size) os

-- So the answers tell how many wait, and what asking for room will answer.
pub fresh_count : (size : ℕ) (os : List Op) → let r = run (fresh size) os in
    length r.port.waiting ≡ length (all_accepted os r.answers) - length (all_gone r.answers)
fresh_count size os = let h = simp length-append at (ap length (fresh_conserved size os)) in omega arith

pub room_answers : (p : Port) → (step p room).answer ≡ has_room (p.size - length p.waiting)
unfolding step
room_answers p = refl

-- ---- Never more than its size

pub tail_short : (q : List ℕ) → length (tail q) ≤ length q
tail_short [] = omega arith
tail_short (x ∷ q) = omega arith

bounded_step : {p q : Port} {a d : List ℕ} {t : Bool} → Effect p q a t d → length q.waiting ≤ max (length p.waiting) p.size
bounded_step (keeps s m) = omega arith
bounded_step {p} (comes bytes i s h) = omega (arith, length-append p.waiting bytes)
bounded_step {p} reads = omega (arith, tail_short p.waiting)
bounded_step (empties s i) = omega arith

-- From any port: never more wait than waited at the start or than the port has room for.
pub bounded : (p : Port) (os : List Op) → length (run p os).port.waiting ≤ max (length p.waiting) p.size
unfolding run
bounded p [] = omega arith
bounded p (o ∷ os) = let e = effect p o in omega (arith, bounded_step e, same_size e, bounded (step p o).port os)

pub never_more : (p : Port) (os : List Op) → length p.waiting ≤ p.size → length (run p os).port.waiting ≤ p.size
never_more p os h = omega (arith, bounded p os)

pub run_size : (p : Port) (os : List Op) → (run p os).port.size ≡ p.size
unfolding run
run_size p [] = refl
run_size p (o ∷ os) = run_size (step p o).port os ∙ same_size (effect p o)
