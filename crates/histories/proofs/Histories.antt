-- Over any mix of operations, saving and restoring, a port is what the operations of its history made it.
use mathlib.Core.Path.{◌≡◌, refl, sym, ap, ◌∙◌}
use mathlib.Core.Bool.{Bool, true, false, cond}
use mathlib.Core.List.{List, [], ◌∷◌, ◌++◌}
use Prim.Native.Nat.{ℕ, zero, suc, ◌+◌, ◌≤◌}
use native.Mathlib.Nat.{add-zero, zero-add}
use native.Mathlib.Omega.{arith}
use lib.ListN.{length, get_or, take}
use borrow.Author.Tests.{leb-true}
use Rattle.serial.specs.Port.{Port}
use Rattle.runs.specs.Run.{Op, Answer, step, run}
use Rattle.runs.specs.Accepted.{all_accepted, all_gone}
use Rattle.runs.specs.Status.{Truthful}
use Rattle.runs.specs.Reachable.{Reachable}
use Rattle.runs.specs.Reached.{OfBytes}
use Rattle.runs.proofs.Effects.{run_on}
use Rattle.runs.proofs.Conserved.{conserved, never_more, run_size}
use Rattle.runs.proofs.Status.{stays_true}
use Rattle.runs.proofs.Reachable.{step_reachable}
use Rattle.serial_saved.specs.Saved.{fits, raised_again, Restore, restore_of}
use Rattle.histories.specs.History.{Deed, does, save, restore, bring, Standing, begins, goes_on, back_to, Host, starts, next, after}
use Rattle.histories.specs.History.{saves_in, Each}

-- ---- What every standing of a host has, if what comes from outside has it

-- what is restored is there if it fits
chosen : (P : Standing → Type 0) (here saved : Standing) → P here → (fits saved.port ≡ true → P saved) → P (back_to here saved)
unfolding back_to
chosen P here saved a b = go (fits saved.port) refl
  where
    go : (t : Bool) → fits saved.port ≡ t → P (cond t saved here)
    go true e = b e
    go false e = a

abbrev All : (Standing → Type 0) → List Standing → Type 0
All P [] = Unit {0}
All P (s ∷ ss) = P s × All P ss

one_of : (P : Standing → Type 0) (ss : List Standing) (n : ℕ) (other : Standing) → All P ss → P other → P (get_or ss n other)
one_of P [] n other a e = e
one_of P (s ∷ ss) zero other a e = a.0
one_of P (s ∷ ss) (suc n) other a e = one_of P ss n other a.1 e

record Every (P : Standing → Type 0) (h : Host) : Type 0 where
  pub here : P h.here
  pub kept : All P h.kept

module _ (P : Standing → Type 0) (O : Op → Type 0) (Q : Port → Type 0) (go_on : (s : Standing) (o : Op) → O o → P s → P (goes_on s o))
    (begin : (p : Port) → fits p ≡ true → Q p → P (begins p)) where
  every : (h : Host) (ds : List Deed) → Each O Q ds → Every P h → Every P (after h ds)
  unfolding after
  every h [] e k = k
  every h (does o ∷ ds) e k = every (next h (does o)) ds e.1 (record { here = go_on h.here o e.0 k.here; kept = k.kept })
  every h (save ∷ ds) e k = every (next h save) ds e (record { here = k.here; kept = (k.here, k.kept) })
  every h (restore n ∷ ds) e k =
      let back = one_of P h.kept n h.here k.kept k.here in
      every (next h (restore n)) ds e (record { here = chosen P h.here (get_or h.kept n h.here) k.here (λ f. back); kept = k.kept })
  every h (bring p ∷ ds) e k =
      every (next h (bring p)) ds e.1 (record { here = chosen P h.here (begins p) k.here (λ f. begin p f (e.0 f)); kept = k.kept })

  -- from a port with no history, whatever the host does
  always : (p : Port) (ds : List Deed) → Each O Q ds → P (begins p) → P (after (starts p) ds).here
  always p ds e b = (every (starts p) ds e (record { here = b; kept = tt })).here

-- nothing is asked of what comes from outside
abbrev Anything : {A : Type 0} → A → Type 0
Anything x = Unit {0}

anything : (ds : List Deed) → Each Anything Anything ds
anything [] = tt
anything (does o ∷ ds) = (tt, anything ds)
anything (save ∷ ds) = anything ds
anything (restore n ∷ ds) = anything ds
anything (bring p ∷ ds) = (λ f. tt, anything ds)

-- ---- The port is what its history made it

pub record Lived (s : Standing) : Type 0 where
  pub port : s.port ≡ (run s.origin s.ops).port
  pub answers : s.answers ≡ (run s.origin s.ops).answers

answers_on : (p : Port) (os more : List Op) → (run p (os ++ more)).answers ≡ (run p os).answers ++ (run (run p os).port more).answers
unfolding run
answers_on p [] more = refl
answers_on p (o ∷ os) more = ap (λ (l : List Answer). (step p o).answer ∷ l) (answers_on (step p o).port os more)

goes_on_lem : (s : Standing) (o : Op) → Lived s → Lived (goes_on s o)
unfolding run
goes_on_lem s o k = record {
  port = ap (λ (p : Port). (step p o).port) k.port ∙ sym (run_on s.origin s.ops (o ∷ []));
  answers = rw (answers_on s.origin s.ops (o ∷ []), sym k.port, sym k.answers);
}

new : (p : Port) → Lived (begins p)
unfolding run
new p = record { port = refl; answers = refl }

-- Whatever the host does, the port is the one that a plain run of its history leaves, and its answers were those of that run.
pub as_if_run : (p : Port) (ds : List Deed) → Lived (after (starts p) ds).here
as_if_run p ds = always Lived Anything Anything (λ s o _. goes_on_lem s o) (λ q f _. new q) p ds (anything ds) (new p)

-- To restore is what the definition of a restore says.
pub brings_back : (here saved : Standing) → (back_to here saved).port ≡ (restore_of here.port saved.port).port
unfolding back_to restore_of
brings_back here saved = go (fits saved.port)
  where
    go : (t : Bool) → (cond {A = Standing} t saved here).port
        ≡ (cond {A = Restore} t (record { port = saved.port; refused = false; raises = length (raised_again saved.port) }) (record { port = here.port; refused = true; raises = 0 })).port
    go true = refl
    go false = refl

-- ---- No byte lost

-- Of the history that counts: what waited at its beginning and then all that was accepted is all that was delivered or
-- thrown away, and then what waits.
pub conserved_across : (p : Port) (ds : List Deed) → let s = (after (starts p) ds).here in
    s.origin.waiting ++ all_accepted s.ops s.answers ≡ all_gone s.answers ++ s.port.waiting
conserved_across p ds =
    let s = (after (starts p) ds).here in
    let k = as_if_run p ds in
    rw (k.port, k.answers) (conserved s.origin s.ops)

-- Never do more bytes wait than there is room for, whatever is brought from elsewhere.
abbrev Fits : Standing → Type 0
Fits s = length s.port.waiting ≤ s.port.size

pub bounded_across : (p : Port) (ds : List Deed) → length p.waiting ≤ p.size
    → let s = (after (starts p) ds).here in length s.port.waiting ≤ s.port.size
unfolding run
bounded_across p ds h = always Fits Anything Anything one (λ q f _. leb-true (length q.waiting) q.size f) p ds (anything ds) h
  where
    one : (s : Standing) (o : Op) → Anything o → Fits s → Fits (goes_on s o)
    one s o _ f = omega (arith, never_more s.port (o ∷ []) f, run_size s.port (o ∷ []))

-- The status register tells the truth, if it did on the ports brought from elsewhere.
pub true_across : (p : Port) (ds : List Deed) → Each Anything Truthful ds → Truthful p → Truthful (after (starts p) ds).here.port
unfolding run
true_across p ds e t = always (λ s. Truthful s.port) Anything Truthful one (λ q f k. k) p ds e t
  where
    one : (s : Standing) (o : Op) → Anything o → Truthful s.port → Truthful (goes_on s o).port
    one s o _ k = stays_true s.port (o ∷ []) k

-- Every port of the mix is one that a run from a fresh one could have reached, if those brought from elsewhere are.
pub reachable_across : (size : ℕ) (p : Port) (ds : List Deed) → Each OfBytes (Reachable size) ds → Reachable size p
    → Reachable size (after (starts p) ds).here.port
reachable_across size p ds e k =
    always (λ s. Reachable size s.port) OfBytes (Reachable size) (λ s o b r. step_reachable size s.port o b r) (λ q f r. r) p ds e k

-- ---- What was done after the port was saved is undone by restoring it

after_more : (h : Host) (ds more : List Deed) → after h (ds ++ more) ≡ after (after h ds) more
unfolding after
after_more h [] more = refl
after_more h (d ∷ ds) more = after_more (next h d) ds more

-- what is kept is kept on, behind what is kept later
kept_on : (h : Host) (ds : List Deed) (n : ℕ) (other : Standing) → get_or (after h ds).kept (saves_in ds + n) other ≡ get_or h.kept n other
unfolding after
kept_on h [] n other = ap (λ (k : ℕ). get_or h.kept k other) (zero-add n)
kept_on h (does o ∷ ds) n other = kept_on (next h (does o)) ds n other
kept_on h (save ∷ ds) n other =
    let later : suc (saves_in ds) + n ≡ saves_in ds + suc n = omega arith in
    ap (λ (k : ℕ). get_or (after (next h save) ds).kept k other) later ∙ kept_on (next h save) ds (suc n) other
kept_on h (restore m ∷ ds) n other = kept_on (next h (restore m)) ds n other
kept_on h (bring p ∷ ds) n other = kept_on (next h (bring p)) ds n other

-- Whatever the host did since, other savings and restores among it: the port and its history are those from before, as if nothing between
-- had been.
pub undone : (h : Host) (ds : List Deed) → fits h.here.port ≡ true → (after h (save ∷ ds ++ restore (saves_in ds) ∷ [])).here ≡ h.here
unfolding after back_to
undone h ds f =
    let h' = next h save in
    let between = after h' ds in
    let saved : get_or between.kept (saves_in ds) between.here ≡ h.here =
    ap (λ (k : ℕ). get_or between.kept k between.here) (sym (add-zero (saves_in ds))) ∙ kept_on h' ds 0 between.here in
    ap (λ (g : Host). g.here) (after_more h' ds (restore (saves_in ds) ∷ []))
    ∙ ap (back_to between.here) saved
    ∙ rw f

take_first : (k : ℕ) (a b : List ℕ) → k ≤ length a → take k (a ++ b) ≡ take k a
take_first zero a b h = refl
take_first (suc k) [] b h = absurd (omega arith)
take_first (suc k) (x ∷ a) b h = ap (λ (l : List ℕ). x ∷ l) (take_first k a b (omega arith))

-- From a restored port the first bytes that leave are those that waited when it was saved ..
pub first_gone : (p : Port) (os : List Op) (k : ℕ) → k ≤ length p.waiting
    → let d = all_gone (run p os).answers in
    k ≤ length d → take k d ≡ take k p.waiting
first_gone p os k w h =
    let r = run p os in
    sym (take_first k (all_gone r.answers) r.port.waiting h)
    ∙ ap (take k) (sym (conserved p os))
    ∙ take_first k p.waiting (all_accepted os r.answers) w

-- .. so those of them that had left since leave again, the same and in the same order. What was accepted since then is
-- not there: from then on `conserved` speaks of what waited when it was saved and of what is accepted afterwards.
pub gone_again : (p : Port) (os more : List Op) (k : ℕ) → k ≤ length p.waiting
    → let a = all_gone (run p os).answers in let b = all_gone (run p more).answers in
    k ≤ length a → k ≤ length b → take k b ≡ take k a
gone_again p os more k w h g = first_gone p more k w g ∙ sym (first_gone p os k w h)
