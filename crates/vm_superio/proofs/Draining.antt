-- The reads by which the original's guest fetches what waits: what they leave. A run beside ours is a run of the original with these reads
-- among its operations; where no write empties, it is the original's own run of the same operations.
use mathlib.Core.Path.{◌≡◌, refl, ap, ◌∙◌}
use mathlib.Core.List.{List, [], ◌∷◌, ◌++◌, tail}
use mathlib.Core.Bool.{Bool, true, false, cond}
use Prim.Native.Nat.{ℕ}
use Rattle.line_status.specs.LineStatus.{lsr_after_read}
use Rattle.serial.specs.Port.{addressed}
use Rattle.runs.specs.Run.{Op, read, write}
use Rattle.vm_superio.specs.Original.{Original, put_lcr, with_settings, with_receiver, received_data, unmark, read_rbr}
use Rattle.vm_superio.specs.Original.{read_register, write_register, step, Ran, run}
use Rattle.vm_superio.specs.Beside.{is_emptied, once_for_each, fetching, drained, next, run_beside, with_fetching, NoneEmptied}
use Rattle.vm_superio.proofs.Marks.{data_unmarked_twice}

-- One run behind another.
run_both : (q : Original) (os more : List Op) → (run q (os ++ more)).original ≡ (run (run q os).original more).original
unfolding run
run_both q [] more = refl
run_both q (o ∷ os) more = run_both (step q o).original os more

-- ---- Fetching

-- A port whose divisor is closed.
abbrev closed : Original → ℕ → ℕ → List ℕ → Original
closed q iir lsr waiting = with_receiver (with_settings q (put_lcr q.settings 0x00)) iir lsr waiting

reads_all : (q : Original) (iir lsr : ℕ) (waiting : List ℕ)
    → (run (closed q iir lsr waiting) (read 0 ∷ once_for_each (tail waiting))).original
    ≡ closed q (unmark iir received_data) (lsr_after_read false lsr) []
unfolding run step addressed read_register read_rbr lsr_after_read
reads_all q iir lsr [] = refl
reads_all q iir lsr (x ∷ []) = refl
reads_all q iir lsr (x ∷ y ∷ ys) =
    reads_all q (unmark iir received_data) lsr (y ∷ ys)
    ∙ ap (λ (i : ℕ). closed q i (lsr_after_read false lsr) []) (data_unmarked_twice iir)

-- They leave no byte and no data ready, received data unmarked, and all else as it was.
pub drained_is : (q : Original) → drained q ≡ with_receiver q (unmark q.iir received_data) (lsr_after_read false q.lsr) []
unfolding drained run step addressed write_register
drained_is q =
    run_both (closed q q.iir q.lsr q.waiting) (read 0 ∷ once_for_each (tail q.waiting)) (write 3 q.settings.lcr ∷ [])
    ∙ ap (λ (r : Original). (run r (write 3 q.settings.lcr ∷ [])).original) (reads_all q q.iir q.lsr q.waiting)

-- ---- Runs

-- What a run beside ours comes to the original comes to by a run of its own.
pub run_fetching : (q : Original) (os : List Op) → (run q (with_fetching q os)).original ≡ (run_beside q os).original
unfolding run run_beside drained
run_fetching q [] = refl
run_fetching q (o ∷ os) = go (is_emptied q o) ∙ run_fetching (next q o) os
  where
    after : Original
    after = (step q o).original

    go : (t : Bool) → let from = cond t (drained after) after in
        (run after (cond t (fetching after) [] ++ with_fetching from os)).original ≡ (run from (with_fetching from os)).original
    go true = run_both after (fetching after) (with_fetching (drained after) os)
    go false = refl

-- Where no write empties, it is the original's own run of the same operations, with the same answers.
pub none_emptied : (q : Original) (os : List Op) → NoneEmptied q os → run_beside q os ≡ run q os
unfolding run run_beside
none_emptied q [] e = refl
none_emptied q (o ∷ os) e =
    let behind : Ran → Ran = λ r. record { original = r.original; answers = (step q o).answer ∷ r.answers } in
    rw e.0 (ap behind (none_emptied (step q o).original os e.1))
