-- Saving and restoring, by what the two calls promise.
use Rattle.std.proofs.Common.{◌≡◌, ℕ, true, List, ap, ◌∙◌, arith}
use Rattle.clock.specs.Registers.{Clock}
use Rattle.clock.specs.Layout.{clock_of}
use Rattle.clock.specs.Runs.{Access, Result, after, results, Called}
use Rattle.clock.proofs.Words.{same_for_ever}
use Rattle.clock_saved.specs.Reachable.{ReachedWords, ReachableWords}
use Rattle.clock_saved.specs.Saved.{restore_answer, Restores}
use Rattle.clock_saved.proofs.Exact.{words_exact}

-- Restore, then save: the same eight words, whatever they are.
pub save_after_restore : {saved clock again : List ℕ} {r : ℕ} → Restores saved clock r → again ≡ clock → again ≡ saved
save_after_restore p s = s ∙ p.words

-- Save `clock`, then restore it into `other`.
module _ {clock saved other : List ℕ} {r : ℕ} (s : saved ≡ clock) (p : Restores saved other r) where
  -- Not a bit is lost,
  pub restore_after_save : other ≡ clock
  restore_after_save = p.words ∙ s

  pub same_clock : clock_of other ≡ clock_of clock
  same_clock = ap clock_of restore_after_save

  -- so every run answers the same from here on and ends in the same clock: by the definition,
  pub same_run : (run : List Access)
      → (results (clock_of other) run ≡ results (clock_of clock) run) × (after (clock_of other) run ≡ after (clock_of clock) run)
  same_run run = (ap (λ (c : Clock). results c run) same_clock, ap (λ (c : Clock). after c run) same_clock)

  -- and by the calls on both.
  pub same_calls : {run : List Access} {clock' other' : List ℕ} {rs ss : List Result} → Called other run other' rs
      → Called clock run clock' ss
      → (rs ≡ ss) × (clock_of other' ≡ clock_of clock')
  same_calls = same_for_ever same_clock

  -- A reachable clock is restored as one, and told to be one.
  pub reachable_again : ReachableWords clock → ReachableWords other × (r ≡ restore_answer true)
  reachable_again k = (rw restore_after_save k, p.answer ∙ ap restore_answer (p.told.1 (rw s k)))

  -- So is whatever calls on a fresh clock came to,
  pub told_of_runs : ReachedWords clock → r ≡ restore_answer true
  told_of_runs k = (reachable_again ((words_exact clock).1 k)).1

-- and where it is denied no calls come to what was restored.
pub denied_rightly : {saved clock : List ℕ} → Restores saved clock 0 → ReachedWords clock → ⊥
denied_rightly {saved} {clock} p k =
    let so : p.reachable ≡ true = p.told.1 ((words_exact saved).1 (rw p.words at k)) in
    omega (arith, p.answer ∙ ap restore_answer so)
