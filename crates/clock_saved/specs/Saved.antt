-- A clock saved and restored: its eight words. Any eight words are restored, and the answer says whether they are reachable.
use Rattle.std.specs.Prelude.{◌≡◌, ℕ, Bool, true, cond, ◌↔◌, List}
use Rattle.common.specs.Answer.{reachable_bit}
use Rattle.clock_saved.specs.Reachable.{ReachableWords}

-- The answer: this where a run from a fresh clock could have come to the words, else 0.
abbrev pub restore_answer : Bool → ℕ
restore_answer reachable = cond reachable reachable_bit 0

-- `restore` promises: the words, and an answer that is right both ways.
pub record Restores (saved clock : List ℕ) (r : ℕ) : Type 0 where
  pub words : clock ≡ saved
  pub reachable : Bool
  pub told : (reachable ≡ true) ↔ ReachableWords saved
  pub answer : r ≡ restore_answer reachable
