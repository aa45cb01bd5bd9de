-- A clock that calls on a fresh one reach, moved to another host.
use mathlib.Core.Path.{◌≡◌, ◌∙◌}
use mathlib.Core.Bool.{true}
use mathlib.Core.List.{List}
use Prim.Native.Nat.{ℕ}
use Rattle.clock.specs.Layout.{Words}
use Rattle.clock_saved.specs.Reachable.{ReachedWords}
use Rattle.clock_saved.specs.Saved.{restore_answer}
use Rattle.clock_saved.proofs.Exact.{words_exact}
use Rattle.clock_saved.proofs.Saving.{told_of_runs}
use Rattle.moved.specs.RealTimeClock.{Leaves, Arrives, Same}
use Rattle.moved.proofs.RealTimeClock.{back, moved}

module _ {clock form clock' : List ℕ} (w : Words clock) (l : Leaves clock form) (a : Arrives form clock') where
  -- So it is with every clock that calls on a fresh one reach, and the second host is told that they do.
  pub moved_reached : ReachedWords clock → Same clock form clock' a × (a.word ≡ restore_answer true)
  moved_reached k =
      let z = ((words_exact clock).1 k).spare in
      (moved w l a z, told_of_runs ((back w l a z).1 ∙ l.saves) a.restores k)
