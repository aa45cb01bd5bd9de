-- Whenever the interrupt line is high it was raised since it was last low, over every restore too.
use mathlib.Core.Path.{◌≡◌, refl, sym, ap, ◌∙◌}
use mathlib.Core.Bool.{Bool, true, false, cond, false≢true}
use mathlib.Core.List.{List, [], ◌∷◌}
use Prim.Native.Nat.{◌≤◌}
use lib.ListN.{get_or}
use Rattle.serial.specs.Port.{Port, line}
use Rattle.runs.specs.Told.{ends_in, RaisedSince}
use Rattle.runs.proofs.Told.{rise_raises, raised_since}
use Rattle.serial_saved.specs.Saved.{fits, restore_of}
use Rattle.serial_saved.proofs.Raising.{high_raised}
use Rattle.histories.specs.History.{Deed, does, save, restore, bring, Standing, begins, back_to, Host, next, after, line_here, raises_by}

-- A restore that leaves the line high raises it, whether it was high before or not; unless it was refused.
pub restore_raises : (p saved : Port) → fits saved ≡ true → line saved ≡ true → 1 ≤ (restore_of p saved).raises
unfolding restore_of
restore_raises p saved f h = rw f (high_raised saved h)

back : (here saved : Standing) → line here.port ≡ false → line (back_to here saved).port ≡ true
    → 1 ≤ (restore_of here.port saved.port).raises
unfolding back_to
back here saved low high = go (fits saved.port) refl high
  where
    go : (f : Bool) → fits saved.port ≡ f → line (cond f saved here).port ≡ true → 1 ≤ (restore_of here.port saved.port).raises
    go true f h = restore_raises here.port saved.port f h
    go false f h = absurd (false≢true (sym low ∙ h))

rising : (h : Host) (d : Deed) → line_here h ≡ false → line_here (next h d) ≡ true → 1 ≤ raises_by h d
rising h (does o) low high = rise_raises h.here.port o low high
rising h save low high = absurd (false≢true (sym low ∙ high))
rising h (restore n) low high = back h.here (get_or h.kept n h.here) low high
rising h (bring p) low high = back h.here (begins p) low high

after_ends : (h : Host) (ds : List Deed) → after h ds ≡ ends_in next h ds
unfolding after
after_ends h [] = refl
after_ends h (d ∷ ds) = after_ends (next h d) ds

pub line_raised_over : (h : Host) (ds : List Deed) → line_here h ≡ false → line_here (after h ds) ≡ true
    → RaisedSince next raises_by line_here h ds
line_raised_over h ds low high = raised_since next raises_by line_here rising h ds low (sym (ap line_here (after_ends h ds)) ∙ high)
