-- `is_reachable` meets its contract: each test is a clause of `ReachableWords`.
use Rattle.std.proofs.Common.{◌≡◌, ◌∙◌, ◌&&◌, eqb, leb, get_or, le-leb, arith}
use Rattle.std.proofs.lemmas.Bool.{lt-leb}
use Rattle.clock.specs.Layout.{spare_is_zero}
use Rattle.clock_saved.proofs.Restoring.{not_quiet, quiet_and_showed}
use Rattle.clock_saved.proofs.is_reachable.Goals as goal
use Rattle.clock_saved.proofs.is_reachable.Goals.{then-saved-le1, else-saved-le1, then-saved-eq0, else-saved-eq0}

pub returns-then-spare_is_zero : goal.returns-then-spare_is_zero
returns-then-spare_is_zero c =
    let l = c.args.saved.now in
    let two : c.if-saved-le1.value ≡ (leb (get_or l 2 0) 1 && eqb (get_or l 3 0) 0) = elim c.if-saved-le1.branch [
      | then-saved-le1 w ↦ w.value-is ∙ rw (le-leb (get_or l 2 0) 1 (omega arith))
      | else-saved-le1 w ↦ w.value-is ∙ rw (lt-leb (get_or l 2 0) 1 (omega arith))
    ] in
    let all : c.if-saved-eq0.value ≡ (c.if-saved-le1.value && spare_is_zero l) = elim c.if-saved-eq0.branch [
      | then-saved-eq0 w ↦ w.value-is ∙ w.spare_is_zero.ensures ∙ rw w.if-saved-eq0.true
      | else-saved-eq0 w ↦ w.value-is ∙ rw w.if-saved-eq0.false
    ] in
    quiet_and_showed l (record { eight = c.told-saved; small = c.fits-saved }) (all ∙ rw two) c.if-spare_is_zero.true c.showed.ensures

pub returns-else-spare_is_zero : goal.returns-else-spare_is_zero
returns-else-spare_is_zero c =
    let l = c.args.saved.now in
    let two : c.if-saved-le1.value ≡ (leb (get_or l 2 0) 1 && eqb (get_or l 3 0) 0) = elim c.if-saved-le1.branch [
      | then-saved-le1 w ↦ w.value-is ∙ rw (le-leb (get_or l 2 0) 1 (omega arith))
      | else-saved-le1 w ↦ w.value-is ∙ rw (lt-leb (get_or l 2 0) 1 (omega arith))
    ] in
    let all : c.if-saved-eq0.value ≡ (c.if-saved-le1.value && spare_is_zero l) = elim c.if-saved-eq0.branch [
      | then-saved-eq0 w ↦ w.value-is ∙ w.spare_is_zero.ensures ∙ rw w.if-saved-eq0.true
      | else-saved-eq0 w ↦ w.value-is ∙ rw w.if-saved-eq0.false
    ] in
    not_quiet l (all ∙ rw two) c.if-spare_is_zero.false
