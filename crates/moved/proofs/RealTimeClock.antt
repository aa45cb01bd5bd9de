-- A clock that was saved, written as bytes, read elsewhere and restored there goes on as it would have here.
use mathlib.Core.Path.{◌≡◌, sym, ap, ◌∙◌}
use mathlib.Core.Bool.{true}
use mathlib.Core.List.{List}
use Prim.Native.Nat.{ℕ}
use Rattle.clock.specs.Layout.{Words, clock_of, spare_of, spare_is_zero}
use Rattle.clock.proofs.Words.{same_for_ever, spare_stays}
use Rattle.clock_form.proofs.ByCalls.{decode_encoded}
use Rattle.moved.specs.RealTimeClock.{Leaves, Arrives, Same}

module _ {clock form clock' : List ℕ} (w : Words clock) (l : Leaves clock form) (a : Arrives form clock') where
  -- what the first host saved is read back, if its spare words are 0
  pub back : spare_is_zero clock ≡ true → (a.answer ≡ 0) × (a.saved ≡ l.saved)
  back z =
      let b = decode_encoded (rw l.saves w) (ap spare_is_zero l.saves ∙ z) l.room l.encodes (rw l.bytes at a.decodes) in
      (b.1, b.2)

  -- Saved, written, read and restored: nothing is refused, and the same calls have the same results as on the clock that was saved.
  pub moved : spare_is_zero clock ≡ true → Same clock form clock' a
  moved z =
      let same : clock' ≡ clock = a.restores.words ∙ (back z).1 ∙ l.saves in
      record {
        read = (back z).0;
        words = same;
        runs = λ here there.
            let k = same_for_ever (ap clock_of same) there here in
            (k.0, (k.1, spare_stays there ∙ ap spare_of same ∙ sym (spare_stays here)));
      }
