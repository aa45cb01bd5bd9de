-- What reading comes to, by conditions alone and exactly.
use mathlib.Core.Path.{◌≡◌, ◌∙◌}
use mathlib.Core.Bool.{false}
use mathlib.Core.List.{List}
use Prim.Native.Nat.{ℕ, ◌<◌}
use native.Mathlib.Decide.{dec_lt, ℕ_discrete}
use native.Mathlib.Omega.{arith}
use lib.Dec.{ltb}
use lib.ListN.{length}
use borrow.Author.Tests.{lt-ltb, le-ltb, eq-eqb, ne_eqb}
use Rattle.clock_form.specs.Form.{current, form_length, Read, version_in, read_current, read_form}
use Rattle.clock_form.specs.Outcomes.{Known, Comes, no_version, other_version, cut_off, left_over, whole}

module _ (form : List ℕ) where
  known_current : Known form → read_form form ≡ read_current form
  unfolding read_form
  known_current k = rw (le-ltb (length form) 2 k.there, eq-eqb (version_in form) current k.known)

  module _ (all : length form ≡ form_length) where
    neither_short : ltb (length form) form_length ≡ false
    neither_short = le-ltb (length form) form_length (omega arith)

    nor_long : ltb form_length (length form) ≡ false
    nor_long = le-ltb form_length (length form) (omega arith)

  -- Where the conditions hold, the form is read so,
  pub only_so : {o : Read} → Comes form o → read_form form ≡ o
  unfolding read_form read_current
  only_so (no_version h) = rw (lt-ltb (length form) 2 h)
  only_so (other_version h v) = rw (le-ltb (length form) 2 h, ne_eqb (version_in form) current v)
  only_so (cut_off k h) = known_current k ∙ rw (lt-ltb (length form) form_length h)
  only_so (left_over k h) = known_current k ∙ rw (le-ltb (length form) form_length (omega arith), lt-ltb form_length (length form) h)
  only_so (whole k e) = known_current k ∙ rw (neither_short e, nor_long e)

  -- and some conditions always hold. So there is no form between.
  pub comes : Comes form (read_form form)
  comes =
      go (dec_lt (length form) 2) (ℕ_discrete (version_in form) current) (dec_lt (length form) form_length) (dec_lt form_length (length form))
    where
      by : {o : Read} → Comes form o → Comes form (read_form form)
      by o = rw (only_so o) o

      go : Dec (length form < 2) → Dec (version_in form ≡ current) → Dec (length form < form_length) → Dec (form_length < length form)
          → Comes form (read_form form)
      go (yes h) v s t = by (no_version h)
      go (no h) (no v) s t = by (other_version (omega arith) v)
      go (no h) (yes v) (yes s) t = by (cut_off (record { there = omega arith; known = v }) s)
      go (no h) (yes v) (no s) (yes t) = by (left_over (record { there = omega arith; known = v }) t)
      go (no h) (yes v) (no s) (no t) = by (whole (record { there = omega arith; known = v }) (omega arith))
