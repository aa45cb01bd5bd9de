-- What reading a form comes to, by what is found in it.
use mathlib.Core.Path.{◌≡◌, sym, ap, ◌∙◌}
use mathlib.Core.List.{List, [], ◌∷◌}
use Prim.Native.Nat.{ℕ, suc, ◌+◌, ◌-◌, ◌≤◌, ◌<◌}
use native.Mathlib.Numerals.{add-one}
use native.Mathlib.Omega.{arith}
use lib.ListN.{length, get_or, take, drop}
use lib.Seq.{drop-cons}
use borrow.Author.Tests.{lt-ltb, le-ltb, eq-eqb, ne_eqb}
use Rattle.common.specs.Bytes.{value_of}
use Rattle.common.specs.Forms.{too_short, trailing, version, too_many}
use Rattle.serial.specs.Layout.{size_of}
use Rattle.serial_form.specs.Form.{Version, version2, version3, number_of, refused, reads, version_in, saved_in, count_in, start}
use Rattle.serial_form.specs.Form.{read_behind, read_version, read_form}
use Rattle.serial_form.specs.Outcomes.{Is}

-- ---- Behind the number

module _ (saved : List ℕ) (n : ℕ) (bytes : List ℕ) where
  pub too_many_lem : size_of saved < n → read_behind saved n bytes ≡ refused too_many
  unfolding read_behind
  too_many_lem h = rw (lt-ltb _ _ h)

  pub too_few_lem : n ≤ size_of saved → length bytes < n → read_behind saved n bytes ≡ refused too_short
  unfolding read_behind
  too_few_lem h l = rw (le-ltb _ _ h, lt-ltb _ _ l)

  pub left_over_lem : n ≤ size_of saved → n < length bytes → read_behind saved n bytes ≡ refused trailing
  unfolding read_behind
  left_over_lem h l = let m : n ≤ length bytes = omega arith in rw (le-ltb _ _ h, le-ltb _ _ m, lt-ltb _ _ l)

  pub none_left : n ≤ size_of saved → length bytes ≡ n → read_behind saved n bytes ≡ reads saved bytes
  unfolding read_behind
  none_left h e =
      let m : n ≤ length bytes = omega arith in
      let l : length bytes ≤ n = omega arith in
      rw (le-ltb _ _ h, le-ltb _ _ m, le-ltb _ _ l)

-- ---- The version

pub not_both : {n : ℕ} → n ≡ number_of version2 → n ≡ number_of version3 → ⊥
unfolding number_of
not_both e f = omega arith

-- A number that is neither is no version's.
pub of_none : {n : ℕ} → (n ≡ 3 → ⊥) → (n ≡ 2 → ⊥) → (v : Version) → n ≡ number_of v → ⊥
unfolding number_of
of_none d e version2 = e
of_none d e version3 = d

pub has_version : (v : Version) → 2 ≤ start v
unfolding start
has_version version2 = omega arith
has_version version3 = omega arith

module _ (form : List ℕ) where
  pub no_count : (v : Version) → length form < start v → read_version v form ≡ refused too_short
  unfolding read_version
  no_count v h = rw (lt-ltb _ _ h)

  pub counted : (v : Version) → start v ≤ length form
      → read_version v form ≡ read_behind (saved_in v form) (count_in v form) (drop (start v) form)
  unfolding read_version
  counted v h = rw (le-ltb _ _ h)

  pub no_version_lem : length form < 2 → read_form form ≡ refused too_short
  unfolding read_form
  no_version_lem h = rw (lt-ltb _ _ h)

  pub known_version : (v : Version) → 2 ≤ length form → Is v form → read_form form ≡ read_version v form
  unfolding read_form
  known_version version3 h e = rw (le-ltb _ _ h, eq-eqb _ _ e)
  known_version version2 h e = rw (le-ltb _ _ h, ne_eqb _ _ (not_both e), eq-eqb _ _ e)

  pub other_version_lem : 2 ≤ length form → ((v : Version) → Is v form → ⊥) → read_form form ≡ refused version
  unfolding read_form
  other_version_lem h d = rw (le-ltb _ _ h, ne_eqb _ _ (d version3), ne_eqb _ _ (d version2))

-- ---- Numbers as the code finds them

two_there : (form : List ℕ) (at : ℕ) → at + 2 ≤ length form → take 2 (drop at form) ≡ get_or form at 0 ∷ get_or form (at + 1) 0 ∷ []
two_there form at h =
    let first : at < length form = omega arith in
    let second : suc at < length form = omega arith in
    rw (drop-cons form at 0 first, drop-cons form (suc at) 0 second, add-one at)

module _ (form : List ℕ) {n : ℕ} where
  pub version_found : 2 ≤ length form → n ≡ value_of (get_or form 0 0 ∷ get_or form 1 0 ∷ []) → n ≡ version_in form
  version_found h e = e ∙ sym (ap value_of (two_there form 0 (omega arith)))

  pub count_found : (v : Version) {at : ℕ} → at ≡ start v → start v ≤ length form
      → n ≡ value_of (get_or form (at - 2) 0 ∷ get_or form (at - 1) 0 ∷ []) → n ≡ count_in v form
  unfolding count_in start
  count_found version2 s h e = rw s at e ∙ sym (ap value_of (two_there form 11 (omega arith)))
  count_found version3 s h e = rw s at e ∙ sym (ap value_of (two_there form 13 (omega arith)))
