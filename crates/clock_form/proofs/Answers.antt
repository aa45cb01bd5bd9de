-- What each return of the code is in the definition.
use mathlib.Core.Path.{◌≡◌, refl, sym, ◌∙◌}
use mathlib.Core.Bool.{Bool, true, false}
use mathlib.Core.List.{List, [], ◌∷◌}
use Prim.Native.Nat.{ℕ, ◌+◌, ◌≤◌, ◌<◌}
use native.Mathlib.Omega.{arith}
use lib.ListN.{length, get_or}
use lib.Seq.{sets, sets-eq}
use borrow.Author.Tests.{le-leb, lt-leb}
use Rattle.std.specs.Int.{w16, from_le_bytes}
use Rattle.common.specs.Bytes.{value_of}
use Rattle.common.specs.Forms.{Reason, too_short, trailing, version, spare, refusal_word}
use Rattle.clock.specs.Layout.{spare_is_zero}
use Rattle.clock_form.specs.Form.{current, form_length, form_of, Read, refused, version_in, words_in, read_form}
use Rattle.clock_form.specs.Calls.{Encodes, Decodes}
use Rattle.clock_form.specs.Outcomes.{Known, no_version, other_version, cut_off, left_over, whole}
use Rattle.clock_form.proofs.Numbers.{form_length_lem}
use Rattle.clock_form.proofs.Reading.{only_so}

-- ---- Writing

module _ (words form : List ℕ) {zero : Bool} (spares : zero ≡ spare_is_zero words) where
  is : {t : Bool} → zero ≡ t → spare_is_zero words ≡ t
  is z = sym spares ∙ z

  pub encode_spare : zero ≡ false → Encodes words form form (refusal_word spare)
  encode_spare z = record { answer = rw (is z); memory = rw (is z) }

  pub encode_tells : zero ≡ true → length form < form_length → Encodes words form form form_length
  encode_tells z h = record { answer = rw (is z); memory = rw (is z, lt-leb form_length (length form) h) }

  pub encode_writes : zero ≡ true → length words ≡ 8 → form_length ≤ length form → {form' : List ℕ} → form' ≡ sets form 0 (form_of words)
      → Encodes words form form' form_length
  encode_writes z eight h s =
      let room : 0 + length (form_of words) ≤ length form = omega (arith, form_length_lem words eight) in
      record {
        answer = rw (is z);
        memory = rw (s, is z, le-leb form_length (length form) h) (rw (form_length_lem words eight) at (sets-eq (form_of words) form 0 room));
      }

-- ---- Reading

refuses : {o : Read} (reason : Reason) (saved : List ℕ) → o ≡ refused reason → Decodes o saved saved (refusal_word reason)
refuses reason saved e = rw e (record { answer = refl; words = refl })

-- The first two bytes, as the library's number.
version_of : (form : List ℕ) → 2 ≤ length form → from_le_bytes w16 (get_or form 0 0 ∷ get_or form 1 0 ∷ []) ≡ version_in form
unfolding value_of
version_of [] h = absurd (omega arith)
version_of (x ∷ []) h = absurd (omega arith)
version_of (x ∷ y ∷ form) h = omega arith

module _ (form saved : List ℕ) where
  pub decode_no_version : length form < 2 → Decodes (read_form form) saved saved (refusal_word too_short)
  decode_no_version h = refuses too_short saved (only_so form (no_version h))

  module _ (there : 2 ≤ length form) {n : ℕ} (number : n ≡ from_le_bytes w16 (get_or form 0 0 ∷ get_or form 1 0 ∷ [])) where
    pub decode_other_version : (n ≡ current → ⊥) → Decodes (read_form form) saved saved (refusal_word version)
    decode_other_version v = refuses version saved (only_so form (other_version there (λ e. v (number ∙ version_of form there ∙ e))))

    module _ (v : n ≡ current) where
      known : Known form
      known = record { there = there; known = sym (number ∙ version_of form there) ∙ v }

      pub decode_cut_off : length form < form_length → Decodes (read_form form) saved saved (refusal_word too_short)
      decode_cut_off h = refuses too_short saved (only_so form (cut_off known h))

      pub decode_left_over : form_length < length form → Decodes (read_form form) saved saved (refusal_word trailing)
      decode_left_over h = refuses trailing saved (only_so form (left_over known h))

      pub decode_reads : length form ≡ form_length → {saved' : List ℕ} → saved' ≡ words_in form → Decodes (read_form form) saved saved' 0
      decode_reads all s = rw (only_so form (whole known all)) (record { answer = refl; words = s })
