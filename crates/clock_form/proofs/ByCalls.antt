-- Writing and reading are inverse, by the calls.
use mathlib.Core.Path.{◌≡◌, refl, sym, ap, ◌∙◌}
use mathlib.Core.Bool.{true, false}
use mathlib.Core.List.{List, ◌++◌}
use Prim.Native.Nat.{ℕ, ◌≤◌}
use native.Mathlib.Omega.{arith}
use lib.ListN.{length, take, drop}
use lib.Seq.{take_at}
use borrow.Author.Tests.{le-leb}
use Rattle.common.specs.Bytes.{Bytes}
use Rattle.clock.specs.Layout.{Words, spare_is_zero}
use Rattle.clock_form.specs.Form.{form_length, form_of, Read, refused, reads}
use Rattle.clock_form.specs.Form.{read_form}
use Rattle.clock_form.specs.Calls.{answer_of, words_after, Encodes, Decodes}
use Rattle.clock_form.proofs.Numbers.{form_length_lem}
use Rattle.clock_form.proofs.RoundTrip.{read_written, written_read}

-- No spare word is dropped: the writer refuses it, and nothing is written.
pub spare_refused : {words form form' : List ℕ} {r : ℕ} → spare_is_zero words ≡ false → Encodes words form form' r
    → (r ≡ 0x1_0006) × (form' ≡ form)
spare_refused z e = (rw z at e.answer, rw z at e.memory)

-- Whatever is answered but 0, the words are as they were.
pub decode_refused : {o : Read} {saved saved' : List ℕ} {r : ℕ} → Decodes o saved saved' r → (r ≡ 0 → ⊥) → saved' ≡ saved
decode_refused {o = refused reason} d n = d.words
decode_refused {o = reads words} d n = absurd (n d.answer)

-- Where there is room, the form lies first.
encoded : {words form form' : List ℕ} {r : ℕ} → length words ≡ 8 → spare_is_zero words ≡ true → form_length ≤ length form
    → Encodes words form form' r
    → (r ≡ form_length) × (take r form' ≡ form_of words)
encoded {words} {form} {form'} {r} eight z h e =
    let long : r ≡ form_length = rw z at e.answer in
    let there : form' ≡ form_of words ++ drop form_length form = rw (z, le-leb form_length (length form) h) at e.memory in
    (long, rw (long, there) (take_at (form_of words) (drop form_length form) form_length (form_length_lem words eight)))

-- Written into memory with room for it, and read from there.
pub decode_encoded : {words form form' saved saved' : List ℕ} {r r' : ℕ} → Words words → spare_is_zero words ≡ true → form_length ≤ length form
    → Encodes words form form' r → Decodes (read_form (take r form')) saved saved' r' → (r ≡ form_length) × (r' ≡ 0) × (saved' ≡ words)
decode_encoded {words} {saved = saved} w z h e d =
    let there = encoded w.eight z h e in
    let back = ap read_form there.1 ∙ read_written words w z in
    (there.0, d.answer ∙ ap answer_of back, d.words ∙ ap (λ (o : Read). words_after o saved) back)

-- Read, and written into memory with room for it.
pub encode_decoded : {form saved words memory memory' : List ℕ} {r : ℕ} → Bytes form → Decodes (read_form form) saved words 0
    → Encodes words memory memory' r → form_length ≤ length memory → (r ≡ length form) × (take r memory' ≡ form)
encode_decoded {form} {saved} {words} {memory} {memory'} {r} b d e h = go (read_form form) refl d.answer d.words
  where
    go : (o : Read) → read_form form ≡ o → 0 ≡ answer_of o → words ≡ words_after o saved → (r ≡ length form) × (take r memory' ≡ form)
    go (refused reason) s a v = absurd (omega arith)
    go (reads read) s a v =
        let k = written_read form words b (s ∙ ap reads (sym v)) in
        let there = encoded k.fits.eight k.spare h e in
        (there.0 ∙ sym k.long, there.1 ∙ k.written)
