-- What the calls promise: the answer, and the lent memory after it.
use Rattle.std.specs.Prelude.{ℕ, ◌≡◌, cond, ◌&&◌, List, ◌++◌, leb, length, drop}
use Rattle.common.specs.Forms.{spare, refusal_word}
use Rattle.clock.specs.Layout.{spare_is_zero}
use Rattle.clock_form.specs.Form.{form_length, form_of, Read, refused, reads}

-- ---- Writing

-- `encode` promises: how long the form is, and the form where it has room, with all behind it as it was; or that there is none, since a
-- spare word is not 0.
pub record Encodes (words form form' : List ℕ) (r : ℕ) : Type 0 where
  pub answer : r ≡ cond (spare_is_zero words) form_length (refusal_word spare)
  pub memory : form' ≡ cond (spare_is_zero words && leb form_length (length form)) (form_of words ++ drop form_length form) form

-- ---- Reading

abbrev pub answer_of : Read → ℕ
answer_of (refused reason) = refusal_word reason
answer_of (reads words) = 0

abbrev pub words_after : Read → List ℕ → List ℕ
words_after (refused reason) saved = saved
words_after (reads words) saved = words

-- `decode` promises: 0 and the clock, or why not and the words as they were.
pub record Decodes (o : Read) (saved saved' : List ℕ) (r : ℕ) : Type 0 where
  pub answer : r ≡ answer_of o
  pub words : saved' ≡ words_after o saved
