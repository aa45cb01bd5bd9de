-- A saved clock as bytes: a version of two bytes, then its words but the spare ones, four bytes each. The lowest byte of a number is its
-- first.
use Rattle.std.specs.Prelude.{ℕ, cond, List, [], ◌∷◌, ◌++◌, eqb, ltb, length, take, drop}
use Rattle.common.specs.Bytes.{bytes_of, value_of}
use Rattle.common.specs.Forms.{Reason, too_short, trailing, version}

-- The version that is written, and the only one that is read.
abbrev pub current : ℕ
current = 1

-- How many bytes every form has.
abbrev pub form_length : ℕ
form_length = 26

-- ---- Writing

unfoldable pub bytes_of_words : List ℕ → List ℕ
bytes_of_words [] = []
bytes_of_words (word ∷ words) = bytes_of 4 word ++ bytes_of_words words

unfoldable pub form_of : List ℕ → List ℕ
form_of words = bytes_of 2 current ++ bytes_of_words (take 6 words)

-- ---- Reading

pub data Read : Type 0 where
  refused : Reason → Read
  reads : List ℕ → Read

-- What stands where.
abbrev pub version_in : List ℕ → ℕ
version_in form = value_of (take 2 form)

abbrev pub word_at : List ℕ → ℕ → ℕ
word_at form place = value_of (take 4 (drop place form))

unfoldable pub words_in : List ℕ → List ℕ
words_in form = word_at form 2 ∷ word_at form 6 ∷ word_at form 10 ∷ word_at form 14 ∷ word_at form 18 ∷ word_at form 22 ∷ 0 ∷ 0 ∷ []

-- A form of the current version.
unfoldable pub read_current : List ℕ → Read
read_current form =
    cond (ltb (length form) form_length) (refused too_short)
    (cond (ltb form_length (length form)) (refused trailing)
    (reads (words_in form)))

unfoldable pub read_form : List ℕ → Read
read_form form =
    cond (ltb (length form) 2) (refused too_short)
    (cond (eqb (version_in form) current) (read_current form)
    (refused version))
