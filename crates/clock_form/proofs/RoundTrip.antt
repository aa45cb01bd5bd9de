-- Writing and reading are inverse. That nothing past the end is read needs no theorem: no index is out of range in code that is proved.
use mathlib.Core.Path.{◌≡◌, refl, sym, ap, ◌∙◌}
use mathlib.Core.Bool.{true}
use mathlib.Core.List.{List, [], ◌∷◌, ◌++◌}
use Prim.Native.Nat.{ℕ, zero, suc, ◌+◌, ◌^◌, ◌≤◌, ◌<◌}
use native.Mathlib.Omega.{arith}
use lib.Dec.{lit<}
use lib.ListN.{length, get_or, take, drop, length-drop, take-append-drop, drop_of_length-le}
use lib.Seq.{drop-drop, length-take-le}
use Rattle.common.specs.Bytes.{bytes_of, value_of, Bytes}
use Rattle.common.proofs.Bytes.{bytes_take, bytes_drop, value_of_bytes, value_small, bytes_of_value}
use Rattle.clock.specs.Layout.{Words, spare_of, spare_is_zero}
use Rattle.clock.proofs.Stores.{eight_are}
use Rattle.clock.proofs.Spare.{spare_zero}
use Rattle.clock_form.specs.Form.{current, form_length, bytes_of_words, form_of, reads}
use Rattle.clock_form.specs.Form.{version_in, word_at, words_in, read_form}
use Rattle.clock_form.specs.Outcomes.{Known, Comes, whole, ReadFrom}
use Rattle.clock_form.proofs.Numbers.{form_length_lem}
use Rattle.clock_form.proofs.Reading.{only_so, comes}

-- ---- What was written is read back

-- Words with their spare ones cleared.
abbrev cleared : List ℕ → List ℕ
cleared words = take 6 words ++ (0 ∷ 0 ∷ [])

pub words_back : (words : List ℕ) → Words words → words_in (form_of words) ≡ cleared words
unfolding words_in form_of bytes_of_words bytes_of
words_back words w = eight_are (λ l. Words l → words_in (form_of l) ≡ cleared l) each words w.eight w
  where
    back : {l : List ℕ} → Words l → (i : ℕ) → value_of (bytes_of 4 (get_or l i 0)) ≡ get_or l i 0
    back {l} w i = value_of_bytes 4 (get_or l i 0) (w.small i)

    each : (a b c d e f g h : ℕ) → Words (a ∷ b ∷ c ∷ d ∷ e ∷ f ∷ g ∷ h ∷ [])
        → words_in (form_of (a ∷ b ∷ c ∷ d ∷ e ∷ f ∷ g ∷ h ∷ [])) ≡ a ∷ b ∷ c ∷ d ∷ e ∷ f ∷ 0 ∷ 0 ∷ []
    each a b c d e f g h w = rw (back w 0, back w 1, back w 2, back w 3, back w 4, back w 5)

-- Nothing is lost where they are 0.
nothing_cleared : (words : List ℕ) → length words ≡ 8 → spare_is_zero words ≡ true → cleared words ≡ words
unfolding spare_of
nothing_cleared words n z = eight_are (λ l. spare_of l ≡ 0 ∷ 0 ∷ [] → cleared l ≡ l) each words n (spare_zero words z)
  where
    each : (a b c d e f g h : ℕ) → g ∷ h ∷ [] ≡ 0 ∷ 0 ∷ [] → a ∷ b ∷ c ∷ d ∷ e ∷ f ∷ 0 ∷ 0 ∷ [] ≡ a ∷ b ∷ c ∷ d ∷ e ∷ f ∷ g ∷ h ∷ []
    each a b c d e f g h z = rw z

version_back : (words : List ℕ) → version_in (form_of words) ≡ current
unfolding form_of bytes_of value_of
version_back words = refl

-- What was written of any words is read, with their spare ones cleared.
pub read_any : (words : List ℕ) → Words words → read_form (form_of words) ≡ reads (cleared words)
read_any words w = only_so (form_of words) (whole known long) ∙ ap reads (words_back words w)
  where
    long : length (form_of words) ≡ form_length
    long = form_length_lem words w.eight

    known : Known (form_of words)
    known = record { there = omega (arith, long); known = version_back words }

-- So any clock whose spare words are 0 is read as it was, whatever its offset.
pub read_written : (words : List ℕ) → Words words → spare_is_zero words ≡ true → read_form (form_of words) ≡ reads words
read_written words w z = read_any words w ∙ ap reads (nothing_cleared words w.eight z)

-- ---- What is read is a clock whose spare words are 0, and is written as the same bytes

module _ (form : List ℕ) (b : Bytes form) (all : length form ≡ form_length) where
  module _ (place : ℕ) (inside : place + 4 ≤ length form) where
    four : length (take 4 (drop place form)) ≡ 4
    four = length-take-le 4 (drop place form) (simp length-drop (omega arith))

    small : Bytes (take 4 (drop place form))
    small = bytes_take 4 (drop place form) (bytes_drop place form b)

    word_small : word_at form place < 2 ^ 32
    word_small = rw four at (value_small (take 4 (drop place form)) small)

    -- its bytes, and those behind them
    word_again : {behind : List ℕ} → behind ≡ drop (place + 4) form → bytes_of 4 (word_at form place) ++ behind ≡ drop place form
    word_again e =
        let again : bytes_of 4 (word_at form place) ≡ take 4 (drop place form) = rw four at (bytes_of_value (take 4 (drop place form)) small) in
        rw (again, e, ← drop-drop 4 place form) (take-append-drop 4 (drop place form))

  read_words : Words (words_in form)
  unfolding words_in
  read_words = record { eight = refl; small = at }
    where
      at : (i : ℕ) → get_or (words_in form) i 0 < 2 ^ 32
      at zero = word_small 2 (omega arith)
      at (suc zero) = word_small 6 (omega arith)
      at (suc (suc zero)) = word_small 10 (omega arith)
      at (suc (suc (suc zero))) = word_small 14 (omega arith)
      at (suc (suc (suc (suc zero)))) = word_small 18 (omega arith)
      at (suc (suc (suc (suc (suc zero))))) = word_small 22 (omega arith)
      at (suc (suc (suc (suc (suc (suc zero)))))) = lit< tt
      at (suc (suc (suc (suc (suc (suc (suc zero))))))) = lit< tt
      at (suc (suc (suc (suc (suc (suc (suc (suc i)))))))) = lit< tt

  same_form : version_in form ≡ current → form_of (words_in form) ≡ form
  unfolding form_of bytes_of_words words_in
  same_form v =
      let two : length (take 2 form) ≡ 2 = length-take-le 2 form (omega arith) in
      let front : bytes_of 2 current ≡ take 2 form = rw (two, v) at (bytes_of_value (take 2 form) (bytes_take 2 form b)) in
      let most : length form ≤ form_length = omega arith in
      let end : [] ≡ drop form_length form = sym (drop_of_length-le form most) in
      let words =
      word_again 2 (omega arith) (word_again 6 (omega arith) (word_again 10 (omega arith)
      (word_again 14 (omega arith) (word_again 18 (omega arith) (word_again 22 (omega arith) end))))) in
      rw (front, words) (take-append-drop 2 form)

zero_read : (form : List ℕ) → spare_is_zero (words_in form) ≡ true
unfolding words_in spare_is_zero
zero_read form = refl

pub written_read : (form words : List ℕ) → Bytes form → read_form form ≡ reads words → ReadFrom form words
written_read form words b r = go (rw r at (comes form))
  where
    go : {words : List ℕ} → Comes form (reads words) → ReadFrom form words
    go (whole k e) = record { long = e; fits = read_words form b e; spare = zero_read form; written = same_form form b e k.known }
