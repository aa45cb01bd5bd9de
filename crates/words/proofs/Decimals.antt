-- Laws of decimal numbers, for a loop that goes along a word.
use Prim.Native.Nat.{ℕ, zero, suc, ◌+◌, ◌-◌, ◌*◌, ◌/◌, ◌%◌, ◌^◌, ◌≤◌, ◌<◌}
use mathlib.Core.Path.{◌≡◌, refl, ◌∙◌}
use mathlib.Core.List.{List, [], ◌∷◌}
use native.Mathlib.Numerals.{add-one}
use native.Mathlib.Nat.{pow-suc, one-le-pow}
use native.Mathlib.Omega.{arith}
use borrow.Author.Tests.{lt-ltb, le-ltb}
use lib.ListN.{length, get_or, take, drop, length-drop, drop_of_length-le}
use lib.Seq.{drop-cons, take_all}
use Rattle.std.proofs.Common.{Option, Some, None}
use Rattle.io.specs.Digits.{hex_digit_ascii, last_digits, IsDigitCount}
use Rattle.words.specs.Decimal.{longer_by, longer, number_of, decimals, decimal_of}

-- ---- A word

pub no_digits : (word : List ℕ) → length word ≡ 0 → None ≡ number_of word
unfolding number_of
no_digits [] h = refl
no_digits (c ∷ word) h = absurd (omega arith)

pub some_digits : (word : List ℕ) → (length word ≡ 0 → ⊥) → number_of word ≡ longer (drop 0 word) (Some 0)
unfolding number_of
some_digits [] h = absurd (h refl)
some_digits (c ∷ word) h = refl

-- no digit makes a number of what is none
stays_none : (word : List ℕ) → longer word None ≡ None
unfolding longer
stays_none [] = refl
stays_none (c ∷ word) = stays_none word

module _ (word : List ℕ) (i n : ℕ) where
  along : i < length word → longer (drop i word) (Some n) ≡ longer (drop (i + 1) word) (longer_by n (get_or word i 0))
  unfolding longer
  along h = rw (add-one, drop-cons word i 0 h)

  pub fails : i < length word → longer_by n (get_or word i 0) ≡ None → longer (drop i word) (Some n) ≡ None
  fails h e = along h ∙ rw e (stays_none (drop (i + 1) word))

  pub goes_on : (m : ℕ) → i < length word → longer_by n (get_or word i 0) ≡ Some m
      → longer (drop i word) (Some n) ≡ longer (drop (i + 1) word) (Some m)
  goes_on m h e = along h ∙ rw e

  pub ends : length word ≤ i → longer (drop i word) (Some n) ≡ Some n
  unfolding longer
  ends h = rw (drop_of_length-le word h)

-- ---- A word that ends a line

pub from_place : (line : List ℕ) (i : ℕ) {r : Option ℕ} → r ≡ number_of (take (length line - i) (drop i line)) → r ≡ number_of (drop i line)
from_place line i e = let whole = take_all (length line - i) (drop i line) (simp length-drop (omega arith)) in rw whole at e

-- ---- The digits of a number

-- the last digit, and those before it
last_digit : (n : ℕ) → hex_digit_ascii (n % 10) ≡ 48 + n % 10
last_digit n = rw (lt-ltb (n % 10) 10 (omega arith)) refl

one_digit : (n : ℕ) → n < 10 → hex_digit_ascii (n % 10) ≡ 48 + n
one_digit n h = let e : n % 10 ≡ n = omega arith in rw (e, lt-ltb n 10 h) refl

-- as few digits as hold a number are its digits
pub fewest_digits : (most k n : ℕ) → k ≤ most → IsDigitCount 10 1 n k → last_digits 10 k n ≡ decimals most n
unfolding decimals
fewest_digits most zero n h f = absurd (omega (arith, f.0))
fewest_digits zero (suc k) n h f = absurd (omega arith)
fewest_digits (suc most) (suc zero) n h f = let small : n < 10 = omega (arith, f.1) in rw (lt-ltb n 10 small, one_digit n small) refl
fewest_digits (suc most) (suc (suc k)) n h f =
    let less : suc (suc k) - 1 ≡ suc k = omega arith in
    let low : 10 ^ suc k ≤ n = rw less at (f.2 (omega arith)) in
    let high : n < 10 ^ suc k * 10 = rw (pow-suc 10 (suc k)) at f.1 in
    let one_less : suc k - 1 ≡ k = omega arith in
    let tenth : IsDigitCount 10 1 (n / 10) (suc k) =
    (omega arith, omega (arith, high), λ g. rw one_less (omega (arith, rw (pow-suc 10 k) at low))) in
    rw (le-ltb n 10 (omega (arith, one-le-pow k 10 (omega arith), rw (pow-suc 10 k) at low)), ← fewest_digits most (suc k) (n / 10) (omega arith) tenth, last_digit n) refl

pub fewest : {n k : ℕ} → k ≤ 20 → IsDigitCount 10 1 n k → last_digits 10 k n ≡ decimal_of n
unfolding decimal_of
fewest {n} {k} h f = fewest_digits 20 k n h f
