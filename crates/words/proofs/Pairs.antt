-- Laws of bytes that are spelled with two digits each, for a loop that goes along them.
use Prim.Native.Nat.{ℕ, suc, ◌+◌, ◌-◌, ◌*◌, ◌/◌, ◌%◌, ◌≤◌, ◌<◌}
use mathlib.Core.Path.{◌≡◌, refl, sym, ◌∙◌}
use mathlib.Core.Bool.{Bool, true, false, ◌&&◌}
use mathlib.Core.List.{List, [], ◌∷◌, ◌++◌, append_assoc, append-nil}
use native.Mathlib.Numerals.{add-one}
use native.Mathlib.Omega.{arith}
use borrow.Author.Tests.{lt-ltb, le-leb, lt-leb}
use lib.Dec.{ltb, leb}
use lib.ListN.{length, get_or, set, take, drop, length-drop, length-set, drop_of_length-le}
use lib.Seq.{drop-cons, take-suc-set, length-take-le}
use Rattle.std.proofs.Common.{Some, None, is_some}
use Rattle.words.specs.Hex.{value_of, byte_of, bytes_of, are_pairs, are_bytes, Gives}

-- ---- Digits that make no bytes

and_false : (a : Bool) → a && false ≡ false
and_false true = refl
and_false false = refl

none : {digits bytes : List ℕ} → are_bytes digits ≡ false → Gives digits bytes None
none e = record { told = rw e refl; first = rw e refl }

module _ (line : List ℕ) (from : ℕ) {bytes : List ℕ} where
  pub nothing_there : length line ≤ from → Gives (drop from line) bytes None
  unfolding are_bytes
  nothing_there h = none (rw (drop_of_length-le line h) refl)

  pub too_many : 4096 < (length line - from) / 2 → Gives (drop from line) bytes None
  unfolding are_bytes
  too_many h = none (rw (lt-leb (length (drop from line)) 8192 (rw (length-drop from line) (omega arith)), and_false (ltb 0 (length (drop from line)))) refl)

  pub not_pairs : are_pairs (drop from line) ≡ false → Gives (drop from line) bytes None
  unfolding are_bytes
  not_pairs e = none (rw (e, and_false (leb (length (drop from line)) 8192), and_false (ltb 0 (length (drop from line)))) refl)

odd_digits : (digits : List ℕ) → (length digits % 2 ≡ 0 → ⊥) → are_pairs digits ≡ false
unfolding are_pairs
odd_digits [] h = absurd (h refl)
odd_digits (high ∷ []) h = refl
odd_digits (high ∷ low ∷ rest) h =
    rw (odd_digits rest (λ e. h (omega (arith, e))), and_false (is_some (value_of low)), and_false (is_some (value_of high))) refl

pub odd : (line : List ℕ) (from : ℕ) {bytes : List ℕ} → ((length line - from) % 2 ≡ 0 → ⊥) → Gives (drop from line) bytes None
odd line from h = not_pairs line from (odd_digits (drop from line) (λ e. h (rw (length-drop from line) at e)))

-- ---- Pair by pair

-- i bytes lie there
pub record SoFar (line : List ℕ) (from : ℕ) (bytes : List ℕ) (i : ℕ) : Type 0 where
  pub long : length bytes ≡ 4096
  pub pairs : are_pairs (drop from line) ≡ are_pairs (drop (from + i * 2) line)
  pub there : bytes_of (drop from line) ≡ take i bytes ++ bytes_of (drop (from + i * 2) line)

pub none_yet : (line : List ℕ) (from : ℕ) (bytes : List ℕ) → length bytes ≡ 4096 → SoFar line from bytes 0
none_yet line from bytes l = let z : from + 0 * 2 ≡ from = omega arith in record { long = l; pairs = rw z refl; there = rw z refl }

module _ (line : List ℕ) (from : ℕ) (bytes : List ℕ) (i : ℕ) (s : SoFar line from bytes i) (h : from + i * 2 + 1 < length line) where
  abbrev high : ℕ
  high = get_or line (from + i * 2) 0

  abbrev low : ℕ
  low = get_or line (from + i * 2 + 1) 0

  pair : drop (from + i * 2) line ≡ high ∷ low ∷ drop (from + (i + 1) * 2) line
  pair =
      let next : from + (i + 1) * 2 ≡ suc (from + i * 2 + 1) = omega arith in
      let second : drop (suc (from + i * 2)) line ≡ low ∷ drop (suc (from + i * 2 + 1)) line =
      rw (← add-one (from + i * 2)) (drop-cons line (from + i * 2 + 1) 0 h) in
      rw (next, drop-cons line (from + i * 2) 0 (omega arith), second) refl

  pairs_on : are_pairs (drop from line) ≡ (is_some (value_of high) && (is_some (value_of low) && are_pairs (drop (from + (i + 1) * 2) line)))
  unfolding are_pairs
  pairs_on = s.pairs ∙ rw pair refl

  bytes_on : bytes_of (drop (from + i * 2) line) ≡ byte_of high low ∷ bytes_of (drop (from + (i + 1) * 2) line)
  unfolding bytes_of
  bytes_on = rw pair refl

  pub high_fails : {bytes' : List ℕ} → value_of high ≡ None → Gives (drop from line) bytes' None
  high_fails e = not_pairs line from (pairs_on ∙ rw e refl)

  pub low_fails : {bytes' : List ℕ} → value_of low ≡ None → Gives (drop from line) bytes' None
  low_fails e = not_pairs line from (pairs_on ∙ rw (e, and_false (is_some (value_of high))) refl)

  pub one_more : {v w : ℕ} → value_of high ≡ Some v → value_of low ≡ Some w → i < 4096 → SoFar line from (set bytes i (v * 16 + w)) (i + 1)
  unfolding byte_of
  one_more {v} {w} e f k =
      let b = v * 16 + w in
      let grown : take (i + 1) (set bytes i b) ≡ take i bytes ++ (b ∷ []) = rw (add-one i) (take-suc-set bytes i b (rw s.long k)) in
      let same : byte_of high low ≡ b = rw (e, f) refl in
      record {
        long = length-set bytes i b ∙ s.long;
        pairs = pairs_on ∙ rw (e, f) refl;
        there = s.there ∙ rw (bytes_on, same, grown) (sym (append_assoc (take i bytes) (b ∷ []) (bytes_of (drop (from + (i + 1) * 2) line))));
      }

pub all_there : (line : List ℕ) (from : ℕ) (bytes : List ℕ) (i : ℕ) {n : ℕ} → SoFar line from bytes i → i ≡ n → from < length line
    → n * 2 ≡ length line - from → n ≤ 4096 → Gives (drop from line) bytes (Some n)
unfolding are_bytes bytes_of are_pairs
all_there line from bytes i s e h even few =
    let end : drop (from + i * 2) line ≡ [] = drop_of_length-le line {i = from + i * 2} (omega arith) in
    let all : bytes_of (drop from line) ≡ take i bytes = s.there ∙ rw end (append-nil (take i bytes)) in
    let are : are_pairs (drop from line) ≡ true = s.pairs ∙ rw end refl in
    let n = length-drop from line in
    let some = lt-ltb 0 (length (drop from line)) (omega arith) in
    let fit = le-leb (length (drop from line)) 8192 (omega arith) in
    rw (← e)
    (record {
      told = rw (are, some, fit, all, length-take-le i bytes (rw s.long (omega arith))) refl;
      first = rw (are, some, fit, all) refl;
    })
