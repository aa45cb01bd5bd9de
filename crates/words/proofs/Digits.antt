-- The digits of bytes are put pair by pair.
use Rattle.std.proofs.Common.{◌≡◌, ℕ, ◌+◌, ◌*◌, ◌/◌, ◌%◌, ◌≤◌, ◌<◌, List, [], ◌∷◌, ◌++◌, length, get_or, set, take, take_all, length-set, refl, sym, ap, ◌∙◌, append_assoc, arith}
use Rattle.std.specs.List.{flat_map}
use Rattle.std.proofs.lemmas.List.{flat_map_more, take_more, take_more_set}
use Rattle.words.specs.Hex.{digit_of, digits_of}

-- the digits of i bytes lie there
pub record SoFar (bytes space : List ℕ) (i : ℕ) : Type 0 where
  pub long : length space ≡ 2 * length bytes
  pub there : take (2 * i) space ≡ flat_map digits_of (take i bytes)

pub none_yet : (bytes space : List ℕ) → length space ≡ 2 * length bytes → SoFar bytes space 0
none_yet bytes space h = record { long = h; there = refl }

module _ (bytes space : List ℕ) (i : ℕ) (h : i < length bytes) (s : SoFar bytes space i) where
  abbrev byte : ℕ
  byte = get_or bytes i 0

  abbrev with_high : List ℕ
  with_high = set space (2 * i) (digit_of (byte / 16))

  abbrev with_low : List ℕ
  with_low = set with_high (2 * i + 1) (digit_of (byte % 16))

  pair_there : take (2 * i + 1 + 1) with_low ≡ take (2 * i) space ++ (digit_of (byte / 16) ∷ digit_of (byte % 16) ∷ [])
  pair_there =
      let room : 2 * i < length space = omega (arith, s.long) in
      let more : 2 * i + 1 < length with_high = rw (length-set space (2 * i) (digit_of (byte / 16))) (omega (arith, s.long)) in
      let first : take (2 * i + 1) with_high ≡ take (2 * i) space ++ (digit_of (byte / 16) ∷ []) = take_more_set space (2 * i) _ room in
      take_more_set with_high (2 * i + 1) _ more ∙ ap (λ (l : List ℕ). l ++ (digit_of (byte % 16) ∷ [])) first
      ∙ append_assoc (take (2 * i) space) (digit_of (byte / 16) ∷ []) (digit_of (byte % 16) ∷ [])

  spelled : flat_map digits_of (take (i + 1) bytes) ≡ flat_map digits_of (take i bytes) ++ digits_of byte
  spelled = sym (flat_map_more digits_of [] (take i bytes) byte ∙ ap (flat_map digits_of) (sym (take_more bytes i 0 h)))

  pub one_more : SoFar bytes with_low (i + 1)
  unfolding digits_of
  one_more =
      let next : 2 * (i + 1) ≡ 2 * i + 1 + 1 = omega arith in
      record {
        long = length-set with_high (2 * i + 1) _ ∙ length-set space (2 * i) _ ∙ s.long;
        there = rw next (pair_there ∙ ap (λ (l : List ℕ). l ++ (digit_of (byte / 16) ∷ digit_of (byte % 16) ∷ [])) s.there ∙ sym spelled);
      }

pub all_there : (bytes space : List ℕ) (i : ℕ) → length bytes ≤ i → SoFar bytes space i → space ≡ flat_map digits_of bytes
all_there bytes space i h s = sym (take_all (2 * i) space (omega (arith, s.long))) ∙ s.there ∙ ap (flat_map digits_of) (take_all i bytes h)
