-- Bytes leave the ring's order, one by one.
use Rattle.std.proofs.Common.{◌≡◌, ℕ, ◌+◌, ◌%◌, ◌<◌, ◌≤◌, List, length, get_or, drop, set, sym, refl, ap, ◌∙◌, add-one, arith, length-set, drop-drop, take-suc-set, drop-set-lt}
use native.Mathlib.Nat.{mod-add-mod}
use Rattle.ring.specs.Ring.{queue, Unrolled}
use Rattle.ring.proofs.Laws.{queue_split}

-- i of n bytes lie there
pub record SoFar (places : ℕ) (ring : List ℕ) (start n : ℕ) (memory₀ memory : List ℕ) (i : ℕ) : Type 0 where
  pub long : length memory ≡ places
  pub far : i ≤ n
  pub there : Unrolled places ring start i memory₀ memory

module _ (places : ℕ) (ring : List ℕ) (start n : ℕ) (memory₀ : List ℕ) where
  pub none_yet : length memory₀ ≡ places → SoFar places ring start n memory₀ memory₀ 0
  unfolding queue
  none_yet l = record { long = l; far = omega arith; there = record { bytes = refl; others = refl } }

  pub one_more : (memory : List ℕ) (i : ℕ) → n ≤ places → i < n → SoFar places ring start n memory₀ memory i
      → SoFar places ring start n memory₀ (set memory i (get_or ring ((start % places + i) % places) 0)) (i + 1)
  unfolding queue
  one_more memory i fits h s =
      let inside : i < length memory = omega (arith, s.long) in
      let later : drop (i + 1) memory ≡ drop (i + 1) memory₀ =
      sym (drop-drop 1 i memory) ∙ ap (λ (l : List ℕ). drop 1 l) s.there.others ∙ drop-drop 1 i memory₀ in
      record {
        long = length-set memory i _ ∙ s.long;
        far = omega arith;
        there = record {
          bytes = rw (mod-add-mod, queue_split places ring start i 1, add-one i, take-suc-set memory i _ inside, s.there.bytes);
          others = drop-set-lt (i + 1) memory i _ (omega arith) ∙ later;
        };
      }

  pub all_there : (memory : List ℕ) (i : ℕ) → n ≤ i → SoFar places ring start n memory₀ memory i
      → Unrolled places ring start n memory₀ memory
  all_there memory i h s = let e : n ≡ i = omega (arith, s.far) in rw e s.there
