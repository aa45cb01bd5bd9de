-- What `memchr` finds is the first place of a byte.
use Rattle.std.proofs.Common.{ℕ, zero, suc, ◌+◌, ◌-◌, ◌≤◌, ◌<◌, ◌≡◌, ◌==◌, refl, ap, Bool, true, false, List, [], ◌∷◌, length, take, drop, arith}
use Rattle.memchr.specs.Find.{is_byte, Passes, NoneBefore, Nowhere}
use Rattle.pieces.specs.Finding.{index_of, index_after, slice}
use Rattle.pieces.proofs.Lines.{part, length_part}

nowhere : (byte : ℕ) (xs : List ℕ) → ((k : ℕ) → k < length xs → Passes (is_byte byte) xs k → ⊥) → index_of byte xs ≡ length xs
unfolding index_of index_after
nowhere byte [] h = refl
nowhere byte (x ∷ xs) h = at_head (x == byte) refl (nowhere byte xs (λ k l p. h (suc k) (omega arith) p)) where
  at_head : (b : Bool) → (x == byte) ≡ b → index_of byte xs ≡ length xs → index_after b (index_of byte xs) ≡ suc (length xs)
  at_head true e more = absurd (h 0 (omega arith) e)
  at_head false e more = ap suc more

first : (byte : ℕ) (xs : List ℕ) (i : ℕ) → i < length xs → ((k : ℕ) → k < i → Passes (is_byte byte) xs k → ⊥) → Passes (is_byte byte) xs i
    → index_of byte xs ≡ i
unfolding index_of index_after
first byte [] i l h p = absurd (omega arith)
first byte (x ∷ xs) zero l h p = rw p refl
first byte (x ∷ xs) (suc i) l h p =
    at_head (x == byte) refl (first byte xs i (omega arith) (λ k g q. h (suc k) (omega arith) q) p)
  where
    at_head : (b : Bool) → (x == byte) ≡ b → index_of byte xs ≡ i → index_after b (index_of byte xs) ≡ suc i
    at_head true e more = absurd (h 0 (omega arith) e)
    at_head false e more = ap suc more

module _ (byte from to : ℕ) (all : List ℕ) (first_to : from ≤ to) where
  pub found : (i : ℕ) → NoneBefore (Passes (is_byte byte) (take (to - from) (drop from all))) 0 (length (take (to - from) (drop from all))) i
      → Passes (is_byte byte) (take (to - from) (drop from all)) i
      → from + i ≡ from + index_of byte (slice from to all)
  found i n p = rw (part from to all, first byte (take (to - from) (drop from all)) i n.high (λ k l. n.before k (omega arith) l) p) refl

  pub missed : (held : to ≤ length all) → Nowhere (Passes (is_byte byte) (take (to - from) (drop from all))) 0 (length (take (to - from) (drop from all)))
      → to ≡ from + index_of byte (slice from to all)
  missed held n =
      let e = nowhere byte (take (to - from) (drop from all)) (λ k l. n k (omega arith) l) in
      rw (part from to all, e, length_part from to all held) (omega arith)
