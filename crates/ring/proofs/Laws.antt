-- Laws of the ring, for any number of places.
use Rattle.std.proofs.Common.{◌≡◌, ℕ, zero, suc, ◌+◌, ◌-◌, ◌%◌, ◌<◌, ◌≤◌, List, [], ◌∷◌, ◌++◌, length, get_or, take, set, sym, refl, ap, subst, ◌∙◌, ap₂, append_assoc, append-nil, add-zero, add_assoc, mod-lt, mod-eq_of_lt, add-one, sub-one, arith, length-set, get_or-set_other, take-suc, get_or-set_same}
use mathlib.Core.List.{tail}
use native.Mathlib.Nat.{mod-mod, mod-add-mod, add-mod_right, mod-eq-sub-mod}
use native.Mathlib.Decide.{dec_lt}
use Rattle.ring.specs.Ring.{queue, Put}

pub queue_length : (c : ℕ) (s : List ℕ) (i n : ℕ) → length (queue c s i n) ≡ n
unfolding queue
queue_length c s i zero = refl
queue_length c s i (suc n) = ap suc (queue_length c s (i + 1) n)

-- Two starts that are the same place have the same bytes behind them.
pub queue_round : (c : ℕ) (s : List ℕ) (i j n : ℕ) → i % c ≡ j % c → queue c s i n ≡ queue c s j n
unfolding queue
queue_round c s i j zero e = refl
queue_round c s i j (suc n) e =
    ap₂ ◌∷◌ (ap (λ (x : ℕ). get_or s x 0) e)
    (queue_round c s (i + 1) (j + 1) n (sym (mod-add-mod i c 1) ∙ ap (λ (x : ℕ). (x + 1) % c) e ∙ mod-add-mod j c 1))

pub queue_split : (c : ℕ) (s : List ℕ) (i n m : ℕ) → queue c s i (n + m) ≡ queue c s i n ++ queue c s (i + n) m
unfolding queue
queue_split c s i zero m =
    let d : 0 + m ≡ m = omega arith in
    let e : i + 0 ≡ i = omega arith in
    rw (d, e)
queue_split c s i (suc n) m =
    let e : i + suc n ≡ i + 1 + n = omega arith in
    let d : suc n + m ≡ suc (n + m) = omega arith in
    rw (d, e) (ap (λ (l : List ℕ). get_or s (i % c) 0 ∷ l) (queue_split c s (i + 1) n m))

-- The first byte, and those behind it.
pub queue_first : (c : ℕ) (s : List ℕ) (i n : ℕ) → (n ≡ 0 → ⊥) → queue c s i n ≡ get_or s (i % c) 0 ∷ queue c s ((i + 1) % c) (n - 1)
unfolding queue
queue_first c s i zero h = absurd (h refl)
queue_first c s i (suc n) h = rw (sub-one, queue_round c s ((i + 1) % c) (i + 1) n (mod-mod (i + 1) c))

-- Places less than the whole way apart differ.
apart : (c i k : ℕ) → 0 < k → k < c → i % c ≡ (i + k) % c → ⊥
apart c i k p h e = go (dec_lt (i % c + k) c)
  where
    low : i % c < c
    low = mod-lt i (omega arith)

    same : i % c ≡ (i % c + k) % c
    same = e ∙ sym (mod-add-mod i c k)

    go : Dec (i % c + k < c) → ⊥
    go (yes w) = omega (arith, low, same, mod-eq_of_lt w)
    go (no w) =
        let over : c ≤ i % c + k = omega arith in
        let less : i % c + k - c < c = omega (arith, low) in
        omega (arith, low, same, mod-eq-sub-mod over, mod-eq_of_lt less)

-- A store k places on changes none of the first k bytes.
pub queue_elsewhere : (c : ℕ) (s : List ℕ) (b i k n : ℕ) → n ≤ k → k < c → queue c (set s ((i + k) % c) b) i n ≡ queue c s i n
unfolding queue
queue_elsewhere c s b i k zero h l = refl
queue_elsewhere c s b i k (suc n) h l =
    let e : i + k ≡ i + 1 + (k - 1) = omega arith in
    ap₂ ◌∷◌ (get_or-set_other s ((i + k) % c) (i % c) b 0 (apart c i k (omega arith) l))
    (subst (λ (x : ℕ). queue c (set s (x % c) b) (i + 1) n ≡ queue c s (i + 1) n) (sym e) (queue_elsewhere c s b (i + 1) (k - 1) n (omega arith) (omega arith)))

-- ---- Bytes are put behind those that wait

pub put_none : (c : ℕ) (s : List ℕ) (start n : ℕ) → Put c s start n [] s n
put_none c s start n = record { behind = sym (append-nil _); rest = refl }

module _ (c : ℕ) {s bytes s₁ : List ℕ} {start n m : ℕ} (b : ℕ) (p : Put c s start n bytes s₁ m) (h : m < c) (l : length s₁ ≡ c) where
  abbrev s₂ : List ℕ
  s₂ = set s₁ ((start + m) % c) b

  one_more : queue c s₂ start (m + 1) ≡ queue c s start n ++ (bytes ++ (b ∷ []))
  unfolding queue
  one_more =
      let inside : (start + m) % c < length s₁ = rw l (mod-lt (start + m) (omega arith)) in
      queue_split c s₂ start m 1
      ∙ rw (queue_elsewhere c s₁ b start m m (omega arith) h, get_or-set_same s₁ ((start + m) % c) b 0 inside, p.behind, append_assoc)

  -- what was spare but for its first byte
  fewer : queue c s₁ (start + (m + 1)) (c - (m + 1)) ≡ queue c s (start + (m + 1)) (c - (m + 1))
  unfolding queue
  fewer =
      let d : c - m ≡ suc (c - (m + 1)) = omega arith in
      let e : start + m + 1 ≡ start + (m + 1) = omega arith in
      rw e at (ap tail (rw d at p.rest))

  kept : queue c s₂ (start + (m + 1)) (c - (m + 1)) ≡ queue c s₁ (start + (m + 1)) (c - (m + 1))
  kept =
      let e : start + (m + 1) + (c - 1) ≡ start + m + c = omega arith in
      let d : (start + (m + 1) + (c - 1)) % c ≡ (start + m) % c = rw e (add-mod_right (start + m) c) in
      rw (sym d) (queue_elsewhere c s₁ b (start + (m + 1)) (c - 1) (c - (m + 1)) (omega arith) (omega arith))

  pub put_more : Put c s start n (bytes ++ (b ∷ [])) s₂ (m + 1)
  put_more = record { behind = one_more; rest = kept ∙ fewer }

-- ---- The bytes of an input are put there one by one

-- i of k bytes are there; the code counts places from `from`
pub record SoFar (c : ℕ) (ring₀ : List ℕ) (start n : ℕ) (input : List ℕ) (k from : ℕ) (ring : List ℕ) (i : ℕ) : Type 0 where
  pub whole : length ring ≡ c
  pub far : i ≤ k
  pub place : from ≡ (start + n) % c
  pub put : Put c ring₀ start n (take i input) ring (n + i)

module _ (c : ℕ) (ring₀ : List ℕ) (start n : ℕ) (input : List ℕ) (k from : ℕ) where
  pub none_yet : length ring₀ ≡ c → from ≡ (start + n) % c → SoFar c ring₀ start n input k from ring₀ 0
  none_yet l e = record { whole = l; far = omega arith; place = e; put = rw add-zero (put_none c ring₀ start n) }

  pub one_more_there : (ring : List ℕ) (i : ℕ) → n + k ≤ c → k ≤ length input → i < k → SoFar c ring₀ start n input k from ring i
      → SoFar c ring₀ start n input k from (set ring ((from + i) % c) (get_or input i 0)) (i + 1)
  one_more_there ring i room given h s =
      let there : (from + i) % c ≡ (start + (n + i)) % c = rw (s.place, mod-add-mod, add_assoc) in
      let next : n + (i + 1) ≡ n + i + 1 = omega arith in
      let inside : i < length input = omega arith in
      record {
        whole = length-set ring _ _ ∙ s.whole;
        far = omega arith;
        place = s.place;
        put = rw (there, next, add-one i, take-suc input i 0) (put_more c (get_or input i 0) s.put (omega arith) s.whole);
      }

  pub all_there : (ring : List ℕ) (i : ℕ) → k ≤ i → SoFar c ring₀ start n input k from ring i
      → Put c ring₀ start n (take k input) ring (n + k)
  all_there ring i h s = let e : k ≡ i = omega (arith, s.far) in rw e s.put
