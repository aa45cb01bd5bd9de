-- A ring: bytes that lie one behind another in as many places as it has, going round at its end.
use Rattle.std.specs.Prelude.{◌≡◌, ℕ, zero, suc, ◌+◌, ◌-◌, ◌%◌, List, [], ◌∷◌, ◌++◌, take, drop, slice_index}

-- The n bytes from `start` on; any number is a start.
unfoldable pub queue : ℕ → List ℕ → ℕ → ℕ → List ℕ
queue places ring start zero = []
queue places ring start (suc n) = slice_index ring (start % places) ∷ queue places ring (start + 1) n

-- Bytes have been put behind the n that lie from `start` on, so that m lie there; the rest of the ring is as it was.
pub record Put (places : ℕ) (ring : List ℕ) (start n : ℕ) (bytes ring' : List ℕ) (m : ℕ) : Type 0 where
  pub behind : queue places ring' start m ≡ queue places ring start n ++ bytes
  pub rest : queue places ring' (start + m) (places - m) ≡ queue places ring (start + m) (places - m)

-- The n bytes from `start` on lie one behind another from the first place of other memory on, whose other places are as they were.
pub record Unrolled (places : ℕ) (ring : List ℕ) (start n : ℕ) (memory memory' : List ℕ) : Type 0 where
  pub bytes : take n memory' ≡ queue places ring start n
  pub others : drop n memory' ≡ drop n memory

-- How many places the code's ring has.
abbrev pub places_here : ℕ
places_here = 1024
