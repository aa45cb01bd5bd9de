-- The clock's time is a sum of integers, with their signs; the code adds patterns of 64 bits. They agree for every pattern.
use Rattle.std.proofs.Common.{◌≡◌, ℕ, zero, suc, ◌+◌, ◌-◌, ◌/◌, ◌%◌, ◌^◌, ◌<◌, ◌≤◌, ℤ, pos, negsuc, ◌-ℤ◌, sym, refl, ap, ◌∙◌, arith, le-ltb, lt-ltb}
use native.Mathlib.Decide.{dec_lt}
use lib.Dec.{leb-zero}
use lib.IntN.{sub_ℕ}
use Rattle.std.specs.Prelude.{Result, Ok, Err, OkIff}
use Rattle.std.specs.Result.{result_unwrap_or}
use Rattle.clock.specs.Registers.{sum, shown}
use Rattle.clock.specs.Layout.{joined, signed}

-- ---- Differences of naturals, and the sign of a pattern

pub less : (a b : ℕ) → b ≤ a → sub_ℕ a b ≡ pos (a - b)
less a b h = rw (le-ltb a b h)

pub below : (a b : ℕ) → a < b → sub_ℕ a b ≡ negsuc (b - suc a)
below a b h = rw (lt-ltb a b h)

pub minus : (a b : ℕ) → pos a -ℤ pos b ≡ sub_ℕ a b
minus a zero = ap pos (same a) ∙ sym (less a zero (omega arith))
  where
    same : (a : ℕ) → a + 0 ≡ a - 0
    same a = omega arith
minus a (suc b) = refl

pub signed_low : (bits : ℕ) → bits < 2 ^ 63 → signed bits ≡ pos bits
unfolding signed
signed_low bits h = rw (lt-ltb bits (2 ^ 63) h)

pub signed_high : (bits : ℕ) → 2 ^ 63 ≤ bits → bits < 2 ^ 64 → signed bits ≡ negsuc (2 ^ 64 - suc bits)
unfolding signed
signed_high bits h k = rw (le-ltb bits (2 ^ 63) h) (below bits (2 ^ 64) k)

-- ---- What is shown of a sum

module _ (now : ℕ) (ahead : ℤ) where
  pub shows_sum : (n : ℕ) → sum now ahead ≡ pos n → n < 2 ^ 32 → shown now ahead ≡ n
  unfolding shown
  shows_sum n e h = rw (e, leb-zero n, lt-ltb n (2 ^ 32) h)

  pub shows_now_above : (n : ℕ) → sum now ahead ≡ pos n → 2 ^ 32 ≤ n → shown now ahead ≡ now
  unfolding shown
  shows_now_above n e h = rw (e, leb-zero n, le-ltb n (2 ^ 32) h)

  pub shows_now_below : (n : ℕ) → sum now ahead ≡ negsuc n → shown now ahead ≡ now
  unfolding shown
  shows_now_below n e = rw e

-- ---- The pattern of the sum tells both

module _ (now bits : ℕ) (n : now < 2 ^ 32) (b : bits < 2 ^ 64) where
  abbrev wrapped : ℕ
  wrapped = (now + bits) % 2 ^ 64

  -- The pattern is of a number from 0 on: the sum is one too, and does not wrap.
  low_sum : bits < 2 ^ 63 → sum now (signed bits) ≡ pos wrapped
  low_sum h = rw (signed_low bits h) (ap pos (omega arith))

  -- It is of a number below 0: the sum wraps exactly where it is not negative.
  high_sum : 2 ^ 63 ≤ bits → 2 ^ 64 ≤ now + bits → sum now (signed bits) ≡ pos wrapped
  high_sum h k = rw (signed_high bits h b) (less now _ (omega arith) ∙ ap pos (omega arith))

  high_negative : 2 ^ 63 ≤ bits → now + bits < 2 ^ 64 → sum now (signed bits) ≡ negsuc (2 ^ 64 - bits - suc now)
  high_negative h k = rw (signed_high bits h b) (below now _ (omega arith) ∙ ap negsuc (omega arith))

  pub counter_fits : wrapped < 2 ^ 32 → shown now (signed bits) ≡ wrapped
  counter_fits h = go (dec_lt bits (2 ^ 63))
    where
      go : Dec (bits < 2 ^ 63) → shown now (signed bits) ≡ wrapped
      go (yes l) = shows_sum now (signed bits) wrapped (low_sum l) h
      go (no l) = shows_sum now (signed bits) wrapped (high_sum (omega arith) (omega arith)) h

  pub counter_falls_back : 2 ^ 32 ≤ wrapped → shown now (signed bits) ≡ now
  counter_falls_back h = go (dec_lt bits (2 ^ 63)) (dec_lt (now + bits) (2 ^ 64))
    where
      go : Dec (bits < 2 ^ 63) → Dec (now + bits < 2 ^ 64) → shown now (signed bits) ≡ now
      go (yes l) w = shows_now_above now (signed bits) wrapped (low_sum l) h
      go (no l) (yes w) = shows_now_below now (signed bits) _ (high_negative (omega arith) w)
      go (no l) (no w) = shows_now_above now (signed bits) wrapped (high_sum (omega arith) (omega arith)) h

-- The same of the two halves, as the code has them: `bits` are the halves joined, `r` is the wrapped sum.
module _ (now low high : ℕ) (n : now < 2 ^ 32) (l : low < 2 ^ 32) (h : high < 2 ^ 32)
    {bits r : ℕ} (joins : bits ≡ joined low high) (adds : r ≡ (now + bits) % 2 ^ 64) where
  abbrev Shown : ℕ → Type 0
  Shown v = v ≡ shown now (signed (joined low high))

  pub counter_sum : r < 2 ^ 32 → Shown r
  counter_sum k = rw (← joins) (adds ∙ sym (counter_fits now bits n (omega arith) (omega arith)))

  pub counter_now : 2 ^ 32 ≤ r → Shown now
  counter_now k = rw (← joins) (sym (counter_falls_back now bits n (omega arith) (omega arith)))

  -- The code asks whether it fits 32 bits, and takes `now` where it does not.
  pub counter_shows : {E : Type 0} (fitted : Result ℕ E) → OkIff fitted (r < 2 ^ 32) r → Shown (result_unwrap_or fitted now)
  counter_shows (Ok v) k = rw k.1 (counter_sum k.0)
  counter_shows (Err e) k = counter_now (omega arith)

-- ---- A difference, and its two halves

-- `bits` is the difference as the code has it: added to `now` it wraps back to `v`.
pub difference_signed : (v now bits : ℕ) → v < 2 ^ 32 → now < 2 ^ 32 → bits < 2 ^ 64 → (bits + now) % 2 ^ 64 ≡ v
    → signed bits ≡ pos v -ℤ pos now
difference_signed v now bits m n b w = go (dec_lt v now)
  where
    go : Dec (v < now) → signed bits ≡ pos v -ℤ pos now
    go (yes h) = signed_high bits (omega arith) b ∙ ap negsuc (omega arith) ∙ sym (minus v now ∙ below v now h)
    go (no h) = signed_low bits (omega arith) ∙ ap pos (omega arith) ∙ sym (minus v now ∙ less v now (omega arith))

pub halves : (bits : ℕ) → joined (bits % 2 ^ 32) (bits / 2 ^ 32) ≡ bits
halves bits = omega arith
