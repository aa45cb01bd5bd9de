-- Bytes in memory and the number that they are: each determines the other.
use mathlib.Core.Path.{◌≡◌, refl, ap}
use mathlib.Core.List.{List, [], ◌∷◌}
use Prim.Native.Nat.{ℕ, zero, suc, ◌+◌, ◌*◌, ◌/◌, ◌%◌, ◌^◌, ◌<◌}
use native.Mathlib.Nat.{pow-succ'}
use native.Mathlib.Omega.{arith}
use lib.ListN.{length, take, drop}
use Rattle.common.specs.Bytes.{bytes_of, value_of, Bytes}

-- ---- Parts

pub bytes_take : (n : ℕ) (bytes : List ℕ) → Bytes bytes → Bytes (take n bytes)
bytes_take zero bytes b = tt
bytes_take (suc n) [] b = tt
bytes_take (suc n) (x ∷ xs) b = (b.0, bytes_take n xs b.1)

pub bytes_drop : (n : ℕ) (bytes : List ℕ) → Bytes bytes → Bytes (drop n bytes)
bytes_drop zero bytes b = b
bytes_drop (suc n) [] b = tt
bytes_drop (suc n) (x ∷ xs) b = bytes_drop n xs b.1

-- ---- The bytes of a number

pub bytes_length : (count n : ℕ) → length (bytes_of count n) ≡ count
unfolding bytes_of
bytes_length zero n = refl
bytes_length (suc count) n = ap suc (bytes_length count (n / 256))

pub bytes_small : (count n : ℕ) → Bytes (bytes_of count n)
unfolding bytes_of
bytes_small zero n = tt
bytes_small (suc count) n = (omega arith, bytes_small count (n / 256))

-- They are the number, where it fits.
pub value_of_bytes : (count n : ℕ) → n < 256 ^ count → value_of (bytes_of count n) ≡ n
unfolding bytes_of value_of
value_of_bytes zero n h = omega arith
value_of_bytes (suc count) n h = rw (value_of_bytes count (n / 256) (omega (arith, pow-succ' 256 count))) (omega arith)

-- ---- The number that bytes are

pub value_small : (bytes : List ℕ) → Bytes bytes → value_of bytes < 256 ^ length bytes
unfolding value_of
value_small [] b = omega arith
value_small (x ∷ xs) b = omega (arith, b.0, value_small xs b.1, pow-succ' 256 (length xs))

-- Its bytes are these.
pub bytes_of_value : (bytes : List ℕ) → Bytes bytes → bytes_of (length bytes) (value_of bytes) ≡ bytes
unfolding bytes_of value_of
bytes_of_value [] b = refl
bytes_of_value (x ∷ xs) b =
    let first : (x + 256 * value_of xs) % 256 ≡ x = omega (arith, b.0) in
    let others : (x + 256 * value_of xs) / 256 ≡ value_of xs = omega (arith, b.0) in
    rw (first, others, bytes_of_value xs b.1)
