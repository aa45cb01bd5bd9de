-- Runs of the clock: accesses one after the other, each at its own second of the host's time, which may go back.
use Rattle.std.specs.Prelude.{◌≡◌, ℕ, ◌+◌, ◌-◌, ◌^◌, cond, ◌&&◌, List, [], ◌∷◌, ◌≢◌, nat_le, nat_lt}
use Rattle.common.specs.Bytes.{bytes_of, value_of}
use Rattle.clock.specs.Registers.{Clock, read_of, write_of}
use Rattle.clock.specs.Layout.{clock_of, bytes_after, read_answer, clock_after, write_answer, Reads, Writes}

-- ---- One access

-- With the four bytes that the caller lends.
pub data Access : Type 0 where
  read : (time offset : ℕ) (bytes : List ℕ) → Access
  write : (time offset : ℕ) (bytes : List ℕ) → Access

-- The caller's bytes afterwards, and the answer.
pub record Result : Type 0 where
  pub bytes : List ℕ
  pub answer : ℕ

unfoldable pub result_of : Clock → Access → Result
result_of c (read time offset bytes) = record {
  bytes = bytes_after (read_of c time offset) bytes;
  answer = read_answer (read_of c time offset);
}
result_of c (write time offset bytes) = record { bytes = bytes; answer = write_answer (write_of c time offset (value_of bytes)) }

-- The clock afterwards: a read leaves it as it was.
unfoldable pub next : Clock → Access → Clock
next c (read time offset bytes) = c
next c (write time offset bytes) = clock_after (write_of c time offset (value_of bytes)) c

-- ---- A run

abbrev pub after : Clock → List Access → Clock
after c [] = c
after c (a ∷ rest) = after (next c a) rest

abbrev pub results : Clock → List Access → List Result
results c [] = []
results c (a ∷ rest) = result_of c a ∷ results (next c a) rest

-- A valid read of a value.
abbrev pub answers : ℕ → Result
answers v = record { bytes = bytes_of 4 v; answer = 0 }

-- ---- What a guest expects of a clock that it has set

abbrev pub All : (Access → Type 0) → List Access → Type 0
All P [] = Unit {0}
All P (a ∷ rest) = P a × All P rest

-- The access does not set the clock: it writes neither RTCLR nor a 1 to RTCCR.
abbrev pub KeepsTime : Access → Type 0
KeepsTime (read time offset bytes) = Unit {0}
KeepsTime (write time offset bytes) = (offset ≢ 0x008) × (offset ≡ 0x00c → value_of bytes ≢ 1)

-- A clock that was set to v at the host's second t shows at the second u: v and the seconds since, where 32 bits hold that,
-- and else the host's time.
unfoldable pub seen : ℕ → ℕ → ℕ → ℕ
seen v t u = cond (nat_le t (v + u) && nat_lt (v + u - t) (2 ^ 32)) (v + u - t) u

-- ---- Places that cannot be written: the registers that are read only, and all that is reserved

pub record CannotWrite (offset : ℕ) : Type 0 where
  pub mr : offset ≡ 0x004 → ⊥
  pub lr : offset ≡ 0x008 → ⊥
  pub cr : offset ≡ 0x00c → ⊥
  pub imsc : offset ≡ 0x010 → ⊥
  pub icr : offset ≡ 0x01c → ⊥

-- ---- What the contracts promise of calls in memory

-- One call: the words before, the access, the words after and the result. A read is lent the words to read only.
abbrev pub Promised : List ℕ → Access → List ℕ → Result → Type 0
Promised words (read time offset bytes) words' r =
    (words' ≡ words) × Reads (read_of (clock_of words) time offset) bytes r.bytes r.answer
Promised words (write time offset bytes) words' r =
    (r.bytes ≡ bytes) × Writes (write_of (clock_of words) time offset (value_of bytes)) words words' r.answer

-- Calls one after the other, on the same words.
pub data Called : List ℕ → List Access → List ℕ → List Result → Type 0 where
  none : {words : List ℕ} → Called words [] words []
  then : {words words' words'' : List ℕ} {a : Access} {rest : List Access} {r : Result} {rs : List Result}
      → Promised words a words' r → Called words' rest words'' rs → Called words (a ∷ rest) words'' (r ∷ rs)
