-- How the clock lies in the caller's eight words, how a register's number lies in four bytes, and what the entry points
-- promise of both. Any eight words are some clock. An access is of four bytes, always: DIFFERENCES, "clock-width".
use Rattle.std.specs.Prelude.{◌≡◌, ℕ, ◌+◌, ◌*◌, ◌^◌, ◌<◌, Bool, true, cond, ◌&&◌, List, [], ◌∷◌, length, Option, Some, None, ℤ, pos, ◌-ℤ◌, ◌==◌, nat_lt, slice_index}
use Rattle.common.specs.Answer.{refused_bit}
use Rattle.common.specs.Bytes.{bytes_of}
use Rattle.clock.specs.Registers.{Clock, fresh, Reply, says, refused, Change, becomes, ignored}

-- ---- Words

-- Eight words of 32 bits.
pub record Words (l : List ℕ) : Type 0 where
  pub eight : length l ≡ 8
  pub small : (i : ℕ) → slice_index l i < 2 ^ 32

-- The 64 bits of two halves.
abbrev pub joined : ℕ → ℕ → ℕ
joined low high = low + 2 ^ 32 * high

-- The signed number that 64 bits are in two's complement.
unfoldable pub signed : ℕ → ℤ
signed bits = cond (nat_lt bits (2 ^ 63)) (pos bits) (pos bits -ℤ pos (2 ^ 64))

unfoldable pub clock_of : List ℕ → Clock
clock_of words = record {
  lr = slice_index words 0;
  mr = slice_index words 1;
  imsc = slice_index words 2;
  ris = slice_index words 3;
  ahead = signed (joined (slice_index words 4) (slice_index words 5));
}

-- Two words are spare: no access reads or changes them.
unfoldable pub spare_of : List ℕ → List ℕ
spare_of words = slice_index words 6 ∷ slice_index words 7 ∷ []

unfoldable pub spare_is_zero : List ℕ → Bool
spare_is_zero words = slice_index words 6 == 0 && slice_index words 7 == 0

-- `init` promises: a fresh clock, and spare words that are 0.
pub record Inits (words : List ℕ) : Type 0 where
  pub clock : clock_of words ≡ fresh
  pub spare : spare_is_zero words ≡ true

-- ---- Answers: 0 to an access that was valid, this to one that was refused. Every other bit is 0.

abbrev pub refusal : ℕ
refusal = refused_bit

-- ---- A read

-- What a register says, if there is one to read.
abbrev pub reply_of : Option ℕ → Reply
reply_of (Some v) = says v
reply_of None = refused

-- The caller's bytes afterwards.
abbrev pub bytes_after : Reply → List ℕ → List ℕ
bytes_after (says v) bytes = bytes_of 4 v
bytes_after refused bytes = bytes

abbrev pub read_answer : Reply → ℕ
read_answer (says v) = 0
read_answer refused = refusal

-- `read` promises: the caller's bytes, and the answer.
pub record Reads (reply : Reply) (before after : List ℕ) (r : ℕ) : Type 0 where
  pub bytes : after ≡ bytes_after reply before
  pub answer : r ≡ read_answer reply

-- ---- A write

-- The clock afterwards.
abbrev pub clock_after : Change → Clock → Clock
clock_after (becomes c') c = c'
clock_after ignored c = c

abbrev pub write_answer : Change → ℕ
write_answer (becomes c') = 0
write_answer ignored = refusal

-- `write` promises: the clock, the spare words as they were, and the answer.
pub record Writes (change : Change) (before after : List ℕ) (r : ℕ) : Type 0 where
  pub clock : clock_of after ≡ clock_after change (clock_of before)
  pub spare : spare_of after ≡ spare_of before
  pub answer : r ≡ write_answer change
