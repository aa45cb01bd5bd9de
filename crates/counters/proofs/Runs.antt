-- Counters after any list of calls.
use mathlib.Core.Path.{◌≡◌, refl, ap, ◌∙◌}
use mathlib.Core.Bool.{Bool, true, false, cond}
use mathlib.Core.List.{List, [], ◌∷◌}
use Prim.Native.Nat.{ℕ, ◌+◌, ◌≤◌, min}
use native.Mathlib.Omega.{arith}
use native.Mathlib.Nat.{zero-add}
use Rattle.common.specs.Answer.{sent_bit, data_read_bit, none_left_bit}
use Rattle.counters.specs.Counters.{most, counted, how_many, reached, Within, Called, none, then}
use Rattle.counters.specs.Counters.{Call, lost, says, is_lost, Serial, fresh_serial}
use Rattle.counters.specs.Counters.{serial_after, serial_reached, serial_of, SerialCounts}
use Rattle.counters.specs.Counters.{ClockCall, read_refused, write_refused, Clock, fresh_clock}
use Rattle.counters.specs.Counters.{clock_after, clock_reached, clock_of, ClockCounts}

-- ---- One counter

module _ {Call : Type 0} (tells : Call → Bool) where
  -- It counts call by call,
  pub counted_all : ℕ → List Call → ℕ
  counted_all n [] = n
  counted_all n (call ∷ calls) = counted_all (counted n (tells call)) calls

  more : (n : ℕ) (happened : Bool) (rest : ℕ) → reached (counted n happened) rest ≡ reached n (cond happened 1 0 + rest)
  unfolding counted
  more n true rest = omega arith
  more n false rest = omega arith

  stays_within : (n : ℕ) (happened : Bool) → n ≤ most → counted n happened ≤ most
  unfolding counted
  stays_within n true h = omega arith
  stays_within n false h = h

  -- and comes to what it started from and the number of calls that tell it, or to `most`.
  pub counts_all : (n : ℕ) → n ≤ most → (calls : List Call) → counted_all n calls ≡ reached n (how_many tells calls)
  unfolding counted_all
  counts_all n h [] = omega arith
  counts_all n h (call ∷ calls) =
      counts_all (counted n (tells call)) (stays_within n (tells call) h) calls ∙ more n (tells call) (how_many tells calls)

-- ---- The serial port's

abbrev serial_after_all : Serial → List Call → Serial
serial_after_all s [] = s
serial_after_all s (call ∷ calls) = serial_after_all (serial_after s call) calls

split : (s : Serial) (calls : List Call) → serial_after_all s calls ≡ record {
  data_reads = counted_all (says data_read_bit) s.data_reads calls;
  sent = counted_all (says sent_bit) s.sent calls;
  lost = counted_all is_lost s.lost calls;
  none_left = counted_all (says none_left_bit) s.none_left calls;
}
unfolding counted_all serial_after
split s [] = refl
split s (call ∷ calls) = split (serial_after s call) calls

-- From any counters of 64 bits,
pub serial_counts_all : (s : Serial) → s.data_reads ≤ most → s.sent ≤ most → s.lost ≤ most → s.none_left ≤ most
    → (calls : List Call)
    → serial_after_all s calls ≡ serial_reached s calls
serial_counts_all s d t l n calls =
    split s calls ∙ rw (
      counts_all (says data_read_bit) s.data_reads d calls,
      counts_all (says sent_bit) s.sent t calls,
      counts_all is_lost s.lost l calls,
      counts_all (says none_left_bit) s.none_left n calls,
    )

-- A lost byte is one more that is lost, and nothing else.
pub only_lost : (s : Serial)
    → serial_after s lost ≡ record { data_reads = s.data_reads; sent = s.sent; lost = counted s.lost true; none_left = s.none_left }
unfolding serial_after counted
only_lost s = refl

-- The same by what the calls promise of memory,
serial_as_defined : {l l' : List ℕ} {calls : List Call} → Called SerialCounts l calls l' → serial_of l' ≡ serial_after_all (serial_of l) calls
serial_as_defined none = refl
serial_as_defined {calls = call ∷ calls} (then e rest) =
    serial_as_defined rest ∙ ap (λ (s : Serial). serial_after_all s calls) e

pub serial_calls : {l l' : List ℕ} {calls : List Call} → Within l → Called SerialCounts l calls l'
    → serial_of l' ≡ serial_reached (serial_of l) calls
unfolding serial_of
serial_calls {l} {calls = calls} w k = serial_as_defined k ∙ serial_counts_all (serial_of l) (w 0) (w 1) (w 2) (w 3) calls

-- and from fresh counters: the number of calls that tell it, or `most`.
pub serial_calls_from_fresh : {l l' : List ℕ} {calls : List Call} → serial_of l ≡ fresh_serial → Called SerialCounts l calls l'
    → serial_of l' ≡ record {
      data_reads = min (how_many (says data_read_bit) calls) most;
      sent = min (how_many (says sent_bit) calls) most;
      lost = min (how_many is_lost calls) most;
      none_left = min (how_many (says none_left_bit) calls) most;
    }
serial_calls_from_fresh {calls = calls} e k =
    serial_as_defined k
    ∙ ap (λ (s : Serial). serial_after_all s calls) e
    ∙ serial_counts_all fresh_serial (omega arith) (omega arith) (omega arith) (omega arith) calls
    ∙ rw (
      zero-add (how_many (says data_read_bit) calls),
      zero-add (how_many (says sent_bit) calls),
      zero-add (how_many is_lost calls),
      zero-add (how_many (says none_left_bit) calls),
    )

-- ---- The clock's

abbrev clock_after_all : Clock → List ClockCall → Clock
clock_after_all c [] = c
clock_after_all c (call ∷ calls) = clock_after_all (clock_after c call) calls

clock_split : (c : Clock) (calls : List ClockCall) → clock_after_all c calls ≡ record {
  invalid_reads = counted_all read_refused c.invalid_reads calls;
  invalid_writes = counted_all write_refused c.invalid_writes calls;
}
unfolding counted_all clock_after
clock_split c [] = refl
clock_split c (call ∷ calls) = clock_split (clock_after c call) calls

pub clock_counts_all : (c : Clock) → c.invalid_reads ≤ most → c.invalid_writes ≤ most → (calls : List ClockCall)
    → clock_after_all c calls ≡ clock_reached c calls
clock_counts_all c r w calls =
    clock_split c calls
    ∙ rw (counts_all read_refused c.invalid_reads r calls, counts_all write_refused c.invalid_writes w calls)

clock_as_defined : {l l' : List ℕ} {calls : List ClockCall} → Called ClockCounts l calls l' → clock_of l' ≡ clock_after_all (clock_of l) calls
clock_as_defined none = refl
clock_as_defined {calls = call ∷ calls} (then e rest) =
    clock_as_defined rest ∙ ap (λ (c : Clock). clock_after_all c calls) e

pub clock_calls : {l l' : List ℕ} {calls : List ClockCall} → Within l → Called ClockCounts l calls l'
    → clock_of l' ≡ clock_reached (clock_of l) calls
unfolding clock_of
clock_calls {l} {calls = calls} w k = clock_as_defined k ∙ clock_counts_all (clock_of l) (w 0) (w 1) calls

pub clock_calls_from_fresh : {l l' : List ℕ} {calls : List ClockCall} → clock_of l ≡ fresh_clock → Called ClockCounts l calls l'
    → clock_of l' ≡ record {
      invalid_reads = min (how_many read_refused calls) most;
      invalid_writes = min (how_many write_refused calls) most;
    }
clock_calls_from_fresh {calls = calls} e k =
    clock_as_defined k
    ∙ ap (λ (c : Clock). clock_after_all c calls) e
    ∙ clock_counts_all fresh_clock (omega arith) (omega arith) calls
    ∙ rw (zero-add (how_many read_refused calls), zero-add (how_many write_refused calls))
