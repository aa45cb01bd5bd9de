-- What an answer tells is what is counted, whatever else its word says, and whatever its number and its raises are.
use mathlib.Core.Path.{◌≡◌}
use mathlib.Core.Bool.{Bool}
use Prim.Native.Nat.{ℕ, ◌<◌}
use native.Mathlib.Omega.{arith}
use Rattle.common.specs.Answer.{refused_bit, sent_bit, data_read_bit, none_left_bit}
use Rattle.common.specs.Bits.{on}
use Rattle.common.proofs.Words.{word, Parts, parts, bit_on}
use Rattle.counters.specs.Counters.{counted, answered, Serial, serial_after, read, write, Clock, clock_after}

-- The bits in the order of the word.
module _ (number raises : ℕ) (refused sent reachable data_read delivered none_left looped dropped flushed : Bool) (h : number < 0x1_0000) {w : ℕ}
    (e : w ≡ word number refused sent reachable data_read delivered none_left looped dropped flushed raises) where
  told : Parts number refused sent reachable data_read delivered none_left looped dropped flushed raises w
  told = parts number refused sent reachable data_read delivered none_left looped dropped flushed raises w e h

  says_refused : on w refused_bit ≡ refused
  says_refused = bit_on 16 w refused (omega arith) told.refused

  says_sent : on w sent_bit ≡ sent
  says_sent = bit_on 17 w sent (omega arith) told.sent

  says_data_read : on w data_read_bit ≡ data_read
  says_data_read = bit_on 19 w data_read (omega arith) told.data_read

  says_none_left : on w none_left_bit ≡ none_left
  says_none_left = bit_on 21 w none_left (omega arith) told.none_left

  pub counts_told : (s : Serial) → serial_after s (answered w) ≡ record {
    data_reads = counted s.data_reads data_read;
    sent = counted s.sent sent;
    lost = s.lost;
    none_left = counted s.none_left none_left;
  }
  unfolding serial_after counted
  counts_told s = rw (says_data_read, says_sent, says_none_left)

  pub counts_refused_read : (c : Clock)
      → clock_after c (read w) ≡ record { invalid_reads = counted c.invalid_reads refused; invalid_writes = c.invalid_writes }
  unfolding clock_after counted
  counts_refused_read c = rw says_refused

  pub counts_refused_write : (c : Clock)
      → clock_after c (write w) ≡ record { invalid_reads = c.invalid_reads; invalid_writes = counted c.invalid_writes refused }
  unfolding clock_after counted
  counts_refused_write c = rw says_refused
