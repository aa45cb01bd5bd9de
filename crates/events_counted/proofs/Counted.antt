-- What is counted of an answer is what the definition of the device says happened. A reply and a byte have 8 bits, a number of bytes 16.
use mathlib.Core.Path.{◌≡◌, refl, ap, ◌∙◌}
use mathlib.Core.Logic.{◌⊎◌, inl, inr}
use mathlib.Core.Bool.{Bool, true, false, cond}
use mathlib.Core.List.{List, [], ◌∷◌}
use Prim.Native.Nat.{ℕ, ◌+◌, ◌≤◌, ◌<◌}
use lib.ListN.{length}
use native.Mathlib.Omega.{arith}
use Rattle.common.specs.Answer.{sent_bit}
use Rattle.common.specs.Lists.{some, first_or0}
use Rattle.counters.specs.Counters.{counted, answered, Serial, serial_after, read, write, Clock, clock_after}
use Rattle.counters.proofs.Words.{counts_told, counts_refused_read, counts_refused_write}
use Rattle.serial.specs.Port.{Port, Events, Out, Input, addressed, is_open, write_of}
use Rattle.serial.specs.Calls.{read_word, sent_word, write_word, input_word}
use Rattle.serial.proofs.Bounds.{sent_value}
use Rattle.runs.specs.Run.{step}
use Rattle.runs.proofs.Telling.{write_tells, no_read_by_write, wrote, few_discarded}
use Rattle.serial_saved.specs.Saved.{Restore}
use Rattle.serial_saved.specs.Calls.{restore_word}
use Rattle.clock.specs.Registers.{Clock as Device, says, refused, becomes, ignored}
use Rattle.clock.specs.Layout.{read_answer, write_answer}

-- ---- The serial port

-- A write is no data read.
write_no_read : (p : Port) (offset value : ℕ) → let e = (write_of p offset value).events in (e.data_read ≡ false) × (e.none_left ≡ false)
unfolding step
write_no_read p offset value =
    let tells = write_tells p offset value in
    let none = no_read_by_write p offset value in
    (ap (λ (e : Events). e.data_read) tells ∙ none.0, ap (λ (e : Events). e.none_left) tells ∙ none.1.1)

module _ (s : Serial) where
  -- A read: that RBR was read, and that it left no byte.
  pub read_counts : (o : Out) → o.reply < 0x1_0000 → serial_after s (answered (read_word o)) ≡ record {
    data_reads = counted s.data_reads o.events.data_read;
    sent = s.sent;
    lost = s.lost;
    none_left = counted s.none_left o.events.none_left;
  }
  unfolding counted
  read_counts o h =
      let e = o.events in
      counts_told o.reply o.raises false false false e.data_read e.delivered e.none_left e.looped e.dropped e.flushed h
      (omega arith) s

  -- A write: that a byte was sent.
  pub write_counts : (p : Port) (offset value : ℕ) → value < 0x1_0000 → length p.waiting < 0x1_0000 → let o = write_of p offset value in
      serial_after s (answered (write_word o)) ≡ record {
        data_reads = s.data_reads;
        sent = counted s.sent (some o.sent);
        lost = s.lost;
        none_left = s.none_left;
      }
  unfolding counted
  write_counts p offset value h few =
      let o = write_of p offset value in
      let e = o.events in
      counts_told (first_or0 o.sent + length e.discarded) o.raises false (some o.sent) false e.data_read e.delivered e.none_left
      e.looped e.dropped e.flushed
      (small o.sent (sent_value p (addressed (is_open p) offset) value) (wrote p offset value).either (few_discarded p offset value))
      (omega (arith, laid o.sent)) s
      ∙ rw ((write_no_read p offset value).0, (write_no_read p offset value).1) refl
    where
      laid : (bytes : List ℕ) → sent_word bytes ≡ first_or0 bytes + cond (some bytes) sent_bit 0
      laid [] = refl
      laid (byte ∷ rest) = refl

      small : (bytes : List ℕ) {thrown : List ℕ} {flushed : Bool} → (bytes ≡ []) ⊎ (bytes ≡ value ∷ [])
          → ((bytes ≡ []) × (flushed ≡ true)) ⊎ ((thrown ≡ []) × (flushed ≡ false)) → length thrown ≤ length p.waiting
          → first_or0 bytes + length thrown < 0x1_0000
      small bytes (inl e) x l = rw e (omega arith)
      small bytes (inr e) (inl x) l = rw x.0 (omega arith)
      small bytes (inr e) (inr x) l = rw (e, x.0) (omega arith)

  -- An input and a restore: nothing.
  pub input_counts_nothing : (i : Input) → i.taken < 0x1_0000 → serial_after s (answered (input_word i)) ≡ s
  unfolding counted
  input_counts_nothing i h = counts_told i.taken i.raises i.full false false false false false false false false h (omega arith) s

  pub restore_counts_nothing : (reachable : Bool) (o : Restore) → serial_after s (answered (restore_word reachable o)) ≡ s
  unfolding counted
  restore_counts_nothing reachable o =
      counts_told 0 o.raises o.refused false reachable false false false false false false (omega arith) (omega arith) s

-- ---- The clock

module _ (c : Clock) where
  pub valid_read_counts_nothing : (value : ℕ) → clock_after c (read (read_answer (says value))) ≡ c
  unfolding counted
  valid_read_counts_nothing value =
      counts_refused_read 0 0 false false false false false false false false false (omega arith) (omega arith) c

  pub invalid_read_counts : clock_after c (read (read_answer refused)) ≡ record {
    invalid_reads = counted c.invalid_reads true;
    invalid_writes = c.invalid_writes;
  }
  invalid_read_counts = counts_refused_read 0 0 true false false false false false false false false (omega arith) (omega arith) c

  pub valid_write_counts_nothing : (device : Device) → clock_after c (write (write_answer (becomes device))) ≡ c
  unfolding counted
  valid_write_counts_nothing device =
      counts_refused_write 0 0 false false false false false false false false false (omega arith) (omega arith) c

  pub invalid_write_counts : clock_after c (write (write_answer ignored)) ≡ record {
    invalid_reads = c.invalid_reads;
    invalid_writes = counted c.invalid_writes true;
  }
  invalid_write_counts = counts_refused_write 0 0 true false false false false false false false false (omega arith) (omega arith) c
