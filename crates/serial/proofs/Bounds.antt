-- What a host may rely on: no port holds more than the ring, and a word comes apart again.
use mathlib.Core.Path.{◌≡◌, refl, ◌∙◌}
use mathlib.Core.Logic.{◌⊎◌, inl, inr}
use mathlib.Core.Bool.{Bool, true, false, cond}
use mathlib.Core.List.{List, [], ◌∷◌}
use Prim.Native.Nat.{ℕ, ◌+◌, ◌≤◌, ◌<◌}
use native.Mathlib.Omega.{arith}
use lib.ListN.{length}
use Rattle.common.specs.Answer.{sent_bit}
use Rattle.common.specs.Bits.{on}
use Rattle.common.proofs.Words.{Parts, parts}
use Rattle.serial.specs.Port.{Port, Register, RBR_THR, IER, IIR_FCR, LCR, MCR, LSR, MSR, SCR, DLL, DLM, reserved, Out, Input}
use Rattle.serial.specs.Port.{in_loop, with_settings, becomes, write_line, write_loop, write_ier, put_fcr, fcr_stored, flushes, write_fcr, write_register}
use Rattle.serial.specs.Layout.{places, port_of, spare_registers, fresh_spare_registers}
use Rattle.serial.specs.Calls.{tells, read_word, write_word, input_word, SparesKept, MakesFresh}
use Rattle.serial.proofs.Sizes.{size_few}
use Rattle.serial.proofs.Answering.{waiting_length}

-- Whatever the bytes, no more wait than the ring has places, and no port has room for more.
pub memory_fits : (regs pos ring : List ℕ) → length (port_of regs pos ring).waiting ≤ places
memory_fits regs pos ring = omega (arith, waiting_length regs pos ring)

pub size_fits : (regs pos ring : List ℕ) → (port_of regs pos ring).size ≤ places
unfolding port_of
size_fits regs pos ring = size_few regs

-- From a fresh port on the spare registers stay 0, over every call that keeps them.
pub spares_stay_zero : (size : ℕ) (regs pos regs' pos' : List ℕ) → MakesFresh size regs pos → SparesKept regs pos regs' pos'
    → spare_registers regs' ≡ fresh_spare_registers
spares_stay_zero size regs pos regs' pos' fresh kept = kept.0 ∙ fresh.spares_zero

-- A write sends its value or nothing.
pub sent_value : (p : Port) (g : Register) (value : ℕ) → ((write_register p g value).sent ≡ []) ⊎ ((write_register p g value).sent ≡ value ∷ [])
unfolding write_register write_line write_loop write_ier write_fcr
sent_value p RBR_THR value = go (in_loop p)
  where
    go : (loops : Bool) → let o = cond loops (write_loop p value) (write_line p value) in (o.sent ≡ []) ⊎ (o.sent ≡ value ∷ [])
    go true = inl refl
    go false = inr refl
sent_value p IER value = inl refl
sent_value p IIR_FCR value = go (on value 0x02)
  where
    go : (t : Bool) → let kept = with_settings p (put_fcr p.settings (fcr_stored value)) in let o = cond t (flushes kept) (becomes kept) in
        (o.sent ≡ []) ⊎ (o.sent ≡ value ∷ [])
    go true = inl refl
    go false = inl refl
sent_value p LCR value = inl refl
sent_value p MCR value = inl refl
sent_value p LSR value = inl refl
sent_value p MSR value = inl refl
sent_value p SCR value = inl refl
sent_value p DLL value = inl refl
sent_value p DLM value = inl refl
sent_value p reserved value = inl refl

-- ---- Words come apart again, where their number has 16 bits

module _ (o : Out) where
  -- A word that tells what the access does, behind a number.
  abbrev Tells : ℕ → Bool → ℕ → Type 0
  Tells number sends word =
      let e = o.events in
      Parts number false sends false e.data_read e.delivered e.none_left e.looped e.dropped e.flushed o.raises word

  told : (number : ℕ) (sends : Bool) (word : ℕ) → word ≡ number + cond sends sent_bit 0 + tells o.events o.raises → number < 0x1_0000
      → Tells number sends word
  told number sends word same h =
      let e = o.events in
      parts number false sends false e.data_read e.delivered e.none_left e.looped e.dropped e.flushed o.raises word (same ∙ omega arith) h

  pub read_word_lem : o.reply < 0x1_0000 → Tells o.reply false (read_word o)
  read_word_lem h = told o.reply false (read_word o) (omega arith) h

  -- A write that sends nothing tells how many bytes were thrown away; one that sends a byte throws none away.
  pub silent_word : o.sent ≡ [] → length o.events.discarded < 0x1_0000 → Tells (length o.events.discarded) false (write_word o)
  silent_word s h = told (length o.events.discarded) false (write_word o) (rw s (omega arith)) h

  pub sent_word : (byte : ℕ) → o.sent ≡ byte ∷ [] → o.events.discarded ≡ [] → byte < 0x1_0000 → Tells byte true (write_word o)
  sent_word byte s d h = told byte true (write_word o) (rw (s, d) (omega arith)) h

pub input_word_lem : (i : Input) → i.taken < 0x1_0000
    → Parts i.taken i.full false false false false false false false false i.raises (input_word i)
input_word_lem i h = parts i.taken i.full false false false false false false false false i.raises _ (omega arith) h
