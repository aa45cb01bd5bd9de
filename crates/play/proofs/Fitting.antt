-- On every port that runs of bytes reach, the numbers in answers have their places in a word.
use mathlib.Core.Path.{◌≡◌}
use mathlib.Core.Logic.{◌⊎◌, inl, inr}
use mathlib.Core.Bool.{Bool, true, false, cond}
use mathlib.Core.List.{List, [], ◌∷◌, ◌++◌}
use Prim.Native.Nat.{ℕ, ◌+◌, ◌%◌, ◌<◌}
use native.Mathlib.Omega.{arith}
use lib.Bits.{bit_or}
use lib.ListN.{length}
use Rattle.common.specs.Bytes.{Bytes}
use Rattle.common.specs.Lists.{some, first_or0}
use Rattle.interrupts.specs.Interrupts.{received_data, transmitter_empty, none_pending, is_active, code, identification}
use Rattle.modem.specs.Modem.{msr_read, is_loop, looped_lines}
use Rattle.serial.specs.Port.{Register, RBR_THR, IER, IIR_FCR, LCR, MCR, LSR, MSR, SCR, DLL, DLM, reserved, addressed, Port, fresh, is_open}
use Rattle.serial.specs.Port.{Input, read_register, write_of, input_of, takes_none}
use Rattle.serial.proofs.Bounds.{sent_value}
use Rattle.runs.specs.Run.{Op, read, write, input, room, did_input, step, run}
use Rattle.runs.specs.Reachable.{Reachable}
use Rattle.runs.specs.Reached.{OfBytes, AllOfBytes}
use Rattle.runs.proofs.Effects.{input_cases}
use Rattle.runs.proofs.Telling.{few_discarded}
use Rattle.runs.proofs.Reachable.{fresh_reachable, step_reachable}
use Rattle.play.specs.Play.{words}
use Rattle.play.specs.Accounted.{all_accepted_by, GoneBy, Fits, AllFit}
use Rattle.play.proofs.Accounted.{words_conserve}

-- ---- Replies are bytes

first_byte : (l : List ℕ) → Bytes l → first_or0 l < 256
first_byte [] b = omega arith
first_byte (x ∷ l) b = b.0

msr_byte : (mcr msr : ℕ) → msr < 256 → msr_read mcr msr < 256
unfolding msr_read
msr_byte mcr msr h = go (is_loop mcr)
  where
    go : (loops : Bool) → cond loops (msr % 0x10 + looped_lines mcr) msr < 256
    go true = omega arith
    go false = h

iir_byte : (ier iir : ℕ) (waits : Bool) → identification ier iir waits < 256
unfolding code
iir_byte ier iir waits = go (is_active ier iir waits received_data) (is_active ier iir waits transmitter_empty)
  where
    go : (d t : Bool) → bit_or (cond d 0x04 (cond t 0x02 none_pending)) 0xc0 < 256
    go true t = omega arith
    go false true = omega arith
    go false false = omega arith

lsr_byte : (waits : Bool) → cond waits 0x61 0x60 < 256
lsr_byte true = omega arith
lsr_byte false = omega arith

module _ {size : ℕ} (few : size < 0x1_0000) (p : Port) (k : Reachable size p) where
  reply_byte : (r : Register) → (read_register p r).reply < 256
  unfolding read_register
  reply_byte RBR_THR = first_byte p.waiting k.bytes
  reply_byte IER = omega (arith, k.settings.ier)
  reply_byte IIR_FCR = iir_byte p.settings.ier p.iir (some p.waiting)
  reply_byte LCR = k.settings.lcr
  reply_byte MCR = k.settings.mcr
  reply_byte LSR = rw k.lsr (lsr_byte (some p.waiting))
  reply_byte MSR = msr_byte p.settings.mcr p.msr (rw k.msr (omega arith))
  reply_byte SCR = k.settings.scr
  reply_byte DLL = k.settings.dll
  reply_byte DLM = k.settings.dlm
  reply_byte reserved = omega arith

  -- ---- So each answer to an operation of bytes fits

  sent_byte : (offset value : ℕ) → value < 256 → first_or0 (write_of p offset value).sent < 256
  sent_byte offset value h = go (sent_value p (addressed (is_open p) offset) value)
    where
      go : {bytes : List ℕ} → (bytes ≡ []) ⊎ (bytes ≡ value ∷ []) → first_or0 bytes < 256
      go (inl e) = rw e (omega arith)
      go (inr e) = rw e h

  few_thrown : (offset value : ℕ) → length (write_of p offset value).events.discarded < 0x1_0000
  few_thrown offset value = omega (arith, few_discarded p offset value, k.fits)

  none_fit : (full : Bool) → Fits (did_input (takes_none p full)).answer
  none_fit true = tt
  none_fit false = omega arith

  input_fits : (bytes : List ℕ) → Fits (did_input (input_of p bytes)).answer
  input_fits bytes = input_cases (λ (i : Input). Fits (did_input i).answer) p bytes none_fit (λ s h. omega (arith, k.sized))

  fits : (o : Op) → OfBytes o → Fits (step p o).answer
  unfolding step
  fits (read offset) h = reply_byte (addressed (is_open p) offset)
  fits (write offset value) h = (sent_byte offset value h.1, few_thrown offset value)
  fits (input bytes) h = input_fits bytes
  fits room h = omega (arith, k.sized)

pub all_fit : (size : ℕ) → size < 0x1_0000 → (p : Port) → Reachable size p → (os : List Op) → AllOfBytes os → AllFit (run p os).answers
unfolding run
all_fit size few p k [] h = tt
all_fit size few p k (o ∷ os) h =
    (fits few p k o h.0, all_fit size few (step p o).port (step_reachable size p o h.0 k) os h.1)

-- From a fresh port, of a size that a word has room for, and over every run of bytes: all that the words say was accepted is all that they
-- say was delivered or thrown away, and then what waits.
pub fresh_words_conserve : (size : ℕ) → size < 0x1_0000 → (os : List Op) → AllOfBytes os → let r = run (fresh size) os in
    (gone : List ℕ) × (GoneBy (words r.answers) gone × (all_accepted_by os (words r.answers) ≡ gone ++ r.port.waiting))
fresh_words_conserve size few os h = words_conserve (fresh size) os (all_fit size few (fresh size) (fresh_reachable size) os h)
