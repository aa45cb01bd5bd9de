-- Writes of FCR and MCR: each agrees with the chip or is in a row, and in a row it does not agree. FCR leaves the same bytes in both, but
-- in one row.
use mathlib.Core.Path.{◌≡◌, refl, sym, ap, ◌∙◌}
use mathlib.Core.Logic.{◌⊎◌, inl, inr}
use mathlib.Core.List.{List, [], ◌∷◌}
use mathlib.Core.Bool.{Bool, true, false, cond, not, ◌&&◌, ◌||◌, true≢false, false≢true, or-false}
use Prim.Native.Nat.{ℕ}
use Rattle.common.specs.Bits.{on}
use Rattle.common.specs.Lists.{some}
use Rattle.interrupts.specs.Interrupts.{received_data, transmitter_empty, is_high}
use Rattle.interrupts.proofs.Laws.{settled_keeps}
use Rattle.serial.specs.Port.{Port, Register, active, line, write_register, IIR_FCR, MCR}
use Rattle.serial.specs.Port as device
use Rattle.pc16550d.specs.Chip.{Chip, with_receiver, holding, trigger_level, write_fcr, write_mcr}
use Rattle.pc16550d.specs.Chip as chip
use Rattle.pc16550d.specs.Compare.{accessed, chip_of, enables, Agrees, Row, writes, off_with_bytes, serial_fifo_off, serial_fifo_empty}
use Rattle.pc16550d.specs.Compare.{serial_trigger_level, serial_modem_change}
use Rattle.pc16550d.proofs.Agreement.{named, agrees, quietly, Signal, calm}

abbrev pub WriteAgrees : Port → Register → ℕ → Type 0
WriteAgrees p r v = Agrees (chip_of p) (accessed (write_register p r v)) (chip.write_register (chip_of p) (named r) v)

-- ---- FCR

-- Without its bytes the line does not rise.
none_left : (a w t : Bool) → (a && w || t) ≡ false → (a && false || t) ≡ false
none_left true true t e = absurd (true≢false e)
none_left true false t e = e
none_left false w t e = e

-- What the device does, read as the chip: by 0x02 the receiver is empty, and else nothing happens.
pub record Written (p : Port) (v : ℕ) (empties : Bool) : Type 0 where
  pub next : chip_of (device.write_fcr p v).port
      ≡ with_receiver (chip_of p) (holding (chip_of p).receiver (cond empties [] p.waiting) false)
  pub sent : (device.write_fcr p v).sent ≡ []
  pub signal : Signal (line p) (line (device.write_fcr p v).port) (device.write_fcr p v).raises

pub fcr_written : (p : Port) (v : ℕ) (empties : Bool) → on v 0x02 ≡ empties → Written p v empties
unfolding chip_of device.write_fcr is_high
fcr_written p v true e =
    let k = settled_keeps p.settings.ier p.iir false in
    record {
      next = rw (e, k);
      sent = rw e;
      signal = rw (e, k) (calm (none_left (enables p received_data) (some p.waiting) (active p transmitter_empty)));
    }
fcr_written p v false e = record { next = rw e; sent = rw e; signal = rw e (calm (λ low. low)) }

-- The bytes that wait after a write of FCR are the same on both exactly where it is not in `serial_fifo_empty`. x, y: FCR 0x01 and 0x02.
abbrev SameBytes : Port → ℕ → Type 0
SameBytes p v = (device.write_fcr p v).port.waiting ≡ (write_fcr (chip_of p).receiver v).waiting

chip_bytes : (p : Port) (v : ℕ) (x : Bool) → on v 0x01 ≡ x
    → (write_fcr (chip_of p).receiver v).waiting ≡ cond x (cond (on v 0x02 || false) [] p.waiting) []
unfolding chip_of write_fcr
chip_bytes p v true e = rw e
chip_bytes p v false e = rw e

device_bytes : (p : Port) (v : ℕ) → (device.write_fcr p v).port.waiting ≡ cond (on v 0x02) [] p.waiting
unfolding chip_of
device_bytes p v = ap (λ (c : Chip). c.receiver.waiting) (fcr_written p v _ refl).next

same_left : (x y : Bool) (w : List ℕ) → (not x && not y && some w) ≡ false → cond y [] w ≡ cond x (cond (y || false) [] w) []
same_left true true w e = refl
same_left true false w e = refl
same_left false true w e = refl
same_left false false [] e = refl
same_left false false (b ∷ w) e = absurd (true≢false e)

other_left : (x y : Bool) (w : List ℕ) → (not x && not y && some w) ≡ true → cond y [] w ≡ cond x (cond (y || false) [] w) [] → ⊥
other_left false false [] e same = false≢true e
other_left false false (b ∷ w) e same = true≢false (ap some same)
other_left false true w e same = false≢true e
other_left true y w e same = false≢true e

pub fcr_same_bytes : (p : Port) (v : ℕ) → off_with_bytes p v ≡ false → SameBytes p v
fcr_same_bytes p v e = device_bytes p v ∙ same_left (on v 0x01) (on v 0x02) p.waiting e ∙ sym (chip_bytes p v _ refl)

pub fcr_other_bytes : (p : Port) (v : ℕ) → off_with_bytes p v ≡ true → SameBytes p v → ⊥
fcr_other_bytes p v e same =
    other_left (on v 0x01) (on v 0x02) p.waiting e (sym (device_bytes p v) ∙ same ∙ chip_bytes p v _ refl)

pub fcr_write : (p : Port) (v : ℕ) (enables empties : Bool) → on v 0x01 ≡ enables → on v 0x02 ≡ empties → Dec (trigger_level v ≡ 1)
    → WriteAgrees p IIR_FCR v ⊎ Row p (writes IIR_FCR v)
unfolding chip_of write_register chip.write_register write_fcr
fcr_write p v false f a b d = inr (serial_fifo_off a)
fcr_write p v true f a b (no d) = inr (serial_trigger_level a d)
fcr_write p v true f a b (yes d) =
    let w = fcr_written p v f b in
    inl (agrees p tt w.sent (w.next ∙ rw (a, b, d, or-false)) w.signal)

pub fcr_real : (p : Port) (v : ℕ) → Row p (writes IIR_FCR v) → WriteAgrees p IIR_FCR v → ⊥
unfolding chip_of write_register chip.write_register write_fcr
fcr_real p v (serial_fifo_off a) r = true≢false (simp a at (ap (λ (c : Chip). c.receiver.fifos) r.next))
fcr_real p v (serial_fifo_empty e) r = fcr_other_bytes p v e (ap (λ (c : Chip). c.receiver.waiting) r.next)
fcr_real p v (serial_trigger_level a n) r = n (sym (simp a at (ap (λ (c : Chip). c.receiver.trigger) r.next)))

-- ---- MCR
pub mcr_write : (p : Port) (v : ℕ) → Dec ((write_mcr (chip_of p).modem v).changes ≡ 0) → WriteAgrees p MCR v ⊎ Row p (writes MCR v)
unfolding chip_of write_register chip.write_register write_mcr
mcr_write p v (no d) = inr (serial_modem_change d)
mcr_write p v (yes d) = inl (quietly p tt (rw d) refl)

pub mcr_real : (p : Port) (v : ℕ) → Row p (writes MCR v) → WriteAgrees p MCR v → ⊥
unfolding chip_of write_register chip.write_register
mcr_real p v (serial_modem_change n) r = n (sym (ap (λ (c : Chip). c.modem.changes) r.next))
