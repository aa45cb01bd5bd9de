-- Writes of THR, on the line and in the loop: each agrees with the chip or is in a row, and in a row it does not agree.
use mathlib.Core.Path.{◌≡◌, refl, sym, ap, ◌∙◌}
use mathlib.Core.Logic.{◌⊎◌, inl, inr}
use mathlib.Core.List.{[], ◌∷◌, ◌++◌}
use mathlib.Core.Bool.{Bool, true, false, cond, not, ◌&&◌, ◌||◌, true≢false, false≢true}
use Prim.Native.Nat.{ℕ, ◌+◌, ◌<◌}
use native.Mathlib.Omega.{arith}
use native.Mathlib.Nat.{zero-add, add-zero}
use lib.ListN.{length}
use borrow.Author.Tests.{lt-ltb, le-ltb}
use Rattle.common.proofs.Booleans.{both_true}
use Rattle.common.specs.Lists.{some}
use Rattle.interrupts.specs.Interrupts.{received_data, transmitter_empty, is_enabled, is_active, is_high, newly, byte_sent}
use Rattle.interrupts.proofs.Laws.{set_active, newly_same}
use Rattle.serial.specs.Port.{Port, active, line, write_register, write_line, write_loop, emptied, has_room, in_loop, RBR_THR}
use Rattle.serial.specs.Port as device
use Rattle.pc16550d.specs.Chip.{Chip, pin, loads, transmits, held, left, arrives, write_thr, rising, rises}
use Rattle.pc16550d.specs.Chip as chip
use Rattle.pc16550d.specs.Compare.{chip_of, enables, Sound, Row, writes, serial_thr_burst, serial_loop_overrun}
use Rattle.pc16550d.proofs.Agreement.{pin_is, held_pin, Signal, agrees_by, none_raised, neither}
use Rattle.pc16550d.proofs.Reading.{loop_kept}
use Rattle.pc16550d.proofs.Receiving.{received}
use Rattle.pc16550d.proofs.Writing.{WriteAgrees}

-- ---- The device
-- The transmitter's interrupt is active if it is enabled.
sent_active : (ier iir : ℕ) (waits e : Bool) → is_enabled ier transmitter_empty ≡ e
    → is_active ier (byte_sent ier iir waits).iir waits transmitter_empty ≡ is_enabled ier transmitter_empty
sent_active ier iir waits true f = rw f (rw f at (set_active ier iir waits))
sent_active ier iir waits false f = rw f

empties : (p : Port) → active (emptied p) transmitter_empty ≡ enables p transmitter_empty
empties p = sent_active p.settings.ier p.iir (some p.waiting) _ refl

empties_raises : (p : Port) → (device.transmits p).raises ≡ newly (active p transmitter_empty) (enables p transmitter_empty)
empties_raises p = rw (empties p, newly_same (active p received_data)) (zero-add _)

-- Received data is active after a write of THR: it was, or the byte comes by the loop and it is enabled.
abbrev pub data_after : Port → Bool
data_after p = cond (in_loop p && has_room p) (enables p received_data) (active p received_data)

-- q: the port after the write.
pub record Written (p q : Port) (raises : ℕ) : Type 0 where
  pub level : line q ≡ (data_after p || enables p transmitter_empty)
  pub raised : raises ≡ newly (active p transmitter_empty) (enables p transmitter_empty) + newly (active p received_data) (data_after p)

pub written : (p : Port) (v : ℕ) (l room : Bool) → in_loop p ≡ l → has_room p ≡ room
    → Written p (device.write_thr p v).port (device.write_thr p v).raises
unfolding write_line write_loop is_high
written p v false room l h =
    rw l (record { level = rw (l, empties p); raised = rw (l, empties_raises p, newly_same (active p received_data)) (sym (add-zero _)) })
written p v true false l h =
    rw (l, h) (record { level = rw (l, h, empties p); raised = rw (l, h, empties_raises p, newly_same (active p received_data)) })
written p v true true l h =
    let r = received (emptied p) v [] in
    rw (l, h) (record { level = r.level ∙ rw (l, h, empties p); raised = rw (l, h, empties_raises p, r.raised) })

-- ---- The signal
-- r, t: received data and the transmitter's interrupt before the write; r': received data after it; e: the transmitter's interrupt is
-- enabled. From the moment when THR holds the byte, and the line is high for r alone, the signal fits, but for one case.
signals : (r' e r t : Bool) → Signal r (r' || e) (newly t e + newly r r') ⊎ ((t ≡ true) × (r ≡ false) × (r' ≡ false))
signals true e r t = inl (record { rise = λ low high. rw low (omega arith); high = λ h. refl })
signals false false r t = inl (record { rise = λ low high. absurd (false≢true high); high = λ h. absurd (none_raised t r h) })
signals false true true t = inl (record { rise = λ low high. absurd (true≢false low); high = λ h. refl })
signals false true false true = inr (refl, refl, refl)
signals false true false false = inl (record { rise = λ low high. omega arith; high = λ h. refl })

-- The pin has not risen when THR holds the byte.
rose : (b m a : Bool) → (b ≡ false → m ≡ false) → (not b && m || not m && a) ≡ true → (m ≡ false) × (a ≡ true)
rose true false a f e = (refl, e)
rose false false a f e = (refl, e)
rose true true a f e = absurd (false≢true e)
rose false true a f e = absurd (true≢false (f refl))

falls : (p : Port) → pin (chip_of p) ≡ false → pin (held (chip_of p)) ≡ false
unfolding is_high
falls p low = held_pin p ∙ (neither (active p received_data) (active p transmitter_empty) (sym (pin_is p) ∙ low)).0

-- ---- Both
same_left : (p : Port) → chip_of (emptied p) ≡ left (held (chip_of p))
unfolding chip_of loads transmits
same_left p = rw (empties p)

-- Where the byte is not lost to an overrun, the port after the write is, on the chip, the chip after it.
pub thr_next : (p : Port) (v : ℕ) → Sound p → (l : Bool) → in_loop p ≡ l → (l ≡ true → length p.waiting < 16)
    → chip_of (device.write_thr p v).port ≡ (write_thr (chip_of p) v).chip
unfolding chip_of write_line write_loop write_thr arrives
thr_next p v k false l h = rw (loop_kept, l) (same_left p)
thr_next p v k true l h =
    let s = k.size in
    let few = h refl in
    let comes : Chip → Chip = λ c. chip.with_receiver c (chip.holding c.receiver (p.waiting ++ (v ∷ [])) false) in
    rw (loop_kept, l, lt-ltb (length p.waiting) 16 few, lt-ltb (length p.waiting) p.size (omega arith))
    ((received (emptied p) v []).next ∙ ap comes (same_left p))

pub same_sent : (p : Port) (v : ℕ) (l : Bool) → in_loop p ≡ l → (device.write_thr p v).sent ≡ (write_thr (chip_of p) v).sent
unfolding chip_of write_line write_loop write_thr
same_sent p v true l = rw (loop_kept, l)
same_sent p v false l = rw (loop_kept, l)

-- Where the pin rises, it is low while THR holds the byte.
thr_rose : (p : Port) (v : ℕ) → rises (chip_of p) (write_thr (chip_of p) v) ≡ true
    → (pin (held (chip_of p)) ≡ false) × (pin (write_thr (chip_of p) v).chip ≡ true)
unfolding rising write_thr
thr_rose p v e = rose (pin (chip_of p)) (pin (held (chip_of p))) (pin (write_thr (chip_of p) v).chip) (falls p) e

thr_agrees : (p : Port) (v : ℕ) → Sound p → (in_loop p ≡ true → length p.waiting < 16)
    → Signal (active p received_data) (data_after p || enables p transmitter_empty)
    (newly (active p transmitter_empty) (enables p transmitter_empty) + newly (active p received_data) (data_after p))
    → WriteAgrees p RBR_THR v
unfolding write_register chip.write_register write_thr
thr_agrees p v k few s =
    let q = (device.write_thr p v).port in
    let w = written p v _ _ refl refl in
    let next = thr_next p v k _ refl few in
    let fits : Signal (active p received_data) (line q) (device.write_thr p v).raises = rw (w.level, w.raised) s in
    agrees_by p tt (same_sent p v _ refl) next
    (λ e. (let r = thr_rose p v e in fits.rise (sym (held_pin p) ∙ r.0) (sym (pin_is q) ∙ ap pin next ∙ r.1)))
    fits.high

-- Every write of THR agrees or is in a row.
thr_decided : (p : Port) (v : ℕ) → Sound p → (in_loop p ≡ true → length p.waiting < 16)
    → (active p transmitter_empty ≡ true → active p received_data ≡ false → data_after p ≡ false → Row p (writes RBR_THR v))
    → WriteAgrees p RBR_THR v ⊎ Row p (writes RBR_THR v)
thr_decided p v k few burst =
    elim (signals (data_after p) (enables p transmitter_empty) (active p received_data) (active p transmitter_empty)) [
      | inl s ↦ inl (thr_agrees p v k few s)
      | inr b ↦ inr (burst b.0 b.1 b.2)
    ]

pub thr_write : (p : Port) (v : ℕ) → Sound p → (l : Bool) → in_loop p ≡ l → Dec (length p.waiting < 16)
    → WriteAgrees p RBR_THR v ⊎ Row p (writes RBR_THR v)
thr_write p v k false l h = thr_decided p v k (λ t. absurd (true≢false (sym t ∙ l))) (λ t r n. serial_thr_burst t r (simp l))
thr_write p v k true l (no h) = inr (serial_loop_overrun l (omega arith))
thr_write p v k true l (yes h) =
    let s = k.size in
    let room = lt-ltb (length p.waiting) p.size (omega arith) in
    thr_decided p v k (λ t. h) (λ t r n. serial_thr_burst t r (simp (l, rw (l, room) at n)))

-- ---- In a row
no_data : (l room e r : Bool) → (l && e) ≡ false → r ≡ false → cond (l && room) e r ≡ false
no_data true true e r n f = n
no_data true false e r n f = f
no_data false room e r n f = f

rises_again : (b m a : Bool) → m ≡ false → a ≡ true → (not b && m || not m && a) ≡ true
rises_again true m a f g = rw (f, g)
rises_again false m a f g = rw (f, g)

pub thr_real : (p : Port) (v : ℕ) → Row p (writes RBR_THR v) → WriteAgrees p RBR_THR v → ⊥
unfolding chip_of write_register chip.write_register write_thr arrives rising
thr_real p v (serial_thr_burst t r n) a =
    let enabled : enables p transmitter_empty ≡ true = (both_true (enables p transmitter_empty) _ t).0 in
    let data-none = no_data (in_loop p) (has_room p) (enables p received_data) (active p received_data) n r in
    let w = written p v _ _ refl refl in
    let high : line (device.write_thr p v).port ≡ true = w.level ∙ rw (data-none, enabled) in
    let quiet : (device.write_thr p v).raises ≡ 0 = w.raised ∙ rw (data-none, t, r) in
    omega (arith, quiet, a.alike.rise (rises_again (pin (chip_of p)) _ _ (held_pin p ∙ r) (sym a.alike.level ∙ high)))
thr_real p v (serial_loop_overrun l h) a =
    false≢true (rw (loop_kept, l, le-ltb (length p.waiting) 16 h) at (ap (λ (c : Chip). c.receiver.overrun) a.next))
