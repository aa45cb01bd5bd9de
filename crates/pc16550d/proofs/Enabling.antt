-- Writes of IER: each agrees with the chip or is in a row, and in a row it does not agree.
use mathlib.Core.Path.{◌≡◌, refl, sym, ap, ◌∙◌}
use mathlib.Core.Logic.{◌⊎◌, inl, inr}
use mathlib.Core.Bool.{Bool, true, false, not, ◌&&◌, ◌||◌, true≢false}
use Prim.Native.Nat.{ℕ}
use Rattle.common.specs.Lists.{some}
use Rattle.interrupts.specs.Interrupts.{received_data, transmitter_empty, is_enabled, is_high, ier_stored}
use Rattle.interrupts.proofs.Laws.{set_active}
use Rattle.serial.specs.Port.{Port, active, IER, write_register}
use Rattle.serial.specs.Port as device
use Rattle.pc16550d.specs.Chip.{Chip, write_ier}
use Rattle.pc16550d.specs.Chip as chip
use Rattle.pc16550d.specs.Compare.{chip_of, enables, Row, writes, serial_transmitter_again}
use Rattle.pc16550d.proofs.Agreement.{agrees, each_raised}
use Rattle.pc16550d.proofs.Writing.{WriteAgrees}

module _ (p : Port) (v : ℕ) where
  abbrev after : Port
  after = (device.write_ier p v).port

  -- On the device the transmitter's interrupt is active if it is enabled now.
  signalled : active after transmitter_empty ≡ is_enabled (ier_stored v) transmitter_empty
  unfolding device.write_ier
  signalled = set_active (ier_stored v) p.iir (some p.waiting)

  -- It is pending on the chip too. e, n: it was enabled, is now; t: it was active.
  abbrev Same : Bool → Bool → Bool → Type 0
  Same e n t = n ≡ (n && (not e || t))

  same_or : (e n t : Bool) → Same e n t ⊎ ((e ≡ true) × (n ≡ true) × (t ≡ false))
  same_or true true true = inl refl
  same_or true true false = inr (refl, refl, refl)
  same_or true false t = inl refl
  same_or false true t = inl refl
  same_or false false t = inl refl

  ier_agrees : Same (enables p transmitter_empty) (is_enabled (ier_stored v) transmitter_empty) (active p transmitter_empty)
      → WriteAgrees p IER v
  unfolding write_register device.write_ier chip.write_register write_ier chip_of ier_stored is_high
  ier_agrees s =
      agrees p tt refl (simp (signalled, ← s))
      (each_raised (active after received_data) (active after transmitter_empty) (active p received_data) (active p transmitter_empty))

  pub ier_write : WriteAgrees p IER v ⊎ Row p (writes IER v)
  ier_write = go (same_or (enables p transmitter_empty) (is_enabled (ier_stored v) transmitter_empty) (active p transmitter_empty))
    where
      go : Same (enables p transmitter_empty) (is_enabled (ier_stored v) transmitter_empty) (active p transmitter_empty)
          ⊎ ((enables p transmitter_empty ≡ true) × (is_enabled (ier_stored v) transmitter_empty ≡ true) × (active p transmitter_empty ≡ false))
          → WriteAgrees p IER v ⊎ Row p (writes IER v)
      go (inl s) = inl (ier_agrees s)
      go (inr (e, n, t)) = inr (serial_transmitter_again e n t)

  pub ier_real : Row p (writes IER v) → WriteAgrees p IER v → ⊥
  unfolding chip_of write_register device.write_ier chip.write_register write_ier ier_stored
  ier_real (serial_transmitter_again e n t) a =
      true≢false (sym n ∙ sym signalled ∙ ap (λ (c : Chip). c.interrupts.thre) a.next ∙ rw (t, n, e))
