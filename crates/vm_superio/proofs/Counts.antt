-- How often a write or an input raises, in ours and in the original.
use mathlib.Core.Path.{◌≡◌, refl}
use mathlib.Core.List.{List, [], ◌∷◌}
use mathlib.Core.Bool.{Bool, true, false, cond, not, ◌&&◌}
use Prim.Native.Nat.{ℕ, ◌+◌}
use native.Mathlib.Nat.{add_comm}
use native.Mathlib.Omega.{arith}
use Rattle.interrupts.specs.Interrupts.{received_data, transmitter_empty, ier_stored, is_enabled}
use Rattle.serial.specs.Port.{Port, has_room, active}
use Rattle.serial.specs.Port as ours
use Rattle.vm_superio.specs.Original as original
use Rattle.vm_superio.specs.Beside.{enables, waits, marks_data, marks_transmitter, loop_transmitter}
use Rattle.vm_superio.proofs.Marks.{once, announce_raises}
use Rattle.vm_superio.proofs.Marks as marks
use Rattle.vm_superio.proofs.Raising.{came_raises, sent_raises, enabling_raises}
use Rattle.vm_superio.proofs.Twins.{twin}

module _ (p : Port) (j : ℕ) where
  abbrev ier : ℕ
  ier = p.settings.ier

  pub ours_receives : (bytes : List ℕ) → (ours.receives p bytes).raises ≡ once (enables p received_data && not (waits p))
  unfolding ours.receives
  ours_receives bytes = came_raises ier p.iir (waits p)

  pub theirs_receives : (bytes : List ℕ)
      → (original.receives (twin p j) bytes).raises ≡ once (enables p received_data && not (marks_data (twin p j)))
  unfolding original.receives
  theirs_receives bytes = announce_raises ier j original.received_data

  pub ours_line : (v : ℕ) → (ours.write_line p v).raises ≡ once (loop_transmitter p)
  unfolding ours.write_line
  ours_line v = sent_raises ier p.iir (waits p)

  pub theirs_line : (v : ℕ)
      → (original.write_line (twin p j) v).raises ≡ once (enables p transmitter_empty && not (marks_transmitter (twin p j)))
  unfolding original.write_line
  theirs_line v = announce_raises ier j original.transmitter_empty

  pub ours_loop : (v : ℕ)
      → (ours.write_loop p v).raises ≡ once (has_room p && (enables p received_data && not (waits p))) + once (loop_transmitter p)
  unfolding ours.write_loop ours.receives
  ours_loop v = go (has_room p)
    where
      go : (t : Bool)
          → (ours.transmits p).raises + (cond {A = ours.Out} t (ours.receives (ours.emptied p) (v ∷ [])) (ours.becomes (ours.emptied p))).raises
          ≡ once (t && (enables p received_data && not (waits p))) + once (loop_transmitter p)
      go true = rw (sent_raises ier p.iir (waits p), came_raises ier (ours.transmits p).iir (waits p)) (add_comm _ _)
      go false = rw (sent_raises ier p.iir (waits p)) (add_comm _ _)

  pub theirs_loop : (v : ℕ)
      → (original.write_loop (twin p j) v).raises ≡ once (has_room p && (enables p received_data && not (marks_data (twin p j)))) + once false
  theirs_loop v = go (has_room p)
    where
      go : (t : Bool) → (cond {A = original.Out} t (original.receives (twin p j) (v ∷ [])) (original.becomes (twin p j))).raises
          ≡ once (t && (enables p received_data && not (marks_data (twin p j)))) + once false
      go true = rw (theirs_receives (v ∷ [])) (omega arith)
      go false = refl

  module _ (v : ℕ) where
    abbrev ier' : ℕ
    ier' = ier_stored v

    pub ours_ier : (ours.write_ier p v).raises
        ≡ once (is_enabled ier' received_data && waits p && not (enables p received_data)) + once (is_enabled ier' transmitter_empty && not (active p transmitter_empty))
    unfolding ours.write_ier
    ours_ier = enabling_raises ier ier' p.iir (waits p)

    pub theirs_ier : (original.write_ier (twin p j) v).raises
        ≡ once (waits p && (is_enabled ier' received_data && not (marks_data (twin p j)))) + once (is_enabled ier' transmitter_empty && not (marks_transmitter (twin p j)))
    unfolding original.write_ier original.ier_stored ier_stored
    theirs_ier = marks.enabling_raises (original.ier_stored v) j (waits p)
