-- A port that one of the two saved and the other restores: no interrupt that was due is lost.
use mathlib.Core.Path.{◌≡◌, refl, sym, ap, ◌∙◌}
use mathlib.Core.List.{List}
use mathlib.Core.Bool.{Bool, true, false, cond, not, ◌&&◌, true≢false}
use Prim.Native.Nat.{ℕ, ◌+◌, ◌≤◌}
use native.Mathlib.Omega.{arith}
use Rattle.common.proofs.Booleans.{both_true, both_are}
use Rattle.common.specs.Bits.{on}
use Rattle.interrupts.specs.Interrupts.{received_data, transmitter_empty, ier_stored, is_enabled, settled}
use Rattle.serial.specs.Port.{IER, Port, active}
use Rattle.serial.specs.Port as serial
use Rattle.runs.specs.Run.{Op}
use Rattle.runs.specs.Run as ours
use Rattle.runs.specs.Reachable.{Settled}
use Rattle.runs.specs.Reached.{AllOfBytes}
use Rattle.runs.proofs.Reachable.{all_reachable}
use Rattle.vm_superio.specs.Original.{Original, fresh, run, is_told}
use Rattle.vm_superio.specs.Original as original
use Rattle.vm_superio.specs.Beside.{restored, enables, waits, marks_data, marks_transmitter, Row, writes}
use Rattle.vm_superio.specs.Beside.{original_quiet_data, original_enables_data_again, original_quiet_transmitter}
use Rattle.vm_superio.specs.Beside.{original_enables_transmitter_again}
use Rattle.vm_superio.specs.Restored.{ported, NoneLost, NoneLostBack}
use Rattle.vm_superio.proofs.Marks.{once}
use Rattle.vm_superio.proofs.Counting.{three_true, not_true}
use Rattle.vm_superio.proofs.Reached.{Reached, all_reached, marked_waits}

-- ---- To ours

-- FCR, which the original does not keep, is that of a fresh port.
pub fresh_ported : (size : ℕ) → ported (fresh size) ≡ serial.fresh size
fresh_ported size = refl

no_fewer : (a b : Bool) → (a ≡ true → b ≡ true) → once a ≤ once b
no_fewer true b h = rw (h refl) (omega arith)
no_fewer false b h = omega arith

reached_none_lost : (q : Original) → Reached q → NoneLost q
reached_none_lost q s = record {
  received = received;
  transmitter = λ t. t;
  raises = omega (arith, no_fewer (is_told q original.received_data) (active (ported q) received_data) received);
}
  where
    received : is_told q original.received_data ≡ true → active (ported q) received_data ≡ true
    received t = let both = both_true (on q.settings.ier 0x01) (marks_data q) t in both_are both.0 (marked_waits s both.1)

-- Whatever the original reached from fresh and saved, ours raises what was due.
pub none_lost : (size : ℕ) (os : List Op) → NoneLost (run (fresh size) os).original
none_lost size os = reached_none_lost (run (fresh size) os).original (all_reached size os)

-- ---- Back: the bits of a settled port are its active kinds

settled_data : (r t : Bool) → on (cond r (cond t 0x06 0x04) (cond t 0x02 0x01)) 0x04 ≡ r
settled_data true true = refl
settled_data true false = refl
settled_data false true = refl
settled_data false false = refl

settled_transmitter : (r t : Bool) → on (cond r (cond t 0x06 0x04) (cond t 0x02 0x01)) 0x02 ≡ t
settled_transmitter true true = refl
settled_transmitter true false = refl
settled_transmitter false true = refl
settled_transmitter false false = refl

twice : (e w : Bool) → (e && (e && w)) ≡ (e && w)
twice true w = refl
twice false w = refl

module _ (p : Port) (s : Settled p) where
  pub marks_active_data : marks_data (restored p) ≡ active p received_data
  unfolding settled
  marks_active_data = ap (λ (i : ℕ). on i 0x04) s ∙ settled_data (active p received_data) (active p transmitter_empty)

  pub marks_active_transmitter : marks_transmitter (restored p) ≡ active p transmitter_empty
  unfolding settled
  marks_active_transmitter = ap (λ (i : ℕ). on i 0x02) s ∙ settled_transmitter (active p received_data) (active p transmitter_empty)

  disabled_data : enables p received_data ≡ false → marks_data (restored p) ≡ false
  disabled_data e = marks_active_data ∙ rw e refl

  disabled_transmitter : enables p transmitter_empty ≡ false → marks_transmitter (restored p) ≡ false
  disabled_transmitter e = marks_active_transmitter ∙ rw e refl

  enabling_told : (v : ℕ) → Row p (restored p) (writes IER v) → ⊥
  enabling_told v (original_quiet_data x y) =
      let a = both_true (is_enabled (ier_stored v) received_data && waits p && not (enables p received_data)) (marks_data (restored p)) x in
      let b = three_true (is_enabled (ier_stored v) received_data) (waits p) (not (enables p received_data)) a.0 in
      true≢false (sym a.1 ∙ disabled_data (not_true (enables p received_data) b.2))
  enabling_told v (original_enables_data_again x y) =
      let a = three_true (is_enabled (ier_stored v) received_data) (active p received_data) (not (marks_data (restored p))) x in
      true≢false (sym a.1 ∙ sym marks_active_data ∙ not_true (marks_data (restored p)) a.2)
  enabling_told v (original_quiet_transmitter x y) =
      let a = three_true (is_enabled (ier_stored v) transmitter_empty) (not (active p transmitter_empty)) (marks_transmitter (restored p)) x in
      true≢false (sym a.2 ∙ marks_active_transmitter ∙ not_true (active p transmitter_empty) a.1)
  enabling_told v (original_enables_transmitter_again x y) =
      let a = three_true (is_enabled (ier_stored v) transmitter_empty) (active p transmitter_empty) (not (marks_transmitter (restored p))) x in
      true≢false (sym a.1 ∙ sym marks_active_transmitter ∙ not_true (marks_transmitter (restored p)) a.2)

  told_data : is_told (restored p) original.received_data ≡ active p received_data
  told_data = ap (λ (t : Bool). enables p received_data && t) marks_active_data ∙ twice (enables p received_data) (waits p)

  -- The original raises what is active in a settled port, and enabling tells the rest.
  pub none_lost_back : NoneLostBack p
  none_lost_back = record {
    received = λ r. both_are (both_true (enables p received_data) (waits p) r).0 (marks_active_data ∙ r);
    transmitter = λ t. both_are (both_true (enables p transmitter_empty) (on p.iir 0x02) t).0 (marks_active_transmitter ∙ t);
    raises = ap (λ (t : Bool). once (active p transmitter_empty) + once t) told_data;
    received_disabled = disabled_data;
    transmitter_disabled = disabled_transmitter;
    enabling = enabling_told;
  }

-- So it is with whatever ours reached from fresh and saved.
pub none_lost_from_ours : (size : ℕ) (os : List Op) → AllOfBytes os → NoneLostBack (ours.run (serial.fresh size) os).port
none_lost_from_ours size os h = none_lost_back (ours.run (serial.fresh size) os).port (all_reachable size os h).iir
