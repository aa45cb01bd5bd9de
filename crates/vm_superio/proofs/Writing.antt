-- Writes and inputs: each raises as often in ours as in the original or is in a row, and in a row it does not.
use mathlib.Core.Path.{◌≡◌, refl, sym, ap, ◌∙◌}
use mathlib.Core.Logic.{◌⊎◌, inl, inr}
use mathlib.Core.List.{[], ◌∷◌}
use mathlib.Core.Bool.{Bool, true, false, cond, not, ◌&&◌, true≢false, false≢true, and-true}
use Prim.Native.Nat.{ℕ, ◌+◌}
use Rattle.common.proofs.Booleans.{both_true, both_are}
use Rattle.interrupts.specs.Interrupts.{received_data, transmitter_empty, ier_stored, is_enabled}
use Rattle.serial.specs.Port.{Port, no_events, RBR_THR, IER, in_loop, has_room, active, write_line, write_loop, write_thr, write_ier}
use Rattle.serial.specs.Port as ours
use Rattle.runs.specs.Run.{sent, raises_of}
use Rattle.vm_superio.specs.Original.{did_write}
use Rattle.vm_superio.specs.Original as original
use Rattle.vm_superio.specs.Beside.{as_original, enables, waits, marks_data, marks_transmitter, data_again, data_quiet, loop_transmitter, Row, writes}
use Rattle.vm_superio.specs.Beside.{original_sends_again, original_loop_transmitter, original_loop_data_again}
use Rattle.vm_superio.specs.Beside.{original_loop_data_quiet}
use Rattle.vm_superio.specs.Beside.{original_quiet_data, original_enables_data_again, original_quiet_transmitter}
use Rattle.vm_superio.specs.Beside.{original_enables_transmitter_again}
use Rattle.vm_superio.proofs.Marks.{once}
use Rattle.vm_superio.proofs.Twins.{twin, Held}
use Rattle.vm_superio.proofs.Counting.{alone, Off, more, less, counted, off_real}
use Rattle.vm_superio.proofs.Counting.{OffBoth, more_data, less_data, more_transmitter, less_transmitter, both_counted, off_both_real}
use Rattle.vm_superio.proofs.Counting.{ours_alone, theirs_alone, theirs_alone_active, quiet_data, data_again_lem, under}
use Rattle.vm_superio.proofs.Counting.{three_true, not_true}
use Rattle.vm_superio.proofs.Counts.{ours_line, theirs_line, ours_loop, theirs_loop, ours_ier, theirs_ier}

-- A write agrees.
abbrev pub WriteAgrees : ours.Out → original.Out → Type 0
WriteAgrees o e = sent o.sent (as_original o.events) o.raises ≡ sent e.sent e.events e.raises

all_three : {a b c : Bool} → a ≡ true → b ≡ true → c ≡ false → (a && b && not c) ≡ true
all_three e f g = rw (e, f, g) refl

-- ---- THR on the line

module _ (p : Port) (j : ℕ) (h : Held p j) (v : ℕ) where
  -- e: enabled; t: active in ours; m: marked in the original
  abbrev e : Bool
  e = enables p transmitter_empty

  abbrev t : Bool
  t = active p transmitter_empty

  abbrev m : Bool
  m = marks_transmitter (twin p j)

  line_complete : in_loop p ≡ false → WriteAgrees (write_line p v) (original.write_line (twin p j) v) ⊎ Row p (twin p j) (writes RBR_THR v)
  unfolding write_line original.write_line
  line_complete l = go (counted (loop_transmitter p) (e && not m))
    where
      go : (once (loop_transmitter p) ≡ once (e && not m)) ⊎ Off (loop_transmitter p) (e && not m)
          → WriteAgrees (write_line p v) (original.write_line (twin p j) v) ⊎ Row p (twin p j) (writes RBR_THR v)
      go (inl same) = inl (ap (sent (v ∷ []) no_events) (ours_line p j v ∙ same ∙ sym (theirs_line p j v)))
      go (inr (more x)) =
          let y = three_true e (not t) m (sym (ours_alone e t m) ∙ x) in
          absurd (true≢false (sym (h y.2 y.0) ∙ not_true t y.1))
      go (inr (less x)) =
          let y = three_true e t (not m) (sym (theirs_alone e t m) ∙ x) in
          inr (original_sends_again l y.1 (not_true m y.2))

  line_real : t ≡ true → m ≡ false → WriteAgrees (write_line p v) (original.write_line (twin p j) v) → ⊥
  line_real active unmarked agrees =
      let enabled = (both_true e _ active).0 in
      off_real (loop_transmitter p) (e && not m) (less (theirs_alone e t m ∙ all_three enabled active unmarked)) (sym (ours_line p j v) ∙ ap raises_of agrees ∙ theirs_line p j v)

-- ---- THR in the loop

module _ (p : Port) (j : ℕ) (v : ℕ) where
  -- the original's test, and ours, for the byte that comes
  abbrev theirs : Bool
  theirs = has_room p && (enables p received_data && not (marks_data (twin p j)))

  abbrev first : Bool
  first = has_room p && (enables p received_data && not (waits p))

  comes_again : alone theirs first ≡ (has_room p && data_again p (twin p j))
  comes_again = under (has_room p) _ _
      ∙ ap (λ (b : Bool). has_room p && b) (theirs_alone_active (enables p received_data) (waits p) (marks_data (twin p j)))

  comes_quiet : alone first theirs ≡ (has_room p && data_quiet p (twin p j))
  comes_quiet = under (has_room p) _ _
      ∙ ap (λ (b : Bool). has_room p && b) (ours_alone (enables p received_data) (waits p) (marks_data (twin p j)))

  only_ours : alone (loop_transmitter p) false ≡ loop_transmitter p
  only_ours = and-true (loop_transmitter p)

  loop_agrees : (write_loop p v).raises ≡ (original.write_loop (twin p j) v).raises
      → WriteAgrees (write_loop p v) (original.write_loop (twin p j) v)
  unfolding write_loop original.receives
  loop_agrees same = go (has_room p) same
    where
      go : (t : Bool) → {n : ℕ}
          → n ≡ (cond {A = original.Out} t (original.receives (twin p j) (v ∷ [])) (original.becomes (twin p j))).raises
          → sent [] no_events n ≡ (did_write (cond {A = original.Out} t (original.receives (twin p j) (v ∷ [])) (original.becomes (twin p j)))).answer
      go true e = ap (sent [] no_events) e
      go false e = ap (sent [] no_events) e

  loop_complete : in_loop p ≡ true → WriteAgrees (write_loop p v) (original.write_loop (twin p j) v) ⊎ Row p (twin p j) (writes RBR_THR v)
  loop_complete l = go (both_counted first theirs (loop_transmitter p) false)
    where
      go : (once first + once (loop_transmitter p) ≡ once theirs + once false) ⊎ OffBoth first theirs (loop_transmitter p) false
          → WriteAgrees (write_loop p v) (original.write_loop (twin p j) v) ⊎ Row p (twin p j) (writes RBR_THR v)
      go (inl same) = inl (loop_agrees (ours_loop p j v ∙ same ∙ sym (theirs_loop p j v)))
      go (inr (more_data x y)) = let z = both_true _ _ (sym comes_quiet ∙ x) in inr (original_loop_data_quiet l z.0 z.1)
      go (inr (less_data x y)) = let z = both_true _ _ (sym comes_again ∙ x) in inr (original_loop_data_again l z.0 z.1 (sym only_ours ∙ y))
      go (inr (more_transmitter x y)) = inr (original_loop_transmitter l (sym only_ours ∙ x) (sym comes_again ∙ y))
      go (inr (less_transmitter x y)) = absurd (false≢true x)

  loop_off : OffBoth first theirs (loop_transmitter p) false → WriteAgrees (write_loop p v) (original.write_loop (twin p j) v) → ⊥
  loop_off off agrees =
      off_both_real first theirs (loop_transmitter p) false off (sym (ours_loop p j v) ∙ ap raises_of agrees ∙ theirs_loop p j v)

-- ---- THR

module _ (p : Port) (j : ℕ) (h : Held p j) (v : ℕ) where
  abbrev ThrAgrees : Type 0
  ThrAgrees = WriteAgrees (write_thr p v) (original.write_thr (twin p j) v)

  pub thr_complete : ThrAgrees ⊎ Row p (twin p j) (writes RBR_THR v)
  thr_complete = go (in_loop p) refl
    where
      go : (l : Bool) → in_loop p ≡ l → ThrAgrees ⊎ Row p (twin p j) (writes RBR_THR v)
      go true l = rw l (loop_complete p j v l)
      go false l = rw l (line_complete p j h v l)

  pub thr_real : Row p (twin p j) (writes RBR_THR v) → ThrAgrees → ⊥
  thr_real (original_sends_again l t m) agrees = line_real p j h v t m (rw l at agrees)
  thr_real (original_loop_transmitter l t a) agrees =
      loop_off p j v (more_transmitter (only_ours p j v ∙ t) (comes_again p j v ∙ a)) (rw l at agrees)
  thr_real (original_loop_data_again l r a t) agrees =
      loop_off p j v (less_data (comes_again p j v ∙ both_are r a) (only_ours p j v ∙ t)) (rw l at agrees)
  thr_real (original_loop_data_quiet l r a) agrees =
      loop_off p j v (more_data (comes_quiet p j v ∙ both_are r a) refl) (rw l at agrees)

-- ---- IER

module _ (p : Port) (j : ℕ) (v : ℕ) where
  -- received data and the transmitter's kind: enabled now, active in ours or enabled before, marked in the original
  abbrev vd : Bool
  vd = is_enabled (ier_stored v) received_data

  abbrev ed : Bool
  ed = enables p received_data

  abbrev md : Bool
  md = marks_data (twin p j)

  abbrev vt : Bool
  vt = is_enabled (ier_stored v) transmitter_empty

  abbrev at : Bool
  at = active p transmitter_empty

  abbrev mt : Bool
  mt = marks_transmitter (twin p j)

  abbrev IerAgrees : Type 0
  IerAgrees = WriteAgrees (write_ier p v) (original.write_ier (twin p j) v)

  abbrev IerOff : Type 0
  IerOff = OffBoth (vd && waits p && not ed) (waits p && (vd && not md)) (vt && not at) (vt && not mt)

  pub ier_complete : IerAgrees ⊎ Row p (twin p j) (writes IER v)
  unfolding write_ier original.write_ier
  ier_complete = go (both_counted (vd && waits p && not ed) (waits p && (vd && not md)) (vt && not at) (vt && not mt))
    where
      go : (once (vd && waits p && not ed) + once (vt && not at) ≡ once (waits p && (vd && not md)) + once (vt && not mt)) ⊎ IerOff
          → IerAgrees ⊎ Row p (twin p j) (writes IER v)
      go (inl same) = inl (ap (sent [] no_events) (ours_ier p j v ∙ same ∙ sym (theirs_ier p j v)))
      go (inr (more_data x y)) = inr (original_quiet_data (sym (quiet_data vd (waits p) ed md) ∙ x) (sym (theirs_alone vt at mt) ∙ y))
      go (inr (less_data x y)) = inr (original_enables_data_again (sym (data_again_lem vd (waits p) ed md) ∙ x) (sym (ours_alone vt at mt) ∙ y))
      go (inr (more_transmitter x y)) = inr (original_quiet_transmitter (sym (ours_alone vt at mt) ∙ x) (sym (data_again_lem vd (waits p) ed md) ∙ y))
      go (inr (less_transmitter x y)) = inr (original_enables_transmitter_again (sym (theirs_alone vt at mt) ∙ x) (sym (quiet_data vd (waits p) ed md) ∙ y))

  ier_off : IerOff → IerAgrees → ⊥
  ier_off off agrees = off_both_real _ _ _ _ off (sym (ours_ier p j v) ∙ ap raises_of agrees ∙ theirs_ier p j v)

  pub ier_real : Row p (twin p j) (writes IER v) → IerAgrees → ⊥
  ier_real (original_quiet_data x y) = ier_off (more_data (quiet_data vd (waits p) ed md ∙ x) (theirs_alone vt at mt ∙ y))
  ier_real (original_enables_data_again x y) = ier_off (less_data (data_again_lem vd (waits p) ed md ∙ x) (ours_alone vt at mt ∙ y))
  ier_real (original_quiet_transmitter x y) = ier_off (more_transmitter (ours_alone vt at mt ∙ x) (data_again_lem vd (waits p) ed md ∙ y))
  ier_real (original_enables_transmitter_again x y) = ier_off (less_transmitter (theirs_alone vt at mt ∙ x) (quiet_data vd (waits p) ed md ∙ y))
