-- What an answer says happened is what happened.
use mathlib.Core.Path.{◌≡◌, refl, ap, ap₂, ◌∙◌}
use mathlib.Core.Bool.{Bool, true, false, cond, ◌&&◌}
use mathlib.Core.Logic.{◌⊎◌, inl, inr}
use mathlib.Core.List.{[], tail}
use Prim.Native.Nat.{ℕ, ◌≤◌}
use native.Mathlib.Omega.{arith}
use lib.ListN.{length}
use Rattle.common.specs.Bits.{on}
use Rattle.common.specs.Lists.{some}
use Rattle.serial.specs.Port.{Register, RBR_THR, IER, IIR_FCR, LCR, MCR, LSR, MSR, SCR, DLL, DLM, reserved, addressed, Port, is_open, in_loop}
use Rattle.serial.specs.Port.{Events, no_events, read_events, read_register, has_room, write_line, loop_events, write_loop, write_ier}
use Rattle.serial.specs.Port.{Out, with_settings, becomes, receives, write_of, put_fcr, fcr_stored, flush_events, flushes, write_fcr, write_register}
use Rattle.runs.specs.Run.{read, write, step}
use Rattle.runs.specs.Accepted.{events_of, is_data, is_flush, told_by_read, told_by_write}
use Rattle.runs.proofs.Effects.{write_cases}
use Rattle.runs.proofs.Registers.{is_rbr, is_fcr, rbr_is_data, fcr_is_at_2}

module _ (p : Port) where
  abbrev of_read : Bool → Events
  of_read at_rbr = cond at_rbr (read_events (some p.waiting) (some (tail p.waiting))) no_events

  abbrev of_write : ℕ → Bool → Bool → Events
  of_write v at_thr at_fcr =
      cond (at_thr && in_loop p) (loop_events (has_room p)) (cond (at_fcr && on v 0x02) (flush_events p.waiting) no_events)

  register_read : (r : Register) → (read_register p r).events ≡ of_read (is_rbr r)
  unfolding read_register is_rbr
  register_read RBR_THR = refl
  register_read IER = refl
  register_read IIR_FCR = refl
  register_read LCR = refl
  register_read MCR = refl
  register_read LSR = refl
  register_read MSR = refl
  register_read SCR = refl
  register_read DLL = refl
  register_read DLM = refl
  register_read reserved = refl

  register_written : (v : ℕ) (r : Register) → (write_register p r v).events ≡ of_write v (is_rbr r) (is_fcr r)
  unfolding write_register write_line write_loop write_ier write_fcr is_rbr is_fcr
  register_written v RBR_THR = go (in_loop p)
    where
      go : (l : Bool) → (cond l (write_loop p v) (write_line p v)).events ≡ cond l (loop_events (has_room p)) no_events
      go true = refl
      go false = refl
  register_written v IER = refl
  register_written v IIR_FCR = go (on v 0x02)
    where
      go : (t : Bool) → let kept = with_settings p (put_fcr p.settings (fcr_stored v)) in
          (cond t (flushes kept) (becomes kept)).events ≡ cond t (flush_events p.waiting) no_events
      go true = refl
      go false = refl
  register_written v LCR = refl
  register_written v MCR = refl
  register_written v LSR = refl
  register_written v MSR = refl
  register_written v SCR = refl
  register_written v DLL = refl
  register_written v DLM = refl
  register_written v reserved = refl

  pub read_tells : (offset : ℕ) → events_of (step p (read offset)).answer ≡ told_by_read p offset
  unfolding step told_by_read
  read_tells offset = register_read (addressed (is_open p) offset) ∙ ap of_read (rbr_is_data (is_open p) offset)

  pub write_tells : (offset v : ℕ) → events_of (step p (write offset v)).answer ≡ told_by_write p offset v
  unfolding step told_by_write
  write_tells offset v =
      register_written v (addressed (is_open p) offset) ∙ ap₂ (of_write v) (rbr_is_data (is_open p) offset) (fcr_is_at_2 (is_open p) offset)

  -- So a write delivers nothing and is no data read.
  pub no_read_by_write : (offset v : ℕ) → let e = told_by_write p offset v in
      (e.data_read ≡ false) × ((e.delivered ≡ false) × (e.none_left ≡ false))
  unfolding told_by_write
  no_read_by_write offset v = go (is_data p offset && in_loop p) (is_flush offset v)
    where
      go : (t f : Bool) → let e = cond t (loop_events (has_room p)) (cond f (flush_events p.waiting) no_events) in
          (e.data_read ≡ false) × ((e.delivered ≡ false) × (e.none_left ≡ false))
      go true f = (refl, (refl, refl))
      go false true = (refl, (refl, refl))
      go false false = (refl, (refl, refl))

-- A write delivers nothing; by FCR it sends nothing, and else it throws nothing away.
pub record Wrote (o : Out) : Type 0 where
  pub none : o.events.delivered ≡ false
  pub either : ((o.sent ≡ []) × (o.events.flushed ≡ true)) ⊎ ((o.events.discarded ≡ []) × (o.events.flushed ≡ false))

pub wrote : (p : Port) (offset value : ℕ) → Wrote (write_of p offset value)
unfolding receives write_ier write_line
wrote p offset value =
    write_cases Wrote p value (λ h. other refl (refl, refl)) (other refl (refl, refl)) (other refl (refl, refl)) (other refl (refl, refl))
    (λ s e. other refl (refl, refl)) (λ s e. record { none = refl; either = inl (refl, refl) }) (addressed (is_open p) offset)
  where
    other : {o : Out} → o.events.delivered ≡ false → (o.events.discarded ≡ []) × (o.events.flushed ≡ false) → Wrote o
    other n d = record { none = n; either = inr d }

-- No more is thrown away than waits.
pub few_discarded : (p : Port) (offset value : ℕ) → length (write_of p offset value).events.discarded ≤ length p.waiting
unfolding receives write_ier write_line
few_discarded p offset value =
    let none : length {A = ℕ} [] ≤ length p.waiting = omega arith in
    write_cases (λ (o : Out). length o.events.discarded ≤ length p.waiting) p value (λ h. none) none none none (λ s e. none)
    (λ s e. omega arith) (addressed (is_open p) offset)
