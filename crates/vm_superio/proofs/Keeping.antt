-- Every call leaves the two the same but for IIR and FCR, and answers the same but for IIR's reply and the raises. Where FCR empties ours,
-- the original's guest fetches what waits.
use mathlib.Core.Path.{◌≡◌, refl, sym, subst, ◌∙◌}
use mathlib.Core.List.{List, [], ◌∷◌, tail}
use mathlib.Core.Bool.{Bool, true, false, cond, ◌&&◌, false≢true, true≢false}
use Prim.Native.Nat.{ℕ, zero, suc, ◌+◌, ◌<◌}
use native.Mathlib.Omega.{arith}
use lib.ListN.{length}
use lib.Dec.{eqb}
use borrow.Author.Tests.{ne_eqb, eqb-true, not-false}
use Rattle.common.specs.Bits.{on}
use Rattle.common.specs.Lists.{some}
use Rattle.interrupts.specs.Interrupts.{ier_stored}
use Rattle.interrupts.proofs.Laws.{set_active}
use Rattle.line_status.specs.LineStatus.{lsr_after_read}
use Rattle.serial.specs.Port.{Register, RBR_THR, IER, IIR_FCR, LCR, MCR, LSR, MSR, SCR, DLL, DLM, reserved, addressed, Port, is_open, in_loop}
use Rattle.serial.specs.Port.{has_room, Events, no_events, loop_events, with_settings, put_fcr, fcr_stored, flushes, write_fcr}
use Rattle.serial.specs.Port.{Out, receives, transmits, emptied, write_line, write_loop, write_ier, read_register, write_register, Input}
use Rattle.serial.specs.Port.{input_of}
use Rattle.runs.specs.Run.{Op, read, write, input, room, replied, Did, did_input, step}
use Rattle.vm_superio.specs.Original.{Original}
use Rattle.vm_superio.specs.Original as original
use Rattle.vm_superio.specs.Beside.{as_original, Beside, is_iir_read, common, is_to_empty, drained, next}
use Rattle.vm_superio.proofs.Marks.{data_unmarked_keeps, data_announced_keeps}
use Rattle.vm_superio.proofs.Draining.{drained_is}
use Rattle.vm_superio.proofs.Raising.{read_keeps, came_keeps, sent_active}
use Rattle.vm_superio.proofs.Twins.{twin, is_same, Held, twins}

-- What holds of both cases of one test holds of the two that go by it.
pub side_by_side : {A B : Type 0} (P : A → B → Type 0) (t : Bool) {a a' : A} {b b' : B} → P a b → P a' b' → P (cond t a a') (cond t b b')
side_by_side P true x y = x
side_by_side P false x y = y

-- ---- Offset 2 is IIR, and nothing else is

unfoldable pub is_iir : Register → Bool
is_iir RBR_THR = false
is_iir IER = false
is_iir IIR_FCR = true
is_iir LCR = false
is_iir MCR = false
is_iir LSR = false
is_iir MSR = false
is_iir SCR = false
is_iir DLL = false
is_iir DLM = false
is_iir reserved = false

not_below_8 : (n k : ℕ) → k < 8 → eqb (suc (suc (suc (suc (suc (suc (suc (suc n)))))))) k ≡ false
not_below_8 n k h = ne_eqb _ k (omega arith)

never : (t : Bool) (r s : Register) → is_iir r ≡ false → is_iir s ≡ false → is_iir (cond t r s) ≡ false
never true r s e f = e
never false r s e f = f

iir_at_2 : (dlab : Bool) (offset : ℕ) → is_iir (addressed dlab offset) ≡ eqb offset 2
unfolding is_iir addressed
iir_at_2 dlab zero = never dlab DLL RBR_THR refl refl
iir_at_2 dlab (suc zero) = never dlab DLM IER refl refl
iir_at_2 dlab (suc (suc zero)) = refl
iir_at_2 dlab (suc (suc (suc zero))) = refl
iir_at_2 dlab (suc (suc (suc (suc zero)))) = refl
iir_at_2 dlab (suc (suc (suc (suc (suc zero))))) = refl
iir_at_2 dlab (suc (suc (suc (suc (suc (suc zero)))))) = refl
iir_at_2 dlab (suc (suc (suc (suc (suc (suc (suc zero))))))) = refl
iir_at_2 dlab (suc (suc (suc (suc (suc (suc (suc (suc n)))))))) =
    simp (not_below_8 n 0 (omega arith), not_below_8 n 1 (omega arith), not_below_8 n 2 (omega arith), not_below_8 n 3 (omega arith), not_below_8 n 4 (omega arith), not_below_8 n 5 (omega arith), not_below_8 n 6 (omega arith), not_below_8 n 7 (omega arith))

at_2 : (dlab : Bool) (offset v w : ℕ) → cond (is_iir (addressed dlab offset)) 0 v ≡ cond (is_iir (addressed dlab offset)) 0 w
    → cond (eqb offset 2) 0 v ≡ cond (eqb offset 2) 0 w
at_2 dlab offset v w = subst (λ (t : Bool). cond t 0 v ≡ cond t 0 w) (iir_at_2 dlab offset)

-- ---- Accesses

-- q: where the original goes on from.
pub record AlikeTo (iir : Bool) (o : Out) (e : original.Out) (q : Original) : Type 0 where
  pub beside : Beside o.port q
  pub reply : cond iir 0 o.reply ≡ cond iir 0 e.reply
  pub sent : o.sent ≡ e.sent
  pub events : as_original o.events ≡ e.events

abbrev Alike : Bool → Out → original.Out → Type 0
Alike iir o e = AlikeTo iir o e e.original

module _ (p : Port) (j : ℕ) (h : Held p j) where
  plainly : (v : ℕ) → Alike false (record { port = p; reply = v; sent = []; events = no_events; raises = 0 }) (original.replies (twin p j) v)
  plainly v = record { beside = record { same = is_same p j; marked = h }; reply = refl; sent = refl; events = refl }

  read_alike : (r : Register) → Alike (is_iir r) (read_register p r) (original.read_register (twin p j) r)
  unfolding is_iir read_register original.read_register original.read_rbr
  read_alike RBR_THR = record {
    beside = record {
      same = is_same _ _;
      marked = λ m e. read_keeps p.settings.ier p.iir (some (tail p.waiting)) (some p.waiting)
          ∙ h (sym (data_unmarked_keeps j) ∙ m) e;
    };
    reply = refl;
    sent = refl;
    events = refl;
  }
  read_alike IER = plainly p.settings.ier
  read_alike IIR_FCR = record { beside = record { same = is_same _ _; marked = λ m e. absurd (false≢true m) }; reply = refl; sent = refl; events = refl }
  read_alike LCR = plainly _
  read_alike MCR = plainly _
  read_alike LSR = plainly _
  read_alike MSR = plainly _
  read_alike SCR = plainly _
  read_alike DLL = plainly _
  read_alike DLM = plainly _
  read_alike reserved = plainly _

-- Bytes come: the transmitter's interrupt is as it was.
receives_beside : (p : Port) (j : ℕ) → Held p j → (bytes : List ℕ)
    → Beside (receives p bytes).port (original.receives (twin p j) bytes).original
unfolding receives original.receives
receives_beside p j h bytes = record {
  same = is_same _ _;
  marked = λ m e. came_keeps p.settings.ier p.iir (some p.waiting) ∙ h (sym (data_announced_keeps p.settings.ier j) ∙ m) e;
}

-- FCR was written: what ours remembers of it.
abbrev pub remembering : Port → ℕ → Port
remembering p v = with_settings p (put_fcr p.settings (fcr_stored v))

-- A byte is written: the transmitter's interrupt is active, if it is enabled.
emptied_held : (p : Port) (j : ℕ) → Held (emptied p) j
emptied_held p j m e = sent_active p.settings.ier p.iir (some p.waiting) ∙ e

module _ (p : Port) (j : ℕ) (h : Held p j) where
  loop_alike : (v : ℕ) → Alike false (write_loop p v) (original.write_loop (twin p j) v)
  unfolding write_loop receives original.receives
  loop_alike v =
      side_by_side (λ (o : Out) (e : original.Out). Alike false
      (record { port = o.port; reply = 0; sent = []; events = loop_events (has_room p); raises = (transmits p).raises + o.raises }) e)
      (has_room p)
      (record { beside = receives_beside (emptied p) j (emptied_held p j) (v ∷ []); reply = refl; sent = refl; events = refl })
      (record { beside = record { same = is_same _ _; marked = emptied_held p j }; reply = refl; sent = refl; events = refl })

  line_alike : (v : ℕ) → Alike false (write_line p v) (original.write_line (twin p j) v)
  unfolding write_line original.write_line
  line_alike v = record { beside = record { same = is_same _ _; marked = emptied_held p (original.write_line (twin p j) v).original.iir }; reply = refl; sent = refl; events = refl }

  ier_alike : (v : ℕ) → Alike false (write_ier p v) (original.write_ier (twin p j) v)
  unfolding write_ier original.write_ier ier_stored original.ier_stored
  ier_alike v = record {
    beside = record { same = is_same _ _; marked = λ m e. set_active (ier_stored v) p.iir (some p.waiting) ∙ e };
    reply = refl;
    sent = refl;
    events = refl;
  }

  -- FCR empties ours: what the original's guest fetches, if there is something.
  pub nothing_to_empty : is_to_empty p.waiting p.lsr ≡ false → (p.waiting ≡ []) × (lsr_after_read false p.lsr ≡ p.lsr)
  nothing_to_empty = go p.waiting
    where
      go : (w : List ℕ) → is_to_empty w p.lsr ≡ false → (w ≡ []) × (lsr_after_read false p.lsr ≡ p.lsr)
      go [] e = (refl, eqb-true (lsr_after_read false p.lsr) p.lsr (not-false _ e))
      go (x ∷ xs) e = absurd (true≢false e)

  emptied_beside : (v : ℕ) (t : Bool) → is_to_empty p.waiting p.lsr ≡ t
      → Beside (flushes (remembering p v)).port (cond t (drained (twin p j)) (twin p j))
  emptied_beside v true e = rw (drained_is (twin p j)) (record {
    same = is_same (flushes (remembering p v)).port (original.unmark j original.received_data);
    marked = λ m g. read_keeps p.settings.ier p.iir false (some p.waiting) ∙ h (sym (data_unmarked_keeps j) ∙ m) g;
  })
  emptied_beside v false e =
      let none = nothing_to_empty e in
      record {
        same = record { settings = refl; lsr = sym none.1; msr = refl; waiting = none.0; size = refl };
        marked = λ m g. read_keeps p.settings.ier p.iir false (some p.waiting) ∙ h m g;
      }

  abbrev to_empty : ℕ → Bool
  to_empty v = on v 0x02 && is_to_empty p.waiting p.lsr

  fcr_alike : (v : ℕ) (t : Bool) → on v 0x02 ≡ t
      → AlikeTo false (write_fcr p v) (original.becomes (twin p j)) (cond (to_empty v) (drained (twin p j)) (twin p j))
  unfolding write_fcr
  fcr_alike v true e = rw e (record { beside = emptied_beside v _ refl; reply = refl; sent = refl; events = refl })
  fcr_alike v false e = rw e (record { beside = record { same = is_same _ _; marked = h }; reply = refl; sent = refl; events = refl })

  pub write_alike : (r : Register) (v : ℕ)
      → let e = original.write_register (twin p j) r v in
      AlikeTo false (write_register p r v) e (cond (is_iir r && to_empty v) (drained e.original) e.original)
  unfolding is_iir write_register original.write_register
  write_alike RBR_THR v = side_by_side (Alike false) (in_loop p) (loop_alike v) (line_alike v)
  write_alike IER v = ier_alike v
  write_alike IIR_FCR v = fcr_alike v _ refl
  write_alike LCR v = record { beside = record { same = is_same _ _; marked = h }; reply = refl; sent = refl; events = refl }
  write_alike MCR v = record { beside = record { same = is_same _ _; marked = h }; reply = refl; sent = refl; events = refl }
  write_alike LSR v = plainly p j h 0
  write_alike MSR v = plainly p j h 0
  write_alike SCR v = record { beside = record { same = is_same _ _; marked = h }; reply = refl; sent = refl; events = refl }
  write_alike DLL v = record { beside = record { same = is_same _ _; marked = h }; reply = refl; sent = refl; events = refl }
  write_alike DLM v = record { beside = record { same = is_same _ _; marked = h }; reply = refl; sent = refl; events = refl }
  write_alike reserved v = plainly p j h 0

-- ---- Calls

both_said : {v w : ℕ} (e e' : Events) → v ≡ w → as_original e ≡ e' → replied v (as_original e) 0 ≡ replied w (as_original e') 0
both_said e e' same told = rw (same, ← told) refl

pub record Kept (iir : Bool) (d : Did) (e : original.Did) (q : Original) : Type 0 where
  pub beside : Beside d.port q
  pub common : common iir d.answer ≡ common iir e.answer

module _ (p : Port) (j : ℕ) (h : Held p j) where
  input_kept : (bytes : List ℕ) → let e = original.input_of (twin p j) bytes in Kept false (did_input (input_of p bytes)) e e.original
  unfolding input_of original.input_of
  input_kept bytes =
      let K : Input → original.Did → Type 0 = λ i e. Kept false (did_input i) e e.original in
      let here : Beside p (twin p j) = record { same = is_same p j; marked = h } in
      side_by_side K (in_loop p) (record { beside = here; common = refl })
      (side_by_side K (eqb (length bytes) 0) (record { beside = here; common = refl })
      (side_by_side K (has_room p) (record { beside = receives_beside p j h _; common = refl })
      (record { beside = here; common = refl })))

  pub call_kept : (o : Op) → Kept (is_iir_read o) (step p o) (original.step (twin p j) o) (next (twin p j) o)
  unfolding step original.step
  call_kept (read offset) =
      let a = read_alike p j h (addressed (is_open p) offset) in
      record { beside = a.beside; common = both_said (read_register p (addressed (is_open p) offset)).events _ (at_2 (is_open p) offset _ _ a.reply) a.events }
  call_kept (write offset v) =
      let r = addressed (is_open p) offset in
      let a = write_alike p j h r v in
      let after = (original.write_register (twin p j) r v).original in
      record {
        beside =
            subst (λ (t : Bool). Beside (write_register p r v).port (cond (t && to_empty p j h v) (drained after) after))
            (iir_at_2 (is_open p) offset) a.beside;
        common = rw (a.sent, ← a.events) refl;
      }
  call_kept (input bytes) = input_kept bytes
  call_kept room = record { beside = record { same = is_same p j; marked = h }; common = refl }

pub kept : {p : Port} {q : Original} → Beside p q → (o : Op) → Kept (is_iir_read o) (step p o) (original.step q o) (next q o)
kept {p} b o = twins (λ q. Kept (is_iir_read o) (step p o) (original.step q o) (next q o)) (λ j h. call_kept p j h o) b
