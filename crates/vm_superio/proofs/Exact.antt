-- The rows are exact: every call of a pair that is beside agrees or is in a row, and no call in a row agrees.
use mathlib.Core.Path.{◌≡◌, refl, sym, ap, ◌∙◌}
use mathlib.Core.Logic.{◌⊎◌, inl, inr}
use mathlib.Core.List.{List, [], ◌∷◌}
use mathlib.Core.Bool.{Bool, true, false, not, ◌&&◌, false≢true, true≢false}
use Prim.Native.Nat.{ℕ, min}
use native.Mathlib.Omega.{arith}
use lib.ListN.{length, take}
use borrow.Author.Tests.{ne_eqb, eq-eqb}
use Rattle.common.specs.Bits.{on}
use Rattle.interrupts.specs.Interrupts.{received_data}
use Rattle.line_status.specs.LineStatus.{lsr_after_read}
use Rattle.serial.specs.Port.{Register, RBR_THR, IER, IIR_FCR, LCR, MCR, LSR, MSR, SCR, DLL, DLM, reserved, addressed, Port, is_open, in_loop}
use Rattle.serial.specs.Port.{has_room, room_of}
use Rattle.serial.specs.Port.{Out, no_events, read_register, write_register, input_of, flushes, write_fcr}
use Rattle.runs.specs.Run.{Op, read, write, input, room, Answer, replied, sent, took, full, raises_of, did_input, step}
use Rattle.runs.specs.Run as runs
use Rattle.vm_superio.specs.Original.{Original}
use Rattle.vm_superio.specs.Original as original
use Rattle.vm_superio.specs.Beside.{heard, as_original, enables, waits, marks_data, Row, reads, writes, receives, asks, original_data_again}
use Rattle.vm_superio.specs.Beside.{original_data_quiet, original_keeps_fifo, is_to_empty, Same, Beside, Agrees, Exact}
use Rattle.vm_superio.proofs.Marks.{once}
use Rattle.vm_superio.proofs.Twins.{twin, is_same, Held, twins}
use Rattle.vm_superio.proofs.Keeping.{is_iir, nothing_to_empty, remembering, write_alike, call_kept}
use Rattle.vm_superio.proofs.Counting.{Off, more, less, counted, off_real, ours_alone, theirs_alone_active}
use Rattle.vm_superio.proofs.Counts.{ours_receives, theirs_receives}
use Rattle.vm_superio.proofs.Identifying.{iir_complete, iir_real}
use Rattle.vm_superio.proofs.Writing.{WriteAgrees, thr_complete, thr_real, ier_complete, ier_real}

-- ---- Reads: of IIR, and of all others, which answer the same

abbrev ReadAgrees : Out → original.Out → Type 0
ReadAgrees o e = replied o.reply (as_original o.events) o.raises ≡ replied e.reply e.events e.raises

-- Where a call that answers the same also leaves the two the same, it agrees.
and_same : {A B R : Type 0} → B → A ⊎ R → (A × B) ⊎ R
and_same b (inl a) = inl (a, b)
and_same b (inr row) = inr row

abbrev reply_of : Answer → ℕ
reply_of (replied v e n) = v
reply_of (sent s e n) = 0
reply_of (took t n) = 0
reply_of (full n) = 0
reply_of (runs.has_room r) = 0

module _ (p : Port) (j : ℕ) where
  read_complete : (r : Register) → ReadAgrees (read_register p r) (original.read_register (twin p j) r) ⊎ Row p (twin p j) (reads r)
  unfolding read_register original.read_register original.read_rbr
  read_complete RBR_THR = inl refl
  read_complete IER = inl refl
  read_complete IIR_FCR = elim (iir_complete p j) [ inl e ↦ inl (ap (λ (v : ℕ). replied v no_events 0) e) | inr row ↦ inr row ]
  read_complete LCR = inl refl
  read_complete MCR = inl refl
  read_complete LSR = inl refl
  read_complete MSR = inl refl
  read_complete SCR = inl refl
  read_complete DLL = inl refl
  read_complete DLM = inl refl
  read_complete reserved = inl refl

  read_real : (r : Register) → Row p (twin p j) (reads r) → ReadAgrees (read_register p r) (original.read_register (twin p j) r) → ⊥
  unfolding read_register original.read_register
  read_real IIR_FCR row a = iir_real p j row (ap reply_of a)
  read_real RBR_THR row a = elim row [ ]
  read_real IER row a = elim row [ ]
  read_real LCR row a = elim row [ ]
  read_real MCR row a = elim row [ ]
  read_real LSR row a = elim row [ ]
  read_real MSR row a = elim row [ ]
  read_real SCR row a = elim row [ ]
  read_real DLL row a = elim row [ ]
  read_real DLM row a = elim row [ ]
  read_real reserved row a = elim row [ ]

-- ---- Writes

-- Where nothing is to be emptied, nothing is.
to_empty : (w : List ℕ) (lsr : ℕ) → w ≡ [] → lsr_after_read false lsr ≡ lsr → is_to_empty w lsr ≡ true → ⊥
to_empty w lsr e f t = true≢false (sym t ∙ rw (e, eq-eqb (lsr_after_read false lsr) lsr f) refl)

module _ (p : Port) (j : ℕ) (h : Held p j) where
  -- It answers the same, and leaves the two the same.
  abbrev WriteSame : Register → ℕ → Type 0
  WriteSame r v = Same (write_register p r v).port (original.write_register (twin p j) r v).original

  abbrev WriteGoes : Register → ℕ → Type 0
  WriteGoes r v = WriteAgrees (write_register p r v) (original.write_register (twin p j) r v) × WriteSame r v

  fcr_complete : (v : ℕ) (t e : Bool) → on v 0x02 ≡ t → is_to_empty p.waiting p.lsr ≡ e
      → WriteGoes IIR_FCR v ⊎ Row p (twin p j) (writes IIR_FCR v)
  unfolding write_register original.write_register write_fcr
  fcr_complete v false e a b = inl (rw a (refl, is_same (remembering p v) j))
  fcr_complete v true true a b = inr (original_keeps_fifo a b)
  fcr_complete v true false a b =
      let none = nothing_to_empty p j h b in
      inl (rw a (refl, record { settings = refl; lsr = sym none.1; msr = refl; waiting = none.0; size = refl }))

  fcr_real : (v : ℕ) → on v 0x02 ≡ true → is_to_empty p.waiting p.lsr ≡ true → WriteSame IIR_FCR v → ⊥
  unfolding write_register original.write_register write_fcr
  fcr_real v a b s =
      let same : Same (flushes (remembering p v)).port (twin p j) = rw a at s in
      to_empty p.waiting p.lsr same.waiting (sym same.lsr) b

  write_complete : (r : Register) (v : ℕ) → WriteGoes r v ⊎ Row p (twin p j) (writes r v)
  unfolding is_iir write_register original.write_register
  write_complete RBR_THR v = and_same (write_alike p j h RBR_THR v).beside.same (thr_complete p j h v)
  write_complete IER v = and_same (write_alike p j h IER v).beside.same (ier_complete p j v)
  write_complete IIR_FCR v = fcr_complete v _ _ refl refl
  write_complete LCR v = inl (refl, is_same _ _)
  write_complete MCR v = inl (refl, is_same _ _)
  write_complete LSR v = inl (refl, is_same _ _)
  write_complete MSR v = inl (refl, is_same _ _)
  write_complete SCR v = inl (refl, is_same _ _)
  write_complete DLL v = inl (refl, is_same _ _)
  write_complete DLM v = inl (refl, is_same _ _)
  write_complete reserved v = inl (refl, is_same _ _)

  write_real : (r : Register) (v : ℕ) → Row p (twin p j) (writes r v) → WriteGoes r v → ⊥
  unfolding write_register original.write_register
  write_real RBR_THR v row a = thr_real p j h v row a.0
  write_real IER v row a = ier_real p j v row a.0
  write_real IIR_FCR v (original_keeps_fifo a b) g = fcr_real v a b g.1
  write_real LCR v row a = elim row [ ]
  write_real MCR v row a = elim row [ ]
  write_real LSR v row a = elim row [ ]
  write_real MSR v row a = elim row [ ]
  write_real SCR v row a = elim row [ ]
  write_real DLL v row a = elim row [ ]
  write_real DLM v row a = elim row [ ]
  write_real reserved v row a = elim row [ ]

-- ---- Bytes from the line

module _ (p : Port) (j : ℕ) where
  abbrev InputAgrees : List ℕ → Type 0
  InputAgrees bytes = heard (did_input (input_of p bytes)).answer ≡ (original.input_of (twin p j) bytes).answer

  -- ours raises; the original raises
  abbrev first : Bool
  first = enables p received_data && not (waits p)

  abbrev theirs : Bool
  theirs = enables p received_data && not (marks_data (twin p j))

  -- where bytes are taken, the input agrees if both raise alike
  module _ (x : ℕ) (xs : List ℕ) (l : in_loop p ≡ false) (r : has_room p ≡ true) where
    abbrev bytes : List ℕ
    bytes = x ∷ xs

    abbrev count : ℕ
    count = min (room_of p) (length bytes)

    ours_takes : heard (did_input (input_of p bytes)).answer ≡ took count (once first)
    unfolding input_of
    ours_takes = rw (l, ne_eqb (length bytes) 0 (omega arith), r) (ap (took count) (ours_receives p j (take count bytes)))

    theirs_takes : (original.input_of (twin p j) bytes).answer ≡ took count (once theirs)
    unfolding original.input_of
    theirs_takes = rw (l, ne_eqb (length bytes) 0 (omega arith), r) (ap (took count) (theirs_receives p j (take count bytes)))

    takes_complete : InputAgrees bytes ⊎ Row p (twin p j) (receives bytes)
    takes_complete = go (counted first theirs)
      where
        go : (once first ≡ once theirs) ⊎ Off first theirs → InputAgrees bytes ⊎ Row p (twin p j) (receives bytes)
        go (inl e) = inl (ours_takes ∙ ap (took count) e ∙ sym theirs_takes)
        go (inr (more e)) = inr (original_data_quiet l refl r (sym (ours_alone (enables p received_data) (waits p) (marks_data (twin p j))) ∙ e))
        go (inr (less e)) = inr (original_data_again l refl r (sym (theirs_alone_active (enables p received_data) (waits p) (marks_data (twin p j))) ∙ e))

    takes_off : Off first theirs → InputAgrees bytes → ⊥
    takes_off off a = off_real first theirs off (ap raises_of (sym ours_takes ∙ a ∙ theirs_takes))

  input_complete : (bytes : List ℕ) → InputAgrees bytes ⊎ Row p (twin p j) (receives bytes)
  unfolding input_of original.input_of
  input_complete bytes = go bytes (in_loop p) (has_room p) refl refl
    where
      go : (bytes : List ℕ) (l r : Bool) → in_loop p ≡ l → has_room p ≡ r → InputAgrees bytes ⊎ Row p (twin p j) (receives bytes)
      go bytes true r l h = inl (rw l refl)
      go [] false r l h = inl (rw l refl)
      go (x ∷ xs) false true l h = takes_complete x xs l h
      go (x ∷ xs) false false l h = inl (rw (l, ne_eqb (length (x ∷ xs)) 0 (omega arith), h) refl)

  input_real : (bytes : List ℕ) → Row p (twin p j) (receives bytes) → InputAgrees bytes → ⊥
  input_real [] (original_data_again l s r a) = absurd (false≢true s)
  input_real [] (original_data_quiet l s r a) = absurd (false≢true s)
  input_real (x ∷ xs) (original_data_again l s r a) =
      takes_off x xs l r (less (theirs_alone_active (enables p received_data) (waits p) (marks_data (twin p j)) ∙ a))
  input_real (x ∷ xs) (original_data_quiet l s r a) =
      takes_off x xs l r (more (ours_alone (enables p received_data) (waits p) (marks_data (twin p j)) ∙ a))

-- ---- Every call

no_row : (p : Port) (q : Original) → Row p q asks → ⊥
no_row p q = elim [ ]

agreeing : {p : Port} {q : Original} {o : Op} {R : Type 0}
    → ((heard (step p o).answer ≡ (original.step q o).answer) × Same (step p o).port (original.step q o).original) ⊎ R → Agrees p q o ⊎ R
agreeing (inl a) = inl (record { answer = a.0; same = a.1 })
agreeing (inr row) = inr row

call_exact : (p : Port) (j : ℕ) → Held p j → (o : Op) → Exact p (twin p j) o
unfolding step original.step
call_exact p j h (read offset) = record {
  complete = agreeing (and_same (call_kept p j h (read offset)).beside.same (read_complete p j (addressed (is_open p) offset)));
  real = λ row a. read_real p j (addressed (is_open p) offset) row a.answer;
}
call_exact p j h (write offset v) = record {
  complete = agreeing (write_complete p j h (addressed (is_open p) offset) v);
  real = λ row a. write_real p j h (addressed (is_open p) offset) v row (a.answer, a.same);
}
call_exact p j h (input bytes) = record {
  complete = agreeing (and_same (call_kept p j h (input bytes)).beside.same (input_complete p j bytes));
  real = λ row a. input_real p j bytes row a.answer;
}
call_exact p j h room = record { complete = inl (record { answer = refl; same = is_same p j }); real = λ row a. no_row p (twin p j) row }

pub exact : {p : Port} {q : Original} → Beside p q → (o : Op) → Exact p q o
exact {p} b o = twins (λ q. Exact p q o) (λ j h. call_exact p j h o) b
