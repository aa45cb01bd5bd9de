-- What the accesses say, one law for each.
use Prim.Native.Nat.{ℕ, ◌+◌, ◌*◌, ◌/◌, ◌%◌, ◌≤◌, ◌<◌}
use mathlib.Core.Path.{◌≡◌, refl, ap, ◌∙◌}
use mathlib.Core.Logic.{◌⊎◌, inl, inr}
use mathlib.Core.Bool.{Bool, true, false, cond}
use mathlib.Core.List.{List, [], ◌∷◌, ◌++◌}
use native.Mathlib.Omega.{arith}
use borrow.Author.Tests.{lt-ltb, le-ltb, eq-eqb, ne_eqb}
use lib.Dec.{eqb}
use lib.ListN.{length, get_or}
use Rattle.serial.specs.Port.{Port, Out, Input, write_of, input_of, is_open, in_loop, has_room, takes_none, takes_some}
use Rattle.serial.specs.Port.{Register, RBR_THR, IER, IIR_FCR, LCR, MCR, LSR, MSR, SCR, DLL, DLM, reserved, addressed, write_register}
use Rattle.serial.specs.Port.{write_line, write_loop, write_ier, write_fcr, with_settings, becomes, put_fcr, fcr_stored, flushes}
use Rattle.serial.specs.Layout.{places, port_of}
use Rattle.common.specs.Answer.{sent_bit, flushed_bit, one_raise}
use Rattle.common.specs.Bits.{on}
use Rattle.common.proofs.Words.{one}
use Rattle.serial.specs.Calls.{Writes, TakesInput, write_word, input_word}
use Rattle.words.specs.Text.{text}
use Rattle.serial.proofs.Bounds.{sent_value, silent_word, sent_word, memory_fits, size_fits}
use Rattle.words.proofs.Saying.{both, instead}
use Rattle.serial_words.specs.Inside.{sent_part, taken_part}
use Rattle.serial_words.specs.Said.{raises_say, sent_says, taken_says, port_says}
use Rattle.serial_access.specs.Accesses.{DidWrite, DidInput}

-- A write throws every waiting byte away and sends none, or it throws none away.
abbrev Throws : Port → Out → Type 0
Throws p o = (o.events.flushed ≡ true) × ((o.sent ≡ []) × (o.events.discarded ≡ p.waiting))

abbrev ThrowsNone : Out → Type 0
ThrowsNone o = (o.events.flushed ≡ false) × (o.events.discarded ≡ [])

thrown : (p : Port) (g : Register) (value : ℕ) → let o = write_register p g value in Throws p o ⊎ ThrowsNone o
unfolding write_register write_line write_loop write_ier write_fcr
thrown p RBR_THR value = go (in_loop p)
  where
    go : (loops : Bool) → let o = cond loops (write_loop p value) (write_line p value) in Throws p o ⊎ ThrowsNone o
    go true = inr (refl, refl)
    go false = inr (refl, refl)
thrown p IER value = inr (refl, refl)
thrown p IIR_FCR value = go (on value 0x02)
  where
    go : (t : Bool) → let kept = with_settings p (put_fcr p.settings (fcr_stored value)) in let o = cond t (flushes kept) (becomes kept) in
        Throws p o ⊎ ThrowsNone o
    go true = inl (refl, (refl, refl))
    go false = inr (refl, refl)
thrown p LCR value = inr (refl, refl)
thrown p MCR value = inr (refl, refl)
thrown p LSR value = inr (refl, refl)
thrown p MSR value = inr (refl, refl)
thrown p SCR value = inr (refl, refl)
thrown p DLL value = inr (refl, refl)
thrown p DLM value = inr (refl, refl)
thrown p reserved value = inr (refl, refl)

-- The parts of a write's word say so.
abbrev WritePart : Out → Type 0
WritePart o = (sent_part (write_word o) ≡ sent_says o.sent o.events) × (write_word o / one_raise ≡ o.raises)

write_parts : (p : Port) (o : Out) (value : ℕ) → value < 256 → length p.waiting ≤ places → (o.sent ≡ []) ⊎ (o.sent ≡ value ∷ [])
    → Throws p o ⊎ ThrowsNone o → WritePart o
write_parts p o value h few s (inl k) =
    let w = silent_word o k.1.0 (rw k.1.1 (omega (arith, few))) in
    (rw (eq-eqb (write_word o / flushed_bit % 2) 1 (w.flushed ∙ ap one k.0), w.number, k.0) refl, w.raises)
write_parts p o value h few (inl e) (inr k) =
    let w = silent_word o e (rw k.1 (omega arith)) in
    let no_flush : write_word o / flushed_bit % 2 ≡ 0 = w.flushed ∙ ap one k.0 in
    let flush = ne_eqb (write_word o / flushed_bit % 2) 1 (λ z. omega (arith, no_flush)) in
    (rw (flush, eq-eqb (write_word o / sent_bit % 2) 0 w.sent, e, k.0) refl, w.raises)
write_parts p o value h few (inr e) (inr k) =
    let w = sent_word o value e k.1 (omega arith) in
    let no_flush : write_word o / flushed_bit % 2 ≡ 0 = w.flushed ∙ ap one k.0 in
    let low : write_word o % 256 ≡ value = omega (arith, w.number) in
    let flush = ne_eqb (write_word o / flushed_bit % 2) 1 (λ z. omega (arith, no_flush)) in
    (rw (flush, ne_eqb (write_word o / sent_bit % 2) 0 (λ z. omega (arith, w.sent)), low, e, k.0) refl, w.raises)

-- No more bytes are taken than there is room for.
few_taken : (p : Port) (bytes : List ℕ) → p.size ≤ places → (input_of p bytes).taken < 0x1_0000
unfolding input_of
few_taken p bytes h = go (in_loop p) (eqb (length bytes) 0) (has_room p)
  where
    go : (loops none room : Bool)
        → (cond loops (takes_none p false)
        (cond none (takes_none p false) (cond room (takes_some p bytes) (takes_none p true)))).taken < 0x1_0000
    go true none room = omega arith
    go false true room = omega arith
    go false false true = omega (arith, h)
    go false false false = omega arith

input_parts : (i : Input) → i.taken < 0x1_0000
    → (taken_part (input_word i % one_raise) ≡ taken_says i.full i.taken) × (input_word i / one_raise ≡ i.raises)
input_parts i h = go i.full
  where
    go : (f : Bool) → let word = i.taken + cond f 0x1_0000 0 + one_raise * i.raises in
        (taken_part (word % one_raise) ≡ taken_says f i.taken) × (word / one_raise ≡ i.raises)
    go true =
        let m : (i.taken + 0x1_0000 + one_raise * i.raises) % one_raise ≡ i.taken + 0x1_0000 = omega arith in
        (rw (m, le-ltb (i.taken + 0x1_0000) 0x1_0000 (omega arith)) refl, omega arith)
    go false =
        let m : (i.taken + 0 + one_raise * i.raises) % one_raise ≡ i.taken = omega arith in
        (rw (m, lt-ltb i.taken 0x1_0000 h) refl, omega arith)

-- ---- One access

module _ (out : List ℕ) {o₁ o₂ out' : List ℕ} {regs pos ring regs' pos' : List ℕ} {word : ℕ} where
  pub writes : (offset value : ℕ) {ring' : List ℕ} → value < 256 → Writes (λ p. write_of p offset value) regs pos ring regs' pos' ring' word
      → o₁ ≡ out ++ text "w " → o₂ ≡ o₁ ++ sent_part word → out' ≡ o₂ ++ raises_say (word / one_raise)
      → DidWrite offset value regs pos ring regs' pos' ring' out out'
  writes offset value h c p q s =
      let before = port_of regs pos ring in
      let register = addressed (is_open before) offset in
      let parts = write_parts before (write_of before offset value) value h (memory_fits regs pos ring) (sent_value before register value)
      (thrown before register value) in
      record {
        says =
            both out _ _ (both out _ _ p (instead o₁ (ap sent_part c.answer ∙ parts.0) q))
            (instead o₂ (ap (λ (w : ℕ). raises_say (w / one_raise)) c.answer ∙ ap raises_say parts.1) s);
        holds = c.holds;
        spare = c.spares_kept.0;
      }

  pub takes : (bytes : List ℕ) {ring' : List ℕ} → TakesInput (λ p. input_of p bytes) regs pos ring regs' pos' ring' word
      → o₁ ≡ out ++ text "b " → o₂ ≡ o₁ ++ taken_part (word % one_raise) → out' ≡ o₂ ++ raises_say (word / one_raise)
      → DidInput bytes regs pos ring regs' pos' ring' out out'
  takes bytes c p q s =
      let parts = input_parts (input_of (port_of regs pos ring) bytes) (few_taken (port_of regs pos ring) bytes (size_fits regs pos ring)) in
      record {
        says =
            both out _ _ (both out _ _ p (instead o₁ (ap (λ (w : ℕ). taken_part (w % one_raise)) c.answer ∙ parts.0) q))
            (instead o₂ (ap (λ (w : ℕ). raises_say (w / one_raise)) c.answer ∙ ap raises_say parts.1) s);
        holds = c.holds;
        spare = c.spares_kept.0;
      }

-- the port as it lies, by its two positions
pub state_of : (regs pos ring out name : List ℕ) {o₁ out' : List ℕ} → o₁ ≡ out ++ name
    → out' ≡ o₁ ++ port_says (port_of regs (get_or pos 0 0 ∷ get_or pos 1 0 ∷ []) ring)
    → out' ≡ out ++ (name ++ port_says (port_of regs pos ring))
unfolding port_of
state_of regs pos ring out name p q = both out name _ p q
