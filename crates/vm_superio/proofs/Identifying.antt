-- Reads of IIR: each answers the same in ours as in the original or is in a row, and in a row it does not.
use mathlib.Core.Path.{◌≡◌, refl, sym, ap, ◌∙◌}
use mathlib.Core.Logic.{◌⊎◌, inl, inr}
use mathlib.Core.Bool.{Bool, true, false, cond, not, ◌&&◌, ◌||◌, true≢false, false≢true, and-false}
use Prim.Native.Nat.{ℕ}
use lib.Bits.{bit_or}
use lib.Dec.{eqb}
use borrow.Author.Tests.{eqb-true}
use Rattle.common.specs.Bits.{on}
use Rattle.interrupts.specs.Interrupts.{received_data, transmitter_empty, code, identification}
use Rattle.serial.specs.Port.{Port, IIR_FCR, active}
use Rattle.vm_superio.specs.Original.{is_marked, iir_read}
use Rattle.vm_superio.specs.Original as original
use Rattle.vm_superio.specs.Beside.{waits, is_strange, Row, reads, original_strange_iir, original_two_kinds, original_forgotten_data}
use Rattle.vm_superio.specs.Beside.{original_stale_data, original_stale_transmitter, original_forgotten_transmitter}
use Rattle.vm_superio.proofs.Marks.{shown_data, shown_transmitter}
use Rattle.vm_superio.proofs.Twins.{twin}

-- ---- What the two show

-- r, t: received data and the transmitter's interrupt are active in ours.
abbrev shows : Bool → Bool → ℕ
shows r t = bit_or (cond r 0x04 (cond t 0x02 0x01)) 0xc0

shows_data : (r t : Bool) → on (shows r t) 0x04 ≡ r
shows_data true t = refl
shows_data false true = refl
shows_data false false = refl

shows_transmitter : (r t : Bool) → on (shows r t) 0x02 ≡ (not r && t)
shows_transmitter true t = refl
shows_transmitter false true = refl
shows_transmitter false false = refl

-- The transmitter is shown where it is active and received data is not.
hides : (r t : Bool) → r ≡ true → (not r && t) ≡ false
hides r t e = rw e refl

absent : (r t : Bool) → t ≡ false → (not r && t) ≡ false
absent r t e = rw e (and-false (not r))

present : (r t : Bool) → r ≡ false → t ≡ true → (not r && t) ≡ true
present r t e f = rw (e, f) refl

-- The original shows one of four, or what is strange.
abbrev strange : ℕ → Bool
strange n = not (eqb n 0xc1 || eqb n 0xc2 || eqb n 0xc4 || eqb n 0xc6)

shows_plain : (r t : Bool) → strange (shows r t) ≡ false
shows_plain true t = refl
shows_plain false true = refl
shows_plain false false = refl

data Plain : ℕ → Type 0 where
  plain1 : Plain 0xc1
  plain2 : Plain 0xc2
  plain4 : Plain 0xc4
  plain6 : Plain 0xc6

plain : (n : ℕ) → strange n ≡ false → Plain n
plain n s = go (eqb n 0xc1) (eqb n 0xc2) (eqb n 0xc4) (eqb n 0xc6) refl refl refl refl s
  where
    go : (a b c d : Bool) → eqb n 0xc1 ≡ a → eqb n 0xc2 ≡ b → eqb n 0xc4 ≡ c → eqb n 0xc6 ≡ d → not (a || b || c || d) ≡ false → Plain n
    go true b c d e f g h s = rw (eqb-true n 0xc1 e) plain1
    go false true c d e f g h s = rw (eqb-true n 0xc2 f) plain2
    go false false true d e f g h s = rw (eqb-true n 0xc4 g) plain4
    go false false false true e f g h s = rw (eqb-true n 0xc6 h) plain6
    go false false false false e f g h s = absurd (true≢false s)

module _ (p : Port) (j : ℕ) where
  abbrev pub IirAgrees : Type 0
  IirAgrees = identification p.settings.ier p.iir (waits p) ≡ iir_read j

  ours_shows : {r t : Bool} → active p received_data ≡ r → active p transmitter_empty ≡ t
      → identification p.settings.ier p.iir (waits p) ≡ shows r t
  unfolding code
  ours_shows {r} e f = ap (λ (a : Bool). shows a (active p transmitter_empty)) e ∙ ap (shows r) f

  -- the original's marks, by what it shows
  marks_data : {n : ℕ} → iir_read j ≡ n → is_marked j original.received_data ≡ on n 0x04
  marks_data e = sym (shown_data j) ∙ ap (λ (n : ℕ). on n 0x04) e

  marks_transmitter : {n : ℕ} → iir_read j ≡ n → is_marked j original.transmitter_empty ≡ on n 0x02
  marks_transmitter e = sym (shown_transmitter j) ∙ ap (λ (n : ℕ). on n 0x02) e

  pub iir_complete : IirAgrees ⊎ Row p (twin p j) (reads IIR_FCR)
  iir_complete = go (is_strange j) refl
    where
      cases : (n : ℕ) → iir_read j ≡ n → Plain n → (r t : Bool) → active p received_data ≡ r → active p transmitter_empty ≡ t
          → IirAgrees ⊎ Row p (twin p j) (reads IIR_FCR)
      cases n e plain6 r t f g = inr (original_two_kinds (marks_data e) (marks_transmitter e))
      cases n e plain4 true t f g = inl (ours_shows f g ∙ sym e)
      cases n e plain4 false t f g = inr (original_stale_data (marks_data e) (marks_transmitter e) f)
      cases n e plain2 true t f g = inr (original_forgotten_data f (marks_data e))
      cases n e plain2 false true f g = inl (ours_shows f g ∙ sym e)
      cases n e plain2 false false f g = inr (original_stale_transmitter (marks_transmitter e) (marks_data e) g)
      cases n e plain1 true t f g = inr (original_forgotten_data f (marks_data e))
      cases n e plain1 false true f g = inr (original_forgotten_transmitter g (marks_transmitter e) (marks_data e))
      cases n e plain1 false false f g = inl (ours_shows f g ∙ sym e)

      go : (s : Bool) → is_strange j ≡ s → IirAgrees ⊎ Row p (twin p j) (reads IIR_FCR)
      go true s = inr (original_strange_iir s)
      go false s = cases (iir_read j) refl (plain (iir_read j) s) _ _ refl refl

  -- ---- Where they answer the same, the marks are what is active in ours

  module _ (agrees : IirAgrees) where
    shown : iir_read j ≡ shows (active p received_data) (active p transmitter_empty)
    shown = sym agrees ∙ ours_shows refl refl

    same_data : is_marked j original.received_data ≡ active p received_data
    same_data = marks_data shown ∙ shows_data (active p received_data) (active p transmitter_empty)

    same_transmitter : is_marked j original.transmitter_empty ≡ (not (active p received_data) && active p transmitter_empty)
    same_transmitter = marks_transmitter shown ∙ shows_transmitter (active p received_data) (active p transmitter_empty)

  pub iir_real : Row p (twin p j) (reads IIR_FCR) → IirAgrees → ⊥
  iir_real (original_strange_iir s) a = true≢false (sym s ∙ ap strange (shown a) ∙ shows_plain (active p received_data) (active p transmitter_empty))
  iir_real (original_two_kinds m n) a = true≢false (sym n ∙ same_transmitter a ∙ hides (active p received_data) (active p transmitter_empty) (sym (same_data a) ∙ m))
  iir_real (original_forgotten_data r m) a = true≢false (sym r ∙ sym (same_data a) ∙ m)
  iir_real (original_stale_data m n r) a = true≢false (sym m ∙ same_data a ∙ r)
  iir_real (original_stale_transmitter n m t) a = true≢false (sym n ∙ same_transmitter a ∙ absent (active p received_data) (active p transmitter_empty) t)
  iir_real (original_forgotten_transmitter t n m) a =
      false≢true (sym n ∙ same_transmitter a ∙ present (active p received_data) (active p transmitter_empty) (sym (same_data a) ∙ m) t)
