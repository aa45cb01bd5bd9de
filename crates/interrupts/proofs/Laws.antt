-- What each answer of the code is in the definition.
use mathlib.Core.Path.{◌≡◌, refl, sym, ap, ◌∙◌}
use mathlib.Core.Bool.{Bool, true, false, cond, not, ◌&&◌, ◌||◌, true≢false}
use Prim.Native.Nat.{ℕ, ◌+◌, ◌%◌, ◌≤◌, ◌<◌}
use native.Mathlib.Nat.{zero-add}
use native.Mathlib.Omega.{arith}
use lib.Bits.{bit_and, bit_or, or_mod}
use lib.Dec.{eqb}
use borrow.Author.Tests.{eq-eqb}
use Rattle.std.proofs.Common.{Some}
use Rattle.common.specs.Bits.{on}
use Rattle.common.proofs.EveryByte.{low_and, everywhere}
use Rattle.interrupts.specs.Interrupts.{Kind, received_data, transmitter_empty, is_enabled, is_active, none_pending, settled, newly}
use Rattle.interrupts.specs.Interrupts.{data_came, byte_sent, enabling}
use Rattle.interrupts.specs.Calls.{Tells, Quiet}

-- ---- What was active and still is raises nothing

pub newly_same : (a : Bool) → newly a a ≡ 0
newly_same true = refl
newly_same false = refl

-- ---- What is stored keeps the transmitter's interrupt, as far as it is enabled

pub settled_keeps : (ier iir : ℕ) (waits : Bool)
    → is_active ier (settled ier iir waits) waits transmitter_empty ≡ is_active ier iir waits transmitter_empty
unfolding settled
settled_keeps ier iir waits = go (on ier 0x01) (on ier 0x02) (on iir 0x02) waits
  where
    go : (r t s w : Bool) → (t && on (cond (r && w) (cond (t && s) 0x06 0x04) (cond (t && s) 0x02 0x01)) 0x02) ≡ (t && s)
    go true true true true = refl
    go true true true false = refl
    go true true false true = refl
    go true true false false = refl
    go true false s w = refl
    go false true true w = refl
    go false true false w = refl
    go false false s w = refl

-- ---- The transmitter's bit is set

pub set_pending : (iir : ℕ) → on (bit_or iir 0x02) 0x02 ≡ true
set_pending = everywhere (λ x. on (bit_or x 0x02) 0x02) (λ _. true)
    (λ x. ap (λ (a : ℕ). not (eqb a 0)) (low_and 2 (omega arith) (bit_or x 2) ∙ ap (λ (a : ℕ). bit_and a 2) (or_mod x 2 8))) (λ _. refl) tt

pub set_active : (ier iir : ℕ) (waits : Bool)
    → is_active ier (settled ier (bit_or iir 0x02) waits) waits transmitter_empty ≡ is_enabled ier transmitter_empty
set_active ier iir waits = settled_keeps ier (bit_or iir 0x02) waits ∙ go (on ier 0x02) (set_pending iir)
  where
    go : (t : Bool) → on (bit_or iir 0x02) 0x02 ≡ true → (t && on (bit_or iir 0x02) 0x02) ≡ t
    go true e = e
    go false e = refl

module _ (ier iir : ℕ) (waits : Bool) where
  -- ---- Bytes have come where none waited

  pub came_first : waits ≡ false → {iir' r : ℕ} {got : Bool} → iir' ≡ settled ier iir true
      → got ≡ (is_enabled ier received_data && true)
      → r ≡ newly false got → r ≤ 1 → Tells (data_came ier iir waits) iir (Some iir') r 1
  came_first w {iir'} {r} {got} s d n few = rw w (record {
    stored = s;
    raised = n ∙ ap (newly false) d ∙ go (on ier 0x01) (settled_keeps ier iir true);
    few = few;
  })
    where
      go : (e : Bool) → is_active ier (settled ier iir true) true transmitter_empty ≡ is_active ier iir true transmitter_empty
          → newly false (e && true) ≡ newly (e && false) (e && true) + newly (is_active ier iir true transmitter_empty) (is_active ier (settled ier iir true) true transmitter_empty)
      go true k = rw (k, newly_same (is_active ier iir true transmitter_empty)) refl
      go false k = rw (k, newly_same (is_active ier iir true transmitter_empty)) refl

  -- ---- A byte was sent, and the transmitter is enabled

  pub sent_told : is_enabled ier transmitter_empty ≡ true → {iir' r : ℕ} {empty : Bool} → iir' ≡ settled ier (bit_or iir 0x02) waits
      → empty ≡ is_active ier iir waits transmitter_empty → r ≡ newly empty true → r ≤ 1
      → Tells (byte_sent ier iir waits) iir (Some iir') r 1
  sent_told d {iir'} {r} {empty} s e n few =
      let told : cond (is_enabled ier transmitter_empty) (settled ier (bit_or iir 0x02) waits) iir ≡ settled ier (bit_or iir 0x02) waits = rw d in
      record {
        stored = s ∙ sym told;
        raised = n ∙ ap (λ (b : Bool). newly b true) e
            ∙ sym (rw (told, set_active ier iir waits, newly_same (on ier 0x01 && waits), d) (zero-add _));
        few = few;
      }

-- ---- IER is written

pub enabled : (ier ier' iir : ℕ) (waits : Bool) {iir₁ r₁ r₂ : ℕ} {had has empty empty' : Bool} → iir₁ ≡ settled ier' (bit_or iir 0x02) waits
    → had ≡ is_active ier iir waits received_data → has ≡ is_active ier' iir waits received_data → r₁ ≡ newly had has
    → r₁ ≤ 1
    → empty ≡ is_active ier iir waits transmitter_empty → empty' ≡ is_enabled ier' transmitter_empty → r₂ ≡ newly empty empty'
    → r₂ ≤ 1
    → Tells (enabling ier ier' iir waits) iir (Some iir₁) (r₁ + r₂) 2
enabled ier ier' iir waits s d d' n few e e' m few₂ = record {
  stored = s;
  raised = rw (n, m, d, d', e, e', set_active ier' iir waits) refl;
  few = omega (arith, few, few₂);
}

-- ---- No kind is enabled: nothing is stored but "none", and nothing is raised

both_off : (x : ℕ) → (on x 0x03 && (on x 0x01 || on x 0x02)) ≡ (on x 0x01 || on x 0x02)
both_off = everywhere (λ x. on x 0x03 && (on x 0x01 || on x 0x02)) (λ x. on x 0x01 || on x 0x02)
    (λ x. rw (low_on 3 (omega arith) x, low_on 1 (omega arith) x, low_on 2 (omega arith) x) refl) (λ x. rw (low_on 1 (omega arith) x, low_on 2 (omega arith) x) refl) tt
  where
    low_on : (m : ℕ) → m < 256 → (x : ℕ) → on x m ≡ on (x % 256) m
    low_on m h x = ap (λ (a : ℕ). not (eqb a 0)) (low_and m h x)

neither : (a b : Bool) → false ≡ (a || b) → (a ≡ false) × (b ≡ false)
neither true b h = absurd (true≢false (sym h))
neither false b h = (refl, sym h)

pub is_quiet : (ier : ℕ) → bit_and ier 0x03 ≡ 0 → Quiet ier
is_quiet ier e kind = go kind (neither (on ier 0x01) (on ier 0x02) (sym (off (on ier 0x03) (on ier 0x01 || on ier 0x02) (rw (eq-eqb _ _ e)) (both_off ier))))
  where
    off : (a b : Bool) → a ≡ false → (a && b) ≡ b → b ≡ false
    off a b h k = sym k ∙ rw h

    go : (kind : Kind) → (on ier 0x01 ≡ false) × (on ier 0x02 ≡ false) → is_enabled ier kind ≡ false
    go received_data h = h.0
    go transmitter_empty h = h.1

module _ (ier : ℕ) (quiet : Quiet ier) (iir : ℕ) (waits : Bool) where
  quiet_settled : settled ier iir true ≡ none_pending
  unfolding settled
  quiet_settled = rw (quiet received_data, quiet transmitter_empty) refl

  pub quiet_sent : ((byte_sent ier iir waits).iir ≡ iir) × ((byte_sent ier iir waits).raises ≡ 0)
  quiet_sent = rw (quiet received_data, quiet transmitter_empty) (refl, refl)

  pub quiet_came : ((data_came ier iir waits).iir ≡ cond waits iir none_pending) × ((data_came ier iir waits).raises ≡ 0)
  quiet_came = (ap (λ (i : ℕ). cond waits iir i) quiet_settled, rw (quiet received_data, quiet transmitter_empty) refl)
