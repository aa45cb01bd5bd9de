-- What each answer of the test for reachable ports is in the definition, clause by clause.
use mathlib.Core.Path.{◌≡◌, refl, sym, ap, ◌∙◌}
use mathlib.Core.Logic.{◌↔◌}
use mathlib.Core.Bool.{Bool, true, false, cond, not, false≢true, true≢false}
use mathlib.Core.List.{List, [], ◌∷◌}
use Prim.Native.Nat.{ℕ, suc, ◌≤◌, ◌<◌}
use native.Mathlib.Omega.{arith}
use lib.Dec.{eqb}
use lib.ListN.{length, get_or}
use borrow.Author.Tests.{ne_eqb}
use Rattle.common.specs.Bytes.{Bytes}
use Rattle.common.specs.Lists.{some}
use Rattle.serial.specs.Layout.{size_of, port_of, spare_registers, fresh_spare_registers}
use Rattle.serial.specs.Port.{is_size, fcr_stored}
use Rattle.interrupts.specs.Interrupts.{settled}
use Rattle.serial_saved.specs.Saved.{saved_of}
use Rattle.serial_saved.specs.Calls.{ReachableSaved}

-- ---- Answers, and bits

so : {A : Type 0} → A → (true ≡ true) ↔ A
so a = (λ e. a, λ h. refl)

not_so : {A : Type 0} → (A → ⊥) → (false ≡ true) ↔ A
not_so n = (λ e. absurd (false≢true e), λ a. absurd (n a))

-- ---- Bytes

pub bytes_below : (l : List ℕ) → ((i : ℕ) → get_or l i 0 < 256) → Bytes l
bytes_below [] h = tt
bytes_below (x ∷ l) h = (h 0, bytes_below l (λ i. h (suc i)))

-- ---- The status

pub status_none : (q : List ℕ) (n : ℕ) → length q ≡ n → n ≡ 0 → ◌≡◌ {A = ℕ} 0x60 (cond (some q) 0x61 0x60)
status_none [] n e z = refl
status_none (x ∷ q) n e z = absurd (omega arith)

pub status_some : (q : List ℕ) (n : ℕ) → length q ≡ n → (n ≡ 0 → ⊥) → ◌≡◌ {A = ℕ} 0x61 (cond (some q) 0x61 0x60)
status_some [] n e d = absurd (d (sym e))
status_some (x ∷ q) n e d = refl

-- ---- Whether a byte waits

pub some_is : (q : List ℕ) → some q ≡ not (eqb (length q) 0)
some_is [] = refl
some_is (x ∷ q) = sym (rw (ne_eqb (suc (length q)) 0 (λ z. omega arith)))

-- ---- All clauses

module _ (saved waiting : List ℕ) where
  abbrev No : Type 0
  No = (false ≡ true) ↔ ReachableSaved saved waiting

  pub wide_ier : 16 ≤ get_or saved 1 0 → No
  unfolding saved_of port_of
  wide_ier h = not_so (λ k. omega (arith, k.port.settings.ier))

  pub other_fcr : (fcr_stored (get_or saved 9 0) ≡ get_or saved 9 0 → ⊥) → No
  unfolding saved_of port_of
  other_fcr d = not_so (λ k. d k.port.settings.fcr)

  pub other_msr : (get_or saved 6 0 ≡ 0xb0 → ⊥) → No
  unfolding saved_of port_of
  other_msr d = not_so (λ k. d k.port.msr)

  pub other_lsr : (status : ℕ) → status ≡ cond (some waiting) 0x61 0x60 → (get_or saved 5 0 ≡ status → ⊥) → No
  unfolding saved_of port_of
  other_lsr status e d = not_so (λ k. d (k.port.lsr ∙ sym e))

  -- what the room would have stored
  abbrev right : ℕ
  right = settled (get_or saved 1 0) (get_or saved 2 0) (not (eqb (length waiting) 0))

  pub other_iir : (iir : ℕ) → iir ≡ right → (get_or saved 2 0 ≡ iir → ⊥) → No
  unfolding saved_of port_of
  other_iir iir e d = not_so (λ k. d (k.port.iir ∙ ap (settled (get_or saved 1 0) (get_or saved 2 0)) (some_is waiting) ∙ sym e))

  -- t: whether a port is made with a size of n
  pub other_size : {n : ℕ} {t : Bool} → n ≡ size_of saved → t ≡ is_size n → t ≡ false → No
  other_size e f d = not_so (λ k. true≢false (sym k.made ∙ ap is_size (sym e) ∙ sym f ∙ d))

  pub made_size : {n : ℕ} {t : Bool} → n ≡ size_of saved → t ≡ is_size n → t ≡ true → is_size (size_of saved) ≡ true
  made_size e f d = ap is_size (sym e) ∙ sym f ∙ d

  -- all but the last hold: that decides
  pub decided : {z : Bool} {status iir : ℕ} → ((i : ℕ) → get_or saved i 0 < 256) → ((i : ℕ) → get_or waiting i 0 < 256) → length waiting ≤ size_of saved → get_or saved 1 0 < 16
      → fcr_stored (get_or saved 9 0) ≡ get_or saved 9 0 → get_or saved 6 0 ≡ 0xb0
      → status ≡ cond (some waiting) 0x61 0x60 → get_or saved 5 0 ≡ status → iir ≡ right → get_or saved 2 0 ≡ iir → is_size (size_of saved) ≡ true
      → (z ≡ true) ↔ (spare_registers saved ≡ fresh_spare_registers) → (z ≡ true) ↔ ReachableSaved saved waiting
  unfolding saved_of port_of
  decided b w f ier fcr msr status lsr e iir made s = (
    λ z. record {
      made = made;
      spares_zero = s.0 z;
      port = record {
        settings = record {
          ier = ier;
          lcr = b 3;
          mcr = b 4;
          scr = b 7;
          dll = b 0;
          dlm = b 8;
          fcr = fcr;
        };
        iir = iir ∙ e ∙ ap (settled (get_or saved 1 0) (get_or saved 2 0)) (sym (some_is waiting));
        lsr = lsr ∙ status;
        msr = msr;
        bytes = bytes_below waiting w;
        fits = f;
        sized = refl;
      };
    },
    λ k. s.1 k.spares_zero,
  )
