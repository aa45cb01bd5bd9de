-- Which register an offset is, and which settings a write changes.
use mathlib.Core.Path.{◌≡◌, refl, sym, subst}
use mathlib.Core.Bool.{Bool, true, false, cond, not, ◌&&◌}
use Prim.Native.Nat.{ℕ, suc, ◌≤◌}
use native.Mathlib.Omega.{arith}
use lib.Dec.{eqb}
use borrow.Author.Tests.{eqb-true, eqb-false, ne_eqb}
use Rattle.common.specs.Bits.{on}
use Rattle.interrupts.specs.Interrupts.{ier_stored}
use Rattle.serial.specs.Port.{Register, RBR_THR, IER, IIR_FCR, LCR, MCR, LSR, MSR, SCR, DLL, DLM, reserved, addressed, Settings, Port}
use Rattle.serial.specs.Port.{in_loop, has_room, put_ier, put_lcr, put_mcr, put_scr, put_dll, put_dlm, put_fcr, fcr_stored, Out, receives, write_ier, write_line}
use Rattle.serial.specs.Port.{write_loop, write_fcr, write_register}

-- what holds of both of a test's cases holds of its outcome
pub both : {A : Type 0} (P : A → Type 0) (t : Bool) {a b : A} → P a → P b → P (cond t a b)
both P true x y = x
both P false x y = y

by_test : {A : Type 0} (P : A → Type 0) (t : Bool) {a b : A} → (t ≡ true → P a) → (t ≡ false → P b) → P (cond t a b)
by_test P true f g = f refl
by_test P false f g = g refl

above : (n k : ℕ) → k ≤ n → eqb n k ≡ false → suc k ≤ n
above n k h e = omega (arith, eqb-false n k e)

-- ---- Offsets

pub addressed_cases : (P : ℕ → Register → Type 0) (dlab : Bool) → P 0 (cond dlab DLL RBR_THR) → P 1 (cond dlab DLM IER) → P 2 IIR_FCR
    → P 3 LCR → P 4 MCR
    → P 5 LSR → P 6 MSR → P 7 SCR → ((n : ℕ) → 8 ≤ n → P n reserved) → (n : ℕ) → P n (addressed dlab n)
unfolding addressed
addressed_cases P dlab p0 p1 p2 p3 p4 p5 p6 p7 p8 n =
    by_test (P n) (eqb n 0) (hit 0 p0) (λ e0. let h1 = above n 0 (omega arith) e0 in
    by_test (P n) (eqb n 1) (hit 1 p1) (λ e1. let h2 = above n 1 h1 e1 in
    by_test (P n) (eqb n 2) (hit 2 p2) (λ e2. let h3 = above n 2 h2 e2 in
    by_test (P n) (eqb n 3) (hit 3 p3) (λ e3. let h4 = above n 3 h3 e3 in
    by_test (P n) (eqb n 4) (hit 4 p4) (λ e4. let h5 = above n 4 h4 e4 in
    by_test (P n) (eqb n 5) (hit 5 p5) (λ e5. let h6 = above n 5 h5 e5 in
    by_test (P n) (eqb n 6) (hit 6 p6) (λ e6. let h7 = above n 6 h6 e6 in
    by_test (P n) (eqb n 7) (hit 7 p7) (λ e7. p8 n (above n 7 h7 e7)))))))))
  where
    hit : (k : ℕ) {r : Register} → P k r → eqb n k ≡ true → P n r
    hit k {r} x e = subst (λ (m : ℕ). P m r) (sym (eqb-true n k e)) x

unfoldable pub is_fcr : Register → Bool
is_fcr RBR_THR = false
is_fcr IER = false
is_fcr IIR_FCR = true
is_fcr LCR = false
is_fcr MCR = false
is_fcr LSR = false
is_fcr MSR = false
is_fcr SCR = false
is_fcr DLL = false
is_fcr DLM = false
is_fcr reserved = false

-- FCR is at offset 2, whether or not the divisor is closed
pub fcr_is_at_2 : (dlab : Bool) (n : ℕ) → is_fcr (addressed dlab n) ≡ eqb n 2
unfolding is_fcr
fcr_is_at_2 dlab =
    addressed_cases (λ n r. is_fcr r ≡ eqb n 2) dlab (at0 dlab) (at1 dlab) refl refl refl refl refl refl
    (λ n h. rw (ne_eqb n 2 (λ e. omega arith)))
  where
    at0 : (t : Bool) → is_fcr (cond t DLL RBR_THR) ≡ false
    at0 true = refl
    at0 false = refl

    at1 : (t : Bool) → is_fcr (cond t DLM IER) ≡ false
    at1 true = refl
    at1 false = refl

unfoldable pub is_rbr : Register → Bool
is_rbr RBR_THR = true
is_rbr IER = false
is_rbr IIR_FCR = false
is_rbr LCR = false
is_rbr MCR = false
is_rbr LSR = false
is_rbr MSR = false
is_rbr SCR = false
is_rbr DLL = false
is_rbr DLM = false
is_rbr reserved = false

-- the data register is at offset 0 while the divisor is closed
pub rbr_is_data : (dlab : Bool) (n : ℕ) → is_rbr (addressed dlab n) ≡ (eqb n 0 && not dlab)
unfolding is_rbr
rbr_is_data dlab =
    addressed_cases (λ n r. is_rbr r ≡ (eqb n 0 && not dlab)) dlab (at0 dlab) (at1 dlab) refl refl refl refl refl refl
    (λ n h. rw (ne_eqb n 0 (λ e. omega arith)))
  where
    at0 : (t : Bool) → is_rbr (cond t DLL RBR_THR) ≡ not t
    at0 true = refl
    at0 false = refl

    at1 : (t : Bool) → is_rbr (cond t DLM IER) ≡ false
    at1 true = refl
    at1 false = refl

-- ---- Settings

-- what a write makes of the settings
unfoldable pub put : Settings → Register → ℕ → Settings
put s RBR_THR v = s
put s IER v = put_ier s (ier_stored v)
put s IIR_FCR v = put_fcr s (fcr_stored v)
put s LCR v = put_lcr s v
put s MCR v = put_mcr s v
put s LSR v = s
put s MSR v = s
put s SCR v = put_scr s v
put s DLL v = put_dll s v
put s DLM v = put_dlm s v
put s reserved v = s

pub write_puts : (p : Port) (r : Register) (v : ℕ) → (write_register p r v).port.settings ≡ put p.settings r v
unfolding write_register put receives write_ier write_line write_loop write_fcr
write_puts p RBR_THR v = let P : Out
    → Type 0 = λ o. o.port.settings ≡ p.settings in both P (in_loop p) (both P (has_room p) refl refl) refl
write_puts p IER v = refl
write_puts p IIR_FCR v = let kept = put_fcr p.settings (fcr_stored v) in both (λ (o : Out). o.port.settings ≡ kept) (on v 0x02) refl refl
write_puts p LCR v = refl
write_puts p MCR v = refl
write_puts p LSR v = refl
write_puts p MSR v = refl
write_puts p SCR v = refl
write_puts p DLL v = refl
write_puts p DLM v = refl
write_puts p reserved v = refl
