-- Reads of a register: each agrees with the chip or is in a row, and in a row it does not agree.
use mathlib.Core.Path.{◌≡◌, refl, sym, ap, ◌∙◌}
use mathlib.Core.Logic.{◌⊎◌, inl, inr}
use mathlib.Core.List.{List, [], ◌∷◌, tail}
use mathlib.Core.Bool.{Bool, true, false, cond, not, ◌&&◌, ◌||◌, true≢false, and-true}
use Prim.Native.Nat.{ℕ, ◌+◌, ◌*◌, ◌/◌, ◌%◌, ◌≤◌, ◌<◌}
use native.Mathlib.Omega.{arith}
use native.Mathlib.Decide.{dec_lt}
use lib.Bits.{bit_and, bit_or, and_mod, and_le_r}
use lib.Dec.{eqb}
use Rattle.common.specs.Bits.{on, bit}
use Rattle.common.specs.Lists.{some, first_or0}
use Rattle.sidebyside.specs.Answers.{says, silent, answers, Fits}
use Rattle.interrupts.specs.Interrupts.{received_data, transmitter_empty, is_active, is_high, code, after_data_read}
use Rattle.interrupts.proofs.Laws.{settled_keeps}
use Rattle.modem.specs.Modem.{is_loop, looped_lines, msr_read}
use Rattle.serial.specs.Port.{Port, Register, active, read_register, RBR_THR, IER, IIR_FCR, LCR, MCR, LSR, MSR, SCR, DLL, DLM, reserved}
use Rattle.pc16550d.specs.Chip.{after_iir, inputs}
use Rattle.pc16550d.specs.Chip as chip
use Rattle.pc16550d.specs.Compare.{accessed, chip_of, enables, Sound, Agrees, Row, reads, serial_wide_mcr}
use Rattle.pc16550d.proofs.Agreement.{named, code_is, agrees, quietly, calm}

abbrev pub ReadAgrees : Port → Register → Type 0
ReadAgrees p r = Agrees (chip_of p) (accessed (read_register p r)) (chip.read_register (chip_of p) (named r))

-- ---- LSR
lsr_says : (waiting : List ℕ) → cond (some waiting) 0x61 0x60 ≡ 0x60 + 0 + cond (some waiting) 0x01 0
lsr_says [] = refl
lsr_says (x ∷ xs) = refl

lsr_read : (p : Port) → Sound p → ReadAgrees p LSR
unfolding chip_of read_register chip.read_register
lsr_read p k = quietly p (k.lsr ∙ lsr_says p.waiting) refl refl

-- ---- RBR
-- With one byte less the line does not rise.
fewer : (waiting : List ℕ) (a t : Bool) → (a && some waiting || t) ≡ false → (a && some (tail waiting) || t) ≡ false
fewer [] a t e = e
fewer (x ∷ []) true t e = absurd (true≢false e)
fewer (x ∷ []) false t e = e
fewer (x ∷ y ∷ ys) a t e = e

-- The transmitter's interrupt is as it was.
kept : (ier iir : ℕ) (left : Bool)
    → is_active ier (after_data_read ier iir left) left transmitter_empty ≡ is_active ier iir left transmitter_empty
kept ier iir true = refl
kept ier iir false = settled_keeps ier iir false

first_fits : (waiting : List ℕ) → Fits (answers (first_or0 waiting)) (cond (some waiting) (says (first_or0 waiting)) silent)
first_fits [] = tt
first_fits (x ∷ xs) = refl

rbr_read : (p : Port) → ReadAgrees p RBR_THR
unfolding chip_of read_register chip.read_register is_high
rbr_read p =
    let k = kept p.settings.ier p.iir (some (tail p.waiting)) in
    agrees p (first_fits p.waiting) refl (rw k) (calm (rw k (fewer p.waiting (enables p received_data) (active p transmitter_empty))))

-- ---- MCR and MSR
mcr_read : (p : Port) → Dec (p.settings.mcr < 0x20) → ReadAgrees p MCR ⊎ Row p (reads MCR)
unfolding chip_of read_register chip.read_register
mcr_read p (yes h) = inl (quietly p (omega arith) refl refl)
mcr_read p (no h) = inr (serial_wide_mcr (omega arith))

-- The loop and the four lines that it wires are among MCR's five low bits.
loop_bit : (mcr : ℕ) → bit_and (mcr % 0x20) 0x10 ≡ bit_and mcr 0x10
loop_bit mcr = sym (and_mod mcr 0x10 5) ∙ omega (arith, and_le_r mcr 0x10)

pub loop_kept : (mcr : ℕ) → on (mcr % 0x20) 0x10 ≡ is_loop mcr
unfolding is_loop
loop_kept mcr = rw loop_bit

low_bits : (m : ℕ)
    → (bit (m % 0x20) 0 ≡ bit m 0) × (bit (m % 0x20) 1 ≡ bit m 1) × (bit (m % 0x20) 2 ≡ bit m 2) × (bit (m % 0x20) 3 ≡ bit m 3)
low_bits m = (omega arith, omega arith, omega arith, omega arith)

weights : (z a b c d : ℕ) → z ≡ 0 → z + (a * 0x10 + b * 0x20 + c * 0x40 + d * 0x80) ≡ (a * 0x01 + b * 0x02 + c * 0x04 + d * 0x08) * 0x10 + 0
weights z a b c d e = omega arith

wired_kept : (mcr low : ℕ) → low ≡ 0 → low + looped_lines mcr ≡ chip.wired (mcr % 0x20) * 0x10 + 0
wired_kept mcr low e = let b = low_bits mcr in rw (b.0, b.1, b.2, b.3) (weights low _ _ _ _ e)

msr_says : (mcr msr : ℕ) (t : Bool) → is_loop mcr ≡ t → msr % 0x10 ≡ 0 → msr_read mcr msr ≡ inputs (mcr % 0x20) (msr / 0x10) * 0x10 + 0
unfolding msr_read inputs
msr_says mcr msr true l z = rw (loop_kept, l) (wired_kept mcr (msr % 0x10) z)
msr_says mcr msr false l z = rw (loop_kept, l) (omega arith)

msr_read_lem : (p : Port) → Sound p → ReadAgrees p MSR
unfolding chip_of read_register chip.read_register
msr_read_lem p k = quietly p (msr_says p.settings.mcr p.msr _ refl k.msr) refl refl

-- ---- IIR
-- r, t: received data and the transmitter's interrupt are active. The code leaves room for the two bits of the FIFOs.
abbrev shown : Bool → Bool → ℕ
shown r t = cond r 0x04 (cond t 0x02 0x01)

beside_fifos : (r t : Bool) → bit_or (shown r t) 0xc0 ≡ shown r t + 0xc0
beside_fifos true t = refl
beside_fifos false true = refl
beside_fifos false false = refl

-- Where the read showed the transmitter's interrupt, it is reset on both. e: it is enabled; s: the stored bit.
reset : (r e s : Bool) (iir : ℕ) → on iir 0x02 ≡ s → (e && on (cond (eqb (shown r (e && on iir 0x02)) 0x02) 0x01 iir) 0x02)
    ≡ ((e && on iir 0x02) && not (eqb (shown r (e && on iir 0x02)) 0x02))
reset true e s iir f = sym (and-true (e && on iir 0x02))
reset false false s iir f = refl
reset false true true iir f = rw f
reset false true false iir f = rw f f

-- The line does not rise.
no_rise : (r t n : Bool) → (r || t) ≡ false → (r || t && n) ≡ false
no_rise true t n e = e
no_rise false true n e = absurd (true≢false e)
no_rise false false n e = refl

iir_read : (p : Port) → ReadAgrees p IIR_FCR
unfolding chip_of read_register chip.read_register after_iir is_high code
iir_read p =
    let r = active p received_data in
    let t = active p transmitter_empty in
    let same = reset r (enables p transmitter_empty) _ p.iir refl in
    agrees p (beside_fifos r t ∙ ap (λ (n : ℕ). n + 0xc0) (sym (code_is p))) refl
    (rw (code_is p, same))
    (calm (rw same (no_rise r t _)))

-- MCR's high bits show.
not_wide : (p : Port) → 0x20 ≤ p.settings.mcr → ReadAgrees p MCR → ⊥
unfolding read_register chip.read_register chip_of
not_wide p h a = let z : p.settings.mcr ≡ p.settings.mcr % 0x20 = a.alike.reply in omega arith

-- ---- In a row a read does not agree
pub read_real : (p : Port) (r : Register) → Row p (reads r) → ReadAgrees p r → ⊥
read_real p _ (serial_wide_mcr h) a = not_wide p h a

-- ---- Each read agrees or is in a row
pub read_complete : (p : Port) → Sound p → (r : Register) → ReadAgrees p r ⊎ Row p (reads r)
unfolding chip_of read_register chip.read_register
read_complete p k RBR_THR = inl (rbr_read p)
read_complete p k IER = inl (quietly p refl refl refl)
read_complete p k IIR_FCR = inl (iir_read p)
read_complete p k LCR = inl (quietly p refl refl refl)
read_complete p k MCR = mcr_read p (dec_lt p.settings.mcr 0x20)
read_complete p k LSR = inl (lsr_read p k)
read_complete p k MSR = inl (msr_read_lem p k)
read_complete p k SCR = inl (quietly p refl refl refl)
read_complete p k DLL = inl (quietly p refl refl refl)
read_complete p k DLM = inl (quietly p refl refl refl)
read_complete p k reserved = inl (quietly p tt refl refl)
