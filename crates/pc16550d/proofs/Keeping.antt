-- A fresh port is sound, and every operation keeps a port sound.
use mathlib.Core.Path.{◌≡◌, refl}
use mathlib.Core.List.{List, [], ◌∷◌, ◌++◌, tail}
use mathlib.Core.Bool.{Bool, true, false, cond}
use Prim.Native.Nat.{ℕ, zero, suc, ◌≤◌, ◌<◌, min}
use native.Mathlib.Omega.{arith}
use lib.ListN.{length, take}
use lib.Dec.{eqb}
use borrow.Author.Tests.{eqb-false, ltb-true}
use Rattle.common.specs.Bits.{on}
use Rattle.common.specs.Lists.{some}
use Rattle.line_status.specs.LineStatus.{lsr_ready, lsr_after_read}
use Rattle.serial.specs.Port.{Port, Settings, Register, Out, Input, with_settings, with_receiver, addressed, is_open, in_loop, fresh, emptied}
use Rattle.serial.specs.Port.{read_register, write_register, write_line, write_loop, write_ier, write_fcr, has_room, room_of, receives, input_of, RBR_THR, IER}
use Rattle.serial.specs.Port.{IIR_FCR, LCR, MCR, LSR, MSR, SCR, DLL, DLM, reserved}
use Rattle.pc16550d.specs.Chip.{Op, read, write, input}
use Rattle.pc16550d.specs.Compare.{device_does, Sound}
use Rattle.pc16550d.proofs.Receiving.{some_more}

pub fresh_sound : (size : ℕ) → 16 ≤ size → Sound (fresh size)
fresh_sound size h = record { lsr = refl; msr = refl; size = h }

-- Settings and IIR are none of what a sound port is asked for.
same_sound : (p : Port) {s : Settings} {iir : ℕ} → Sound p → Sound (with_receiver (with_settings p s) iir p.lsr p.waiting)
same_sound p k = record { lsr = k.lsr; msr = k.msr; size = k.size }

-- ---- LSR
ready : (w : Bool) (lsr : ℕ) → lsr ≡ cond w 0x61 0x60 → lsr_ready lsr ≡ 0x61
unfolding lsr_ready
ready true lsr e = rw e
ready false lsr e = rw e

none_ready : (w : Bool) (lsr : ℕ) → lsr ≡ cond w 0x61 0x60 → lsr_after_read false lsr ≡ 0x60
unfolding lsr_after_read
none_ready true lsr e = rw e
none_ready false lsr e = rw e

one_less : (waiting : List ℕ) (lsr : ℕ) → lsr ≡ cond (some waiting) 0x61 0x60
    → lsr_after_read (some (tail waiting)) lsr ≡ cond (some (tail waiting)) 0x61 0x60
unfolding lsr_after_read
one_less [] lsr e = rw e
one_less (x ∷ []) lsr e = rw e
one_less (x ∷ y ∷ ys) lsr e = e

-- ---- Reads
read_keeps : (p : Port) → Sound p → (r : Register) → Sound (read_register p r).port
unfolding read_register
read_keeps p k RBR_THR = record { lsr = one_less p.waiting p.lsr k.lsr; msr = k.msr; size = k.size }
read_keeps p k IER = k
read_keeps p k IIR_FCR = same_sound p k
read_keeps p k LCR = k
read_keeps p k MCR = k
read_keeps p k LSR = k
read_keeps p k MSR = k
read_keeps p k SCR = k
read_keeps p k DLL = k
read_keeps p k DLM = k
read_keeps p k reserved = k

-- ---- Writes
receives_keeps : (p : Port) (bytes : List ℕ) → Sound p → some (p.waiting ++ bytes) ≡ true → Sound (receives p bytes).port
unfolding receives
receives_keeps p bytes k w = record { lsr = rw w (ready (some p.waiting) p.lsr k.lsr); msr = k.msr; size = k.size }

either : {A : Type 0} (P : A → Type 0) (t : Bool) {a b : A} → (t ≡ true → P a) → (t ≡ false → P b) → P (cond t a b)
either P true f g = f refl
either P false f g = g refl

write_keeps : (p : Port) → Sound p → (r : Register) (v : ℕ) → Sound (write_register p r v).port
unfolding write_register write_line write_loop write_ier write_fcr
write_keeps p k RBR_THR v =
    let S : Out → Type 0 = λ o. Sound o.port in
    let e : Sound (emptied p) = same_sound p k in
    either S (in_loop p)
    (λ l. either S (has_room p) (λ h. receives_keeps (emptied p) (v ∷ []) e (some_more p.waiting v [])) (λ h. e))
    (λ l. e)
write_keeps p k IER v = same_sound p k
write_keeps p k IIR_FCR v =
    let S : Out → Type 0 = λ o. Sound o.port in
    either S (on v 0x02)
    (λ e. record { lsr = none_ready (some p.waiting) p.lsr k.lsr; msr = k.msr; size = k.size })
    (λ e. same_sound p k)
write_keeps p k LCR v = same_sound p k
write_keeps p k MCR v = same_sound p k
write_keeps p k LSR v = k
write_keeps p k MSR v = k
write_keeps p k SCR v = same_sound p k
write_keeps p k DLL v = same_sound p k
write_keeps p k DLM v = same_sound p k
write_keeps p k reserved v = k

-- ---- Input
some_taken : (waiting : List ℕ) (n : ℕ) (bytes : List ℕ) → 0 < n → 0 < length bytes → some (waiting ++ take n bytes) ≡ true
some_taken waiting zero bytes h l = absurd (omega arith)
some_taken waiting (suc n) [] h l = absurd (omega arith)
some_taken waiting (suc n) (x ∷ xs) h l = some_more waiting x (take n xs)

input_keeps : (p : Port) → Sound p → (bytes : List ℕ) → Sound (input_of p bytes).port
unfolding input_of
input_keeps p k bytes =
    let S : Input → Type 0 = λ i. Sound i.port in
    either S (in_loop p) (λ l. k)
    (λ l. either S (eqb (length bytes) 0) (λ e. k)
    (λ e. either S (has_room p)
    (λ h.
    let n = eqb-false (length bytes) 0 e in
    let room = ltb-true (length p.waiting) p.size h in
    receives_keeps p (take (min (room_of p) (length bytes)) bytes) k (some_taken p.waiting (min (room_of p) (length bytes)) bytes (omega arith) (omega arith)))
    (λ h. k)))

pub keeps : (p : Port) → Sound p → (o : Op) → Sound (device_does p o).port
unfolding device_does
keeps p k (read offset) = read_keeps p k (addressed (is_open p) offset)
keeps p k (write offset v) = write_keeps p k (addressed (is_open p) offset) v
keeps p k (input bytes) = input_keeps p k bytes
