-- Every port that a run of bytes from a fresh one reaches is `Reachable`.
use mathlib.Core.Path.{◌≡◌, refl}
use mathlib.Core.Bool.{Bool, true, false, cond}
use mathlib.Core.List.{List, [], ◌∷◌, ◌++◌, tail}
use Prim.Native.Nat.{ℕ, ◌<◌}
use native.Mathlib.Omega.{arith}
use lib.ListN.{length-append}
use lib.Bits.{bit_and, and_le_r}
use lib.Dec.{lit<}
use Rattle.common.specs.Bytes.{Bytes}
use Rattle.common.specs.Lists.{some}
use Rattle.common.proofs.Bytes.{bytes_take}
use Rattle.common.proofs.EveryByte.{same}
use Rattle.interrupts.specs.Interrupts.{ier_stored, settled}
use Rattle.line_status.specs.LineStatus.{lsr_ready, lsr_after_read}
use Rattle.serial.specs.Port.{Register, RBR_THR, IER, IIR_FCR, LCR, MCR, LSR, MSR, SCR, DLL, DLM, reserved, addressed, Settings, Port}
use Rattle.serial.specs.Port.{is_open, fresh, Out, Input, read_register, receives, input_of}
use Rattle.runs.specs.Run.{Op, read, write, input, room, Answer, step, run}
use Rattle.runs.specs.Accepted.{accepted, taken, events_of}
use Rattle.runs.specs.Reachable.{Written, Settled, Reachable}
use Rattle.runs.specs.Reached.{OfBytes, AllOfBytes}
use Rattle.runs.proofs.Registers.{both, put, write_puts}
use Rattle.runs.proofs.Effects.{Effect, keeps, comes, reads, empties, read_cases, input_cases, effect}
use Rattle.runs.proofs.Conserved.{tail_short}
use Rattle.runs.proofs.Status.{some_more}
use Rattle.runs.proofs.Raising.{stays_settled}

-- ---- Bytes

bytes_append : (q l : List ℕ) → Bytes q → Bytes l → Bytes (q ++ l)
bytes_append [] l b c = c
bytes_append (x ∷ q) l b c = (b.0, bytes_append q l b.1 c)

bytes_tail : (l : List ℕ) → Bytes l → Bytes (tail l)
bytes_tail [] b = tt
bytes_tail (x ∷ l) b = b.1

-- what is accepted is among the operation's bytes
accepted_bytes : (o : Op) (a : Answer) → OfBytes o → Bytes (accepted o a)
unfolding accepted
accepted_bytes (read offset) a h = tt
accepted_bytes (write offset v) a h = both Bytes (events_of a).looped (h.1, tt) tt
accepted_bytes (input bytes) a h = bytes_take (taken a) bytes h
accepted_bytes room a h = tt

-- ---- Settings

read_keeps_settings : (p : Port) (r : Register) → (read_register p r).port.settings ≡ p.settings
read_keeps_settings p r = read_cases (λ (o : Out). o.port.settings ≡ p.settings) p refl refl (λ v. refl) r

input_keeps_settings : (p : Port) (bytes : List ℕ) → (input_of p bytes).port.settings ≡ p.settings
unfolding receives
input_keeps_settings p bytes = input_cases (λ (i : Input). i.port.settings ≡ p.settings) p bytes (λ f. refl) (λ s h. refl)

-- what is remembered of FCR is remembered as it is
masked_twice : (v : ℕ) → v < 256 → bit_and (bit_and v 0xc9) 0xc9 ≡ bit_and v 0xc9
masked_twice = same (λ v. bit_and (bit_and v 0xc9) 0xc9) (λ v. bit_and v 0xc9) tt

put_written : (s : Settings) (r : Register) (v : ℕ) → Written s → v < 256 → Written (put s r v)
unfolding put ier_stored
put_written s RBR_THR v w h = w
put_written s IER v w h =
    record { ier = omega (arith, and_le_r v 0x0f); lcr = w.lcr; mcr = w.mcr; scr = w.scr; dll = w.dll; dlm = w.dlm; fcr = w.fcr }
put_written s IIR_FCR v w h =
    record { ier = w.ier; lcr = w.lcr; mcr = w.mcr; scr = w.scr; dll = w.dll; dlm = w.dlm; fcr = masked_twice v h }
put_written s LCR v w h = record { ier = w.ier; lcr = h; mcr = w.mcr; scr = w.scr; dll = w.dll; dlm = w.dlm; fcr = w.fcr }
put_written s MCR v w h = record { ier = w.ier; lcr = w.lcr; mcr = h; scr = w.scr; dll = w.dll; dlm = w.dlm; fcr = w.fcr }
put_written s LSR v w h = w
put_written s MSR v w h = w
put_written s SCR v w h = record { ier = w.ier; lcr = w.lcr; mcr = w.mcr; scr = h; dll = w.dll; dlm = w.dlm; fcr = w.fcr }
put_written s DLL v w h = record { ier = w.ier; lcr = w.lcr; mcr = w.mcr; scr = w.scr; dll = h; dlm = w.dlm; fcr = w.fcr }
put_written s DLM v w h = record { ier = w.ier; lcr = w.lcr; mcr = w.mcr; scr = w.scr; dll = w.dll; dlm = h; fcr = w.fcr }
put_written s reserved v w h = w

written : (p : Port) (o : Op) → OfBytes o → Written p.settings → Written (step p o).port.settings
unfolding step
written p (read offset) h w = rw (read_keeps_settings p (addressed (is_open p) offset)) w
written p (write offset v) h w =
    rw (write_puts p (addressed (is_open p) offset) v) (put_written p.settings (addressed (is_open p) offset) v w h.1)
written p (input bytes) h w = rw (input_keeps_settings p bytes) w
written p room h w = w

-- ---- Line status

lsr_ready_lem : {lsr : ℕ} (b : Bool) {c : Bool} → lsr ≡ cond b 0x61 0x60 → c ≡ true → lsr_ready lsr ≡ cond c 0x61 0x60
unfolding lsr_ready
lsr_ready_lem true e h = rw (e, h)
lsr_ready_lem false e h = rw (e, h)

lsr_emptied : {lsr : ℕ} (b : Bool) → lsr ≡ cond b 0x61 0x60 → lsr_after_read false lsr ≡ 0x60
unfolding lsr_after_read
lsr_emptied true e = rw e
lsr_emptied false e = rw e

lsr_read : (q : List ℕ) (lsr : ℕ) → lsr ≡ cond (some q) 0x61 0x60 → lsr_after_read (some (tail q)) lsr ≡ cond (some (tail q)) 0x61 0x60
unfolding lsr_after_read
lsr_read [] lsr e = rw e
lsr_read (x ∷ []) lsr e = rw e
lsr_read (x ∷ y ∷ q) lsr e = e

-- ---- One operation, and every run

kept : {size : ℕ} {p q : Port} {a d : List ℕ} {t : Bool} → Effect p q a t d → Bytes a → Written q.settings → Settled q → Reachable size p
    → Reachable size q
kept (keeps s i) b w u k = record { settings = w; iir = u; lsr = k.lsr; msr = k.msr; bytes = k.bytes; fits = k.fits; sized = k.sized }
kept {p = p} (comes l i s h) b w u k = record {
  settings = w;
  iir = u;
  lsr = lsr_ready_lem (some p.waiting) k.lsr (some_more p.waiting l s);
  msr = k.msr;
  bytes = bytes_append p.waiting l k.bytes b;
  fits = omega (arith, length-append p.waiting l, k.sized);
  sized = k.sized;
}
kept {p = p} (empties s i) b w u k = record {
  settings = w;
  iir = u;
  lsr = lsr_emptied (some p.waiting) k.lsr;
  msr = k.msr;
  bytes = tt;
  fits = omega arith;
  sized = k.sized;
}
kept {p = p} reads b w u k = record {
  settings = w;
  iir = u;
  lsr = lsr_read p.waiting p.lsr k.lsr;
  msr = k.msr;
  bytes = bytes_tail p.waiting k.bytes;
  fits = omega (arith, tail_short p.waiting, k.fits);
  sized = k.sized;
}

pub step_reachable : (size : ℕ) (p : Port) (o : Op) → OfBytes o → Reachable size p → Reachable size (step p o).port
step_reachable size p o h k =
    kept (effect p o) (accepted_bytes o (step p o).answer h) (written p o h k.settings) (stays_settled p k.iir o) k

pub fresh_reachable : (size : ℕ) → Reachable size (fresh size)
unfolding settled
fresh_reachable size = record {
  settings = record { ier = lit< tt; lcr = lit< tt; mcr = lit< tt; scr = lit< tt; dll = lit< tt; dlm = lit< tt; fcr = refl };
  iir = refl;
  lsr = refl;
  msr = refl;
  bytes = tt;
  fits = omega arith;
  sized = refl;
}

pub run_reachable : (size : ℕ) (p : Port) (os : List Op) → AllOfBytes os → Reachable size p → Reachable size (run p os).port
unfolding run
run_reachable size p [] h k = k
run_reachable size p (o ∷ os) h k = run_reachable size (step p o).port os h.1 (step_reachable size p o h.0 k)

pub all_reachable : (size : ℕ) (os : List Op) → AllOfBytes os → Reachable size (run (fresh size) os).port
all_reachable size os h = run_reachable size (fresh size) os h (fresh_reachable size)
