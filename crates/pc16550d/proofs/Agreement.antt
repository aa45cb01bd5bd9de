-- What the proofs about single calls share: the two maps of offsets are one, the chip's pin and code in the device's words, and how a call
-- comes to agree.
use mathlib.Core.Path.{◌≡◌, refl, sym, ap, ◌∙◌}
use mathlib.Core.List.{List, [], ◌∷◌}
use mathlib.Core.Bool.{Bool, true, false, cond, not, ◌&&◌, ◌||◌, true≢false, false≢true, or-false, and-true, and-false, and_comm}
use Prim.Native.Nat.{ℕ, zero, suc, ◌+◌, ◌<◌}
use native.Mathlib.Omega.{arith}
use lib.ListN.{length}
use lib.Dec.{ltb, eqb}
use borrow.Author.Tests.{ne_eqb, le-ltb}
use Rattle.common.specs.Lists.{some}
use Rattle.interrupts.specs.Interrupts.{received_data, transmitter_empty, is_high, code, newly}
use Rattle.serial.specs.Port.{Port, Register, addressed, active, line, RBR_THR, IER, IIR_FCR, LCR, MCR, LSR, MSR, SCR, DLL, DLM, reserved}
use Rattle.sidebyside.specs.Answers.{Said, Answer, Fits}
use Rattle.pc16550d.specs.Chip.{Chip, pin, register_at, loads, held, rising, rises}
use Rattle.pc16550d.specs.Chip as chip
use Rattle.pc16550d.specs.Compare.{Done, chip_of, enables, Agrees}

-- ---- Offsets

-- The device's names for the chip's registers.
abbrev pub named : Register → chip.Register
named RBR_THR = chip.RBR_THR
named IER = chip.IER
named IIR_FCR = chip.IIR_FCR
named LCR = chip.LCR
named MCR = chip.MCR
named LSR = chip.LSR
named MSR = chip.MSR
named SCR = chip.SCR
named DLL = chip.DLL
named DLM = chip.DLM
named reserved = chip.outside

not_below_8 : (n k : ℕ) → k < 8 → eqb (suc (suc (suc (suc (suc (suc (suc (suc n)))))))) k ≡ false
not_below_8 n k h = ne_eqb _ k (omega arith)

named_cond : (t : Bool) (r s : Register) → named (cond t r s) ≡ cond t (named r) (named s)
named_cond true r s = refl
named_cond false r s = refl

-- Both maps give one register to an offset.
pub same_map : (dlab : Bool) (offset : ℕ) → register_at dlab offset ≡ named (addressed dlab offset)
unfolding register_at addressed
same_map dlab zero = sym (named_cond dlab DLL RBR_THR)
same_map dlab (suc zero) = sym (named_cond dlab DLM IER)
same_map dlab (suc (suc zero)) = refl
same_map dlab (suc (suc (suc zero))) = refl
same_map dlab (suc (suc (suc (suc zero)))) = refl
same_map dlab (suc (suc (suc (suc (suc zero))))) = refl
same_map dlab (suc (suc (suc (suc (suc (suc zero)))))) = refl
same_map dlab (suc (suc (suc (suc (suc (suc (suc zero))))))) = refl
same_map dlab (suc (suc (suc (suc (suc (suc (suc (suc n)))))))) =
    simp (not_below_8 n 0 (omega arith), not_below_8 n 1 (omega arith), not_below_8 n 2 (omega arith), not_below_8 n 3 (omega arith), not_below_8 n 4 (omega arith), not_below_8 n 5 (omega arith), not_below_8 n 6 (omega arith), not_below_8 n 7 (omega arith))

-- ---- The pin and the code of a port, read as the chip's

-- The transmitter's interrupt is pending on the chip where it is active on the device.
shut : (e s : Bool) → ((e && s) && e) ≡ (e && s)
shut true true = refl
shut true false = refl
shut false s = refl

pub pin_is : (p : Port) → pin (chip_of p) ≡ line p
unfolding pin chip_of is_high
pin_is p = rw (or-false, shut, and_comm (some p.waiting))

-- While THR holds a byte the pin is high for received data alone.
pub held_pin : (p : Port) → pin (held (chip_of p)) ≡ active p received_data
unfolding pin chip_of loads
held_pin p =
    or-false ((some p.waiting && enables p received_data) || false)
    ∙ or-false (some p.waiting && enables p received_data) ∙ and_comm (some p.waiting) (enables p received_data)

-- At trigger level 1 there is no time-out.
reached : (waiting : List ℕ) (t : Bool) (v : ℕ)
    → cond (some waiting && t) (cond (ltb (length waiting) 1) 0x0c 0x04) v ≡ cond (t && some waiting) 0x04 v
reached [] t v = rw (and-false t)
reached (x ∷ xs) t v = rw (le-ltb (length (x ∷ xs)) 1 (omega arith), and-true t)

pub code_is : (p : Port) → chip.code (chip_of p) ≡ code p.settings.ier p.iir (some p.waiting)
unfolding chip.code chip_of code
code_is p = rw shut (reached p.waiting (enables p received_data) (cond (active p transmitter_empty) 0x02 0x01))

-- ---- A call agrees if its answer, the bytes sent and the chip after it do, and the signal fits the line

pub agrees_by : (p : Port) {d : Done} {c : chip.Out} → Fits d.reply c.reply → d.sent ≡ c.sent → chip_of d.port ≡ c.chip
    → (rises (chip_of p) c ≡ true → 0 < d.raises) → (0 < d.raises → line d.port ≡ true) → Agrees (chip_of p) d c
agrees_by p {d} {c} reply sent next rise high =
    let level : line d.port ≡ pin c.chip = sym (pin_is d.port) ∙ ap pin next in
    record { alike = record { reply = reply; sent = sent; rise = rise; high = λ h. sym level ∙ high h; level = level }; next = next }

-- Where the line, low at one moment, is high at the next, the interrupt is raised; where that is raised the line is high.
pub record Signal (before after : Bool) (raises : ℕ) : Type 0 where
  pub rise : before ≡ false → after ≡ true → 0 < raises
  pub high : 0 < raises → after ≡ true

rose : (b a : Bool) → (not b && a) ≡ true → (b ≡ false) × (a ≡ true)
rose true a e = absurd (false≢true e)
rose false a e = (refl, e)

-- There is no moment in between.
pub agrees : (p : Port) {d : Done} {c : Chip} {s : Said} → Fits d.reply s → d.sent ≡ [] → chip_of d.port ≡ c
    → Signal (line p) (line d.port) d.raises → Agrees (chip_of p) d (chip.replies c s)
unfolding rising
agrees p {d} {c} reply sent next signal =
    agrees_by p reply sent next
    (λ e. (let r = rose (pin (chip_of p)) (pin c) e in signal.rise (sym (pin_is p) ∙ r.0) (sym (pin_is d.port) ∙ ap pin next ∙ r.1)))
    signal.high

-- Nothing is raised, and the line does not rise.
pub calm : {before after : Bool} → (before ≡ false → after ≡ false) → Signal before after 0
calm low = record { rise = λ before after. absurd (true≢false (sym after ∙ low before)); high = λ h. absurd (omega arith) }

-- Nothing is sent or raised, and the line is as it was.
pub quietly : (p : Port) {q : Port} {a : Answer} {c : Chip} {s : Said} → Fits a s → chip_of q ≡ c → line q ≡ line p
    → Agrees (chip_of p) (record { port = q; reply = a; sent = []; raises = 0 }) (chip.replies c s)
quietly p reply next same = agrees p reply refl next (calm (λ before. same ∙ before))

pub none_raised : (r t : Bool) → 0 < newly r false + newly t false → ⊥
none_raised r t h = omega (arith, (rw (and-false (not r), and-false (not t)) at h))

pub neither : (r t : Bool) → (r || t) ≡ false → (r ≡ false) × (t ≡ false)
neither true t e = absurd (true≢false e)
neither false t e = (refl, e)

-- Each kind that becomes active is raised. r, t: received data and the transmitter's interrupt before the call; r', t': after it.
pub each_raised : (r' t' r t : Bool) → Signal (r || t) (r' || t') (newly r r' + newly t t')
each_raised true t' r t = record { rise = λ low high. rw (neither r t low).0 (omega arith); high = λ h. refl }
each_raised false true r t = record { rise = λ low high. rw ((neither r t low).0, (neither r t low).1) (omega arith); high = λ h. refl }
each_raised false false r t = record { rise = λ low high. absurd (false≢true high); high = λ h. absurd (none_raised r t h) }
