-- The original with all of our port but IIR and FCR: every pair that is the same is such a pair, so that each law is said of these.
use mathlib.Core.Path.{◌≡◌, refl, subst}
use mathlib.Core.Bool.{true, false≢true}
use Prim.Native.Nat.{ℕ}
use Rattle.interrupts.specs.Interrupts.{transmitter_empty}
use Rattle.serial.specs.Port.{Port, fresh, active}
use Rattle.vm_superio.specs.Original.{Original, is_marked}
use Rattle.vm_superio.specs.Original as original
use Rattle.vm_superio.specs.Beside.{kept_by_both, Same, restored, enables, Beside}

abbrev pub twin : Port → ℕ → Original
twin p j = record { settings = kept_by_both p.settings; iir = j; lsr = p.lsr; msr = p.msr; waiting = p.waiting; size = p.size }

pub is_same : (p : Port) (j : ℕ) → Same p (twin p j)
is_same p j = record { settings = refl; lsr = refl; msr = refl; waiting = refl; size = refl }

twin_is : {p : Port} {q : Original} → Same p q → twin p q.iir ≡ q
twin_is s = rw (← s.settings, ← s.lsr, ← s.msr, ← s.waiting, ← s.size) refl

-- Where the original marks the transmitter and it is enabled, ours is active.
abbrev pub Held : Port → ℕ → Type 0
Held p j = is_marked j original.transmitter_empty ≡ true → enables p transmitter_empty ≡ true → active p transmitter_empty ≡ true

pub twins : {p : Port} {q : Original} (P : Original → Type 0) → ((j : ℕ) → Held p j → P (twin p j)) → Beside p q → P q
twins {p} {q} P all b = subst P (twin_is b.same) (all q.iir b.marked)

-- ---- Where runs begin

-- Both fresh.
pub fresh_beside : (size : ℕ) → Beside (fresh size) (original.fresh size)
fresh_beside size = record { same = is_same (fresh size) 0x01; marked = λ m e. absurd (false≢true e) }

-- Both restored from one and the same saved state, whatever it is.
both_hold : (p : Port) → Held p p.iir
both_hold p m e = rw (e, m) refl

pub restored_beside : (p : Port) → Beside p (restored p)
restored_beside p = record { same = is_same p p.iir; marked = both_hold p }
