-- Raises are counted on both sides: each side raises for received data or not, and for the transmitter or not.
use mathlib.Core.Path.{◌≡◌, refl}
use mathlib.Core.Logic.{◌⊎◌, inl, inr}
use mathlib.Core.Bool.{Bool, true, false, not, ◌&&◌, false≢true, true≢false}
use Prim.Native.Nat.{◌+◌, ◌≤◌}
use native.Mathlib.Omega.{arith}
use Rattle.vm_superio.proofs.Marks.{once}

-- ---- One raises and the other does not

abbrev pub alone : Bool → Bool → Bool
alone a b = a && not b

raises_alone : (a b : Bool) → alone a b ≡ true → (once a ≡ 1) × (once b ≡ 0)
raises_alone true true e = absurd (false≢true e)
raises_alone true false e = (refl, refl)
raises_alone false b e = absurd (false≢true e)

no_more : (a b : Bool) → alone a b ≡ false → once a ≤ once b
no_more true true e = omega arith
no_more true false e = absurd (true≢false e)
no_more false true e = omega arith
no_more false false e = omega arith

-- ---- One kind. a: ours raises; b: the original

pub data Off (a b : Bool) : Type 0 where
  more : alone a b ≡ true → Off a b
  less : alone b a ≡ true → Off a b

pub counted : (a b : Bool) → (once a ≡ once b) ⊎ Off a b
counted true true = inl refl
counted true false = inr (more refl)
counted false true = inr (less refl)
counted false false = inl refl

pub off_real : (a b : Bool) → Off a b → once a ≡ once b → ⊥
off_real a b (more e) s = let r = raises_alone a b e in omega (arith, r.0, r.1)
off_real a b (less e) s = let r = raises_alone b a e in omega (arith, r.0, r.1)

-- ---- Both kinds. a, b: received data; c, d: the transmitter

pub data OffBoth (a b c d : Bool) : Type 0 where
  more_data : alone a b ≡ true → alone d c ≡ false → OffBoth a b c d
  less_data : alone b a ≡ true → alone c d ≡ false → OffBoth a b c d
  more_transmitter : alone c d ≡ true → alone b a ≡ false → OffBoth a b c d
  less_transmitter : alone d c ≡ true → alone a b ≡ false → OffBoth a b c d

pub both_counted : (a b c d : Bool) → (once a + once c ≡ once b + once d) ⊎ OffBoth a b c d
both_counted true true true true = inl refl
both_counted true true true false = inr (more_transmitter refl refl)
both_counted true true false true = inr (less_transmitter refl refl)
both_counted true true false false = inl refl
both_counted true false true true = inr (more_data refl refl)
both_counted true false true false = inr (more_data refl refl)
both_counted true false false true = inl refl
both_counted true false false false = inr (more_data refl refl)
both_counted false true true true = inr (less_data refl refl)
both_counted false true true false = inl refl
both_counted false true false true = inr (less_data refl refl)
both_counted false true false false = inr (less_data refl refl)
both_counted false false true true = inl refl
both_counted false false true false = inr (more_transmitter refl refl)
both_counted false false false true = inr (less_transmitter refl refl)
both_counted false false false false = inl refl

pub off_both_real : (a b c d : Bool) → OffBoth a b c d → once a + once c ≡ once b + once d → ⊥
off_both_real a b c d (more_data e f) s = let r = raises_alone a b e in omega (arith, r.0, r.1, no_more d c f)
off_both_real a b c d (less_data e f) s = let r = raises_alone b a e in omega (arith, r.0, r.1, no_more c d f)
off_both_real a b c d (more_transmitter e f) s = let r = raises_alone c d e in omega (arith, r.0, r.1, no_more b a f)
off_both_real a b c d (less_transmitter e f) s = let r = raises_alone d c e in omega (arith, r.0, r.1, no_more a b f)

-- ---- The rows' words for "one raises and the other does not"

-- v: enabled; t: active, or a byte waits; m: marked.
pub ours_alone : (v t m : Bool) → alone (v && not t) (v && not m) ≡ (v && not t && m)
ours_alone true true m = refl
ours_alone true false true = refl
ours_alone true false false = refl
ours_alone false t m = refl

pub theirs_alone : (v t m : Bool) → alone (v && not m) (v && not t) ≡ (v && t && not m)
theirs_alone true true true = refl
theirs_alone true true false = refl
theirs_alone true false true = refl
theirs_alone true false false = refl
theirs_alone false t m = refl

pub theirs_alone_active : (v t m : Bool) → alone (v && not m) (v && not t) ≡ ((v && t) && not m)
theirs_alone_active true true true = refl
theirs_alone_active true true false = refl
theirs_alone_active true false true = refl
theirs_alone_active true false false = refl
theirs_alone_active false t m = refl

-- IER is written. v: enabled now; w: a byte waits; e: enabled before; m: marked.
pub quiet_data : (v w e m : Bool) → alone (v && w && not e) (w && (v && not m)) ≡ (v && w && not e && m)
quiet_data true true true m = refl
quiet_data true true false true = refl
quiet_data true true false false = refl
quiet_data true false e m = refl
quiet_data false w e m = refl

pub data_again_lem : (v w e m : Bool) → alone (w && (v && not m)) (v && w && not e) ≡ (v && (e && w) && not m)
data_again_lem true true true true = refl
data_again_lem true true true false = refl
data_again_lem true true false true = refl
data_again_lem true true false false = refl
data_again_lem true false true m = refl
data_again_lem true false false m = refl
data_again_lem false true e m = refl
data_again_lem false false e m = refl

-- With a common condition.
pub under : (h a b : Bool) → alone (h && a) (h && b) ≡ (h && alone a b)
under true a b = refl
under false a b = refl

-- ---- Booleans

pub three_true : (a b c : Bool) → (a && b && c) ≡ true → (a ≡ true) × (b ≡ true) × (c ≡ true)
three_true true true true e = (refl, refl, refl)
three_true true true false e = absurd (false≢true e)
three_true true false c e = absurd (false≢true e)
three_true false b c e = absurd (false≢true e)

pub not_true : (a : Bool) → not a ≡ true → a ≡ false
not_true true e = absurd (false≢true e)
not_true false e = refl
