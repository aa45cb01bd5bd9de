-- Two tests at once, and two that tell the same.
use mathlib.Core.Path.{◌≡◌, refl}
use mathlib.Core.Bool.{Bool, true, false, ◌&&◌, false≢true}
use mathlib.Core.Logic.{◌↔◌}

pub both_true : (a b : Bool) → (a && b) ≡ true → (a ≡ true) × (b ≡ true)
both_true true b e = (refl, e)
both_true false b e = absurd (false≢true e)

pub both_are : {a b : Bool} → a ≡ true → b ≡ true → (a && b) ≡ true
both_are e f = rw (e, f) refl

-- Tests that tell whether the same thing is so.
pub told_once : {P : Type 0} (a b : Bool) → (a ≡ true) ↔ P → (b ≡ true) ↔ P → a ≡ b
told_once true true p q = refl
told_once false false p q = refl
told_once true false p q = absurd (false≢true (q.1 (p.0 refl)))
told_once false true p q = absurd (false≢true (p.1 (q.0 refl)))
