-- How often the interrupt is raised again.
use mathlib.Core.Path.{◌≡◌, refl, sym, ap, ◌∙◌}
use mathlib.Core.Bool.{Bool, true, false, cond, ◌||◌, false≢true}
use mathlib.Core.List.{List, ◌++◌}
use Prim.Native.Nat.{ℕ, ◌+◌, ◌≤◌}
use native.Mathlib.Omega.{arith}
use lib.ListN.{length, get_or}
use Rattle.common.specs.Lists.{some}
use Rattle.interrupts.specs.Interrupts as interrupts
use Rattle.serial.specs.Layout.{port_of}
use Rattle.interrupts.specs.Interrupts.{received_data, transmitter_empty, is_high}
use Rattle.serial.specs.Port.{Port, active, line}
use Rattle.serial_saved.specs.Saved.{saved_of, if_active, raised_again}

-- Once for each of the two that is active, and so twice at most.
counted : (p : Port)
    → (length (raised_again p) ≡ cond (active p transmitter_empty) 1 0 + cond (active p received_data) 1 0) × (length (raised_again p) ≤ 2)
unfolding raised_again
counted p = go (active p transmitter_empty) (active p received_data)
  where
    go : (a b : Bool)
        → let l = if_active a transmitter_empty ++ if_active b received_data in (length l ≡ cond a 1 0 + cond b 1 0) × (length l ≤ 2)
    go true true = (refl, omega arith)
    go true false = (refl, omega arith)
    go false true = (refl, omega arith)
    go false false = (refl, omega arith)

pub at_most_two : (p : Port) → length (raised_again p) ≤ 2
at_most_two p = (counted p).1

-- Where the line is high it is raised.
pub high_raised : (p : Port) → line p ≡ true → 1 ≤ length (raised_again p)
unfolding is_high
high_raised p h = go (active p received_data) (active p transmitter_empty) h (counted p).0
  where
    go : (b a : Bool) → (b || a) ≡ true → {n : ℕ} → n ≡ cond a 1 0 + cond b 1 0 → 1 ≤ n
    go true true h e = omega arith
    go true false h e = omega arith
    go false true h e = omega arith
    go false false h e = absurd (false≢true h)

-- IER lies at 1, IIR at 2.
pub as_raised : (saved : List ℕ) (waits : Bool) (r : ℕ) → r ≡ interrupts.raised_again (get_or saved 1 0) (get_or saved 2 0) waits
    → (waiting : List ℕ) → some waiting ≡ waits → r ≡ length (raised_again (saved_of saved waiting))
unfolding saved_of port_of
as_raised saved waits r e waiting w =
    e ∙ ap (λ (b : Bool). interrupts.raised_again (get_or saved 1 0) (get_or saved 2 0) b) (sym w) ∙ sym (counted (saved_of saved waiting)).0
