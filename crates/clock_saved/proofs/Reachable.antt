-- Every clock that a run from a fresh one reaches is `Reachable`.
use Rattle.std.proofs.Common.{ℕ, ◌-◌, ◌%◌, ◌^◌, ◌<◌, List, [], ◌∷◌, refl, arith, lit<}
use lib.Bits.{and_zero_l}
use Rattle.common.specs.Bytes.{value_of}
use Rattle.common.proofs.Bytes.{value_small}
use Rattle.clock.specs.Registers.{Clock, fresh}
use Rattle.clock.specs.Runs.{Access, read, write, next, after, All}
use Rattle.clock.proofs.Registers.{write_cases}
use Rattle.clock_saved.specs.Reachable.{Fits, InRange, Reachable}

four_bytes : {time offset : ℕ} {bytes : List ℕ} → Fits time offset bytes → value_of bytes < 2 ^ 32
four_bytes {bytes = bytes} f = rw f.four at (value_small bytes f.small)

pub step_reachable : (c : Clock) (a : Access) → InRange a → Reachable c → Reachable (next c a)
unfolding next
step_reachable c (read time offset bytes) f k = k
step_reachable c (write time offset bytes) f k =
    let v = four_bytes f in
    write_cases c time offset (value_of bytes) Reachable
    (λ _. record { mr = v; lr = k.lr; imsc = k.imsc; ris = k.ris; set = k.set })
    (λ _. record { mr = k.mr; lr = v; imsc = k.imsc; ris = k.ris; set = (time % 2 ^ 32, omega arith, refl) })
    (λ _ _. record { mr = k.mr; lr = lit< tt; imsc = k.imsc; ris = k.ris; set = (0, lit< tt, refl) })
    (λ _. record { mr = k.mr; lr = k.lr; imsc = omega arith; ris = k.ris; set = k.set })
    (λ _. record { mr = k.mr; lr = k.lr; imsc = k.imsc; ris = rw k.ris (and_zero_l (2 ^ 32 - 1 - value_of bytes)); set = k.set })
    k

pub fresh_reachable : Reachable fresh
unfolding fresh
fresh_reachable = record { mr = lit< tt; lr = lit< tt; imsc = lit< tt; ris = refl; set = (0, lit< tt, refl) }

pub run_reachable : (c : Clock) (run : List Access) → All InRange run → Reachable c → Reachable (after c run)
run_reachable c [] f k = k
run_reachable c (a ∷ run) f k = run_reachable (next c a) run f.1 (step_reachable c a f.0 k)
