-- Seconds that pass: for a clock that stands they need not be counted.
use Prim.Native.Nat.{ℕ, zero, suc}
use mathlib.Core.Path.{◌≡◌, refl}
use mathlib.Core.Bool.{Bool, true, false, cond}
use Rattle.pl031.specs.Chip.{Chip, second, chip_does, ticks}
use Rattle.manual_lists.specs.Clock.{seconds, passes}

standing : (c : Chip) → c.running ≡ false → (chip_does c second).chip ≡ c
unfolding chip_does ticks
standing c stands = rw stands

stays : (n : ℕ) (c : Chip) → c.running ≡ false → seconds n c ≡ c
stays zero c stands = refl
stays (suc n) c stands = rw (standing c stands, stays n c stands)

pub passing : (n : ℕ) (c : Chip) → passes n c ≡ seconds n c
passing n c = go c.running refl
  where
    go : (runs : Bool) → c.running ≡ runs → cond runs (seconds n c) c ≡ seconds n c
    go true e = refl
    go false e = rw (stays n c e)
