-- Which writes reset the machine, and for which commands the manual answers otherwise.
use mathlib.Core.Path.{◌≡◌, refl}
use mathlib.Core.Bool.{Bool, true, false, ◌&&◌, ◌||◌, false≢true}
use mathlib.Core.List.{List, [], ◌∷◌}
use Prim.Native.Nat.{ℕ, ◌<◌}
use lib.Dec.{eqb}
use borrow.Author.Tests.{eq-eqb, ne_eqb, eqb-true}
use Rattle.common.proofs.EveryByte.{same_test}
use Rattle.i8042.specs.I8042.{command_port, manual_resets, device_resets, write_resets, other_pulse}

-- Of the 256 commands the device resets on 0xfe alone.
pub only_fe : (v : ℕ) → v < 256 → device_resets v ≡ eqb v 0xfe
unfolding device_resets
only_fe = same_test device_resets (λ v. eqb v 0xfe) tt

-- Writing 0xfe to the command port resets; and where a write resets, it is that one.
pub fe_resets : write_resets command_port 0xfe ≡ true
unfolding write_resets device_resets
fe_resets = refl

pub resets_means : (offset value : ℕ) → value < 256 → write_resets offset value ≡ true → (offset ≡ command_port) × (value ≡ 0xfe)
unfolding write_resets
resets_means offset value byte r = go (eqb offset command_port) refl (rw (only_fe value byte) at r)
  where
    go : (t : Bool) → eqb offset command_port ≡ t → (t && eqb value 0xfe) ≡ true → (offset ≡ command_port) × (value ≡ 0xfe)
    go true e h = (eqb-true _ _ e, eqb-true _ _ h)
    go false e h = absurd (false≢true h)

-- What the code answers at the command port, and elsewhere, by the one test and the other.
pub at_command_port : (offset value : ℕ) → value < 256 → offset ≡ command_port → eqb value 0xfe ≡ write_resets offset value
unfolding write_resets
at_command_port offset value byte h = rw (eq-eqb _ _ h, only_fe value byte)

pub elsewhere : (offset value : ℕ) → (offset ≡ command_port → ⊥) → eqb offset command_port ≡ write_resets offset value
unfolding write_resets
elsewhere offset value h = rw (ne_eqb _ _ h)

-- The row is exact: the manual resets on the device's command and on those of the row, and no command is both.
pub manual_is : (v : ℕ) → v < 256 → manual_resets v ≡ (device_resets v || other_pulse v)
unfolding device_resets manual_resets
manual_is = same_test manual_resets (λ v. device_resets v || other_pulse v) tt

pub never_both : (v : ℕ) → v < 256 → (device_resets v && other_pulse v) ≡ false
unfolding device_resets
never_both = same_test (λ v. device_resets v && other_pulse v) (λ v. false) tt

-- The commands by their numbers. Of the 256 the manual resets on these eight, and seven of them are the row's.
abbrev pub listed : List ℕ → ℕ → Bool
listed [] v = false
listed (command ∷ commands) v = eqb v command || listed commands v

abbrev pub row : List ℕ
row = 0xf0 ∷ 0xf2 ∷ 0xf4 ∷ 0xf6 ∷ 0xf8 ∷ 0xfa ∷ 0xfc ∷ []

pub manual_numbers : (v : ℕ) → v < 256 → manual_resets v ≡ listed (0xfe ∷ row) v
unfolding manual_resets
manual_numbers = same_test manual_resets (listed (0xfe ∷ row)) tt

pub row_numbers : (v : ℕ) → v < 256 → other_pulse v ≡ listed row v
row_numbers = same_test other_pulse (listed row) tt
