-- Laws of `fits_of`, for a search that goes along a line and a pattern.
use Prim.Native.Nat.{ℕ, suc, ◌<◌}
use mathlib.Core.Path.{◌≡◌, refl, sym, ap, ◌∙◌}
use mathlib.Core.Bool.{Bool, true, false, true≢false, ◌&&◌}
use mathlib.Core.List.{List, [], ◌∷◌}
use native.Mathlib.Decide.{ℕ_discrete}
use native.Mathlib.Omega.{arith}
use lib.ListN.{length, take, length-take}
use Rattle.std.specs.List.{list_all, zip}
use Rattle.words.specs.Pattern.{fits_of, begins_like, stands_for}

-- a line of another length does not fit
pub other_length : (pattern line : List ℕ) → (length line ≡ length pattern → ⊥) → fits_of pattern line ≡ false
unfolding fits_of
other_length [] [] h = absurd (h refl)
other_length [] (c ∷ line) h = refl
other_length (p ∷ pattern) [] h = refl
other_length (p ∷ pattern) (c ∷ line) h = after (stands_for p c) (other_length pattern line (λ e. h (ap suc e)))
  where
    after : (b : Bool) → fits_of pattern line ≡ false → b && fits_of pattern line ≡ false
    after true e = e
    after false e = refl

pub same_length : (pattern line : List ℕ) → fits_of pattern line ≡ true → length line ≡ length pattern
same_length pattern line f = go (ℕ_discrete (length line) (length pattern))
  where
    go : Dec (length line ≡ length pattern) → length line ≡ length pattern
    go (yes e) = e
    go (no n) = absurd (true≢false (sym f ∙ other_length pattern line n))

-- a line of the same length fits where each of its characters does
pub each_fits : (pattern line : List ℕ) → length line ≡ length pattern → list_all (λ (pair : ℕ × ℕ). stands_for pair.0 pair.1) (zip pattern line) ≡ fits_of pattern line
unfolding fits_of
each_fits [] [] h = refl
each_fits [] (c ∷ line) h = absurd (omega arith)
each_fits (p ∷ pattern) [] h = absurd (omega arith)
each_fits (p ∷ pattern) (c ∷ line) h = ap (λ (b : Bool). stands_for p c && b) (each_fits pattern line (omega arith))

-- ---- The beginning of a line

pub shorter : (pattern line : List ℕ) → length line < length pattern → false ≡ begins_like pattern line
unfolding begins_like
shorter pattern line h =
    sym (other_length pattern (take (length pattern) line) (λ e. let l = length-take (length pattern) line in omega arith))
