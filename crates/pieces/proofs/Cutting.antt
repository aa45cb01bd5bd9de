-- What each answer of the cutting is in the definition.
use Prim.Native.Nat.{ℕ, ◌+◌, ◌-◌, ◌≤◌, ◌<◌}
use mathlib.Core.Path.{◌≡◌, refl}
use mathlib.Core.Bool.{Bool, true, false}
use mathlib.Core.List.{List}
use lib.ListN.{length, get_or}
use borrow.Author.Tests.{eq-eqb, ne_eqb, lt-ltb, le-ltb, le-leb, lt-leb}
use Rattle.pieces.specs.Cutting.{longest, kind_of, bytes_from, stop_of, cut_of}
use Rattle.pieces.specs.declared.cut.Kind.{Kind}
use Rattle.pieces.specs.declared.cut.Kind.TheVariants.{Silent, TooLong, Whole}

-- ---- What is to be done with a line

pub is_rest : (line : List ℕ) {passes : Bool} → passes ≡ true → Silent ≡ kind_of line passes
unfolding kind_of
is_rest line p = rw p refl

module _ (line : List ℕ) {passes : Bool} (p : passes ≡ false) where
  pub is_empty : length line ≡ 0 → Silent ≡ kind_of line passes
  unfolding kind_of
  is_empty e = rw (p, eq-eqb _ _ e) refl

  module _ (some : length line ≡ 0 → ⊥) where
    pub is_comment : get_or line 0 0 ≡ 0x23 → Silent ≡ kind_of line passes
    unfolding kind_of
    is_comment e = rw (p, ne_eqb _ _ some, eq-eqb _ _ e) refl

    module _ (other : get_or line 0 0 ≡ 0x23 → ⊥) where
      pub is_too_long : longest < length line → TooLong ≡ kind_of line passes
      unfolding kind_of
      is_too_long h = rw (p, ne_eqb _ _ some, ne_eqb _ _ other, lt-ltb _ _ h) refl

      pub is_whole : length line ≤ longest → Whole ≡ kind_of line passes
      unfolding kind_of
      is_whole h = rw (p, ne_eqb _ _ some, ne_eqb _ _ other, le-ltb _ _ h) refl

-- ---- The next line

module _ (all : List ℕ) (from seen end : ℕ) (passes : Bool) {stop : ℕ} (e : stop ≡ stop_of all seen end) where
  pub ends_here : stop < end → {kind : Kind} → kind ≡ kind_of (bytes_from from stop all) passes
      → record { kind = kind; stop = stop; from = stop + 1; seen = stop + 1; passes = false } ≡ cut_of all from seen end passes
  unfolding cut_of
  ends_here h k = rw (k, ← e, lt-ltb stop end h) refl

  pub goes_on : end ≤ stop → end - from ≤ longest → record { kind = Silent; stop = stop; from = from; seen = end; passes = passes } ≡ cut_of all from seen end passes
  unfolding cut_of
  goes_on h l = rw (← e, le-ltb stop end h, le-leb (end - from) longest l) refl

  pub runs_over : end ≤ stop → longest < end - from → {kind : Kind} → kind ≡ kind_of (bytes_from from end all) passes
      → record { kind = kind; stop = stop; from = end; seen = end; passes = true } ≡ cut_of all from seen end passes
  unfolding cut_of
  runs_over h l k = rw (k, ← e, le-ltb stop end h, lt-leb (end - from) longest l) refl
