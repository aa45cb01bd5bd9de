-- One line has one answer: what the clock says and what it comes to depends on its words, the time, what is counted and what is kept.
use Prim.Native.Nat.{ℕ}
use mathlib.Core.Path.{◌≡◌, refl, sym, ap, ◌∙◌}
use mathlib.Core.Bool.{Bool, true, false, cond, ◌&&◌, false≢true}
use mathlib.Core.List.{List, [], ◌∷◌}
use Rattle.std.specs.Prelude.{Option, Some, None}
use borrow.Author.Tests.{eqb-true}
use lib.Dec.{eqb}
use lib.ListN.{get_or, drop}
use Rattle.common.proofs.Booleans.{told_once}
use Rattle.clock.specs.Layout.{Words, Inits, spare_of, spare_is_zero}
use Rattle.clock.proofs.Words.{same_words}
use Rattle.counters.specs.Counters as counters
use Rattle.words.specs.Decimal.{number_of}
use Rattle.words.specs.Pattern.{fits_of, begins_like}
use Rattle.words.specs.Text.{text}
use Rattle.clock_lines.specs.declared.Clocks.{Clocks}
use Rattle.clock_lines.specs.Answers.{Asks, Answers, Tells, asks, asks_clock, asks_saved, asks_kept, asks_time, offset_in, bytes_in, words_in, says, restore_says, is_save, counted_then, read, write, set_time, show_state, show_counters, save, restore, nothing}

-- The same clock, of two memories.
pub record SameClock (clocks clocks' : Clocks) : Type 0 where
  pub words : clocks.clock ≡ clocks'.clock
  pub time : clocks.time ≡ clocks'.time
  pub counted : counters.clock_of clocks.counters ≡ counters.clock_of clocks'.counters

-- The same is kept, or nothing is, by both.
pub record SameKept (clocks clocks' : Clocks) : Type 0 where
  pub kept : clocks.kept ≡ clocks'.kept

-- ---- What is asked for, and what is said

saved_once : (line : List ℕ) {clocks clocks' : Clocks} → SameKept clocks clocks' → asks_saved clocks line ≡ asks_saved clocks' line
unfolding asks_saved
saved_once line k =
    ap (λ (kept : Option (List ℕ)). cond (fits_of (text "save") line) save
    (cond (fits_of (text "restore") line) (asks_kept kept)
    (cond (fits_of (text "restore LLLLLLLL OOOOOOOOOOOOOOOO MMMMMMMM KKKKKKKK RRRRRRRR") line) (restore (words_in line)) nothing))) k.kept

clock_once : (line : List ℕ) {clocks clocks' : Clocks} → SameKept clocks clocks' → asks_clock clocks line ≡ asks_clock clocks' line
unfolding asks_clock
clock_once line e =
    ap (λ (a : Asks). cond (fits_of (text "r OOOO BBBBBBBB") line) (read (offset_in line) (bytes_in line))
    (cond (fits_of (text "w OOOO BBBBBBBB") line) (write (offset_in line) (bytes_in line))
    (cond (begins_like (text "now ") line) (asks_time (number_of (drop 4 line))) (cond (fits_of (text "state") line) show_state a)))) (saved_once line e)

pub asks_once : (line : List ℕ) {clocks clocks' : Clocks} → SameKept clocks clocks' → asks clocks line ≡ asks clocks' line
unfolding asks
asks_once line e = ap (λ (a : Asks). cond (fits_of (text "counters") line) show_counters a) (clock_once line e)

-- ---- What it comes to

pub none_kept : {clocks clocks' : Clocks} → clocks.kept ≡ None → clocks'.kept ≡ None → SameKept clocks clocks'
none_kept e f = record { kept = e ∙ sym f }

-- A clock that is named leaves what is kept.
pub named_kept : {clocks clocks' : Clocks} (clocks₁ clocks₁' : Clocks) → SameKept clocks clocks' → clocks₁.kept ≡ clocks.kept
    → clocks₁'.kept ≡ clocks'.kept → SameKept clocks₁ clocks₁'
named_kept clocks₁ clocks₁' k e f = record { kept = e ∙ k.kept ∙ sym f }

both_zero : (a b : ℕ) → (eqb a 0 && eqb b 0) ≡ true → (a ≡ 0) × (b ≡ 0)
both_zero a b = go (eqb a 0) refl
  where
    go : (x : Bool) → eqb a 0 ≡ x → (x && eqb b 0) ≡ true → (a ≡ 0) × (b ≡ 0)
    go true e f = (eqb-true a 0 e, eqb-true b 0 f)
    go false e f = absurd (false≢true f)

zero_spare : (words : List ℕ) → spare_is_zero words ≡ true → spare_of words ≡ 0 ∷ 0 ∷ []
unfolding spare_is_zero spare_of
zero_spare words e = let z = both_zero (get_or words 6 0) (get_or words 7 0) e in rw (z.0, z.1) refl

pub fresh_once : {clocks clocks' : Clocks} → Words clocks.clock → Words clocks'.clock → Inits clocks.clock → Inits clocks'.clock
    → clocks.time ≡ 0 → clocks'.time ≡ 0 → counters.clock_of clocks.counters ≡ counters.fresh_clock
    → counters.clock_of clocks'.counters ≡ counters.fresh_clock → SameClock clocks clocks'
fresh_once {clocks} {clocks'} w v i j t u c d = record {
  words =
      same_words clocks.clock clocks'.clock w v (i.clock ∙ sym j.clock)
      (zero_spare clocks.clock i.spare ∙ sym (zero_spare clocks'.clock j.spare));
  time = t ∙ sym u;
  counted = c ∙ sym d;
}

module _ {clocks clocks' : Clocks} (s : SameClock clocks clocks') where
  says_once : (asked : Asks) (a b : Bool) → Tells asked a → Tells asked b → says asked clocks a ≡ says asked clocks' b
  says_once (read offset bytes) a b t u = rw (s.words, s.time) refl
  says_once (write offset bytes) a b t u = rw (s.words, s.time) refl
  says_once (set_time time) a b t u = refl
  says_once show_state a b t u = rw s.words refl
  says_once show_counters a b t u = rw s.counted refl
  says_once save a b t u = rw s.words refl
  says_once (restore saved) a b t u = ap (λ (x : Bool). restore_says x) (told_once a b t u)
  says_once nothing a b t u = refl

  counted_then_lem : (asked : Asks) → counted_then asked clocks (counters.clock_of clocks.counters)
      ≡ counted_then asked clocks' (counters.clock_of clocks'.counters)
  counted_then_lem (read offset bytes) = rw (s.words, s.time, s.counted) refl
  counted_then_lem (write offset bytes) = rw (s.words, s.time, s.counted) refl
  counted_then_lem (set_time time) = s.counted
  counted_then_lem show_state = s.counted
  counted_then_lem show_counters = s.counted
  counted_then_lem save = s.counted
  counted_then_lem (restore saved) = s.counted
  counted_then_lem nothing = s.counted

  module _ {asked : Asks} {clocks₁ clocks₁' : Clocks} {out out₁ out' out₁' : List ℕ}
      (a : Answers asked clocks out clocks₁ out₁) (b : Answers asked clocks' out' clocks₁' out₁') where
    pub answers_said : says asked clocks a.reached ≡ says asked clocks' b.reached
    answers_said = says_once asked a.reached b.reached a.tells b.tells

    pub answers_kept : SameKept clocks clocks' → SameKept clocks₁ clocks₁'
    answers_kept k = record { kept = a.kept ∙ go (is_save asked) ∙ sym b.kept }
      where
        go : (saves : Bool) → cond saves (Some clocks.clock) clocks.kept ≡ cond saves (Some clocks'.clock) clocks'.kept
        go true = ap (λ (words : List ℕ). Some words) s.words
        go false = k.kept

    pub answers_clock : Words clocks₁.clock → Words clocks₁'.clock → SameClock clocks₁ clocks₁'
    answers_clock w v = record {
      words =
          same_words clocks₁.clock clocks₁'.clock w v
          (a.clock ∙ rw (s.words, s.time) refl ∙ sym b.clock)
          (a.spare ∙ rw s.words refl ∙ sym b.spare);
      time = a.time ∙ rw s.time refl ∙ sym b.time;
      counted = a.counted ∙ counted_then_lem asked ∙ sym b.counted;
    }
