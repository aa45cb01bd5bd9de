-- One counter, and what the stores into memory leave: the numbers are taken apart, and each law computes.
use mathlib.Core.Path.{◌≡◌, refl}
use mathlib.Core.Bool.{Bool, true, false}
use mathlib.Core.List.{List, [], ◌∷◌}
use Prim.Native.Nat.{ℕ, ◌+◌, ◌≤◌, min}
use Rattle.std.specs.Int.{from_bool}
use native.Mathlib.Omega.{arith}
use lib.ListN.{length, get_or, set}
use Rattle.common.specs.Answer.{refused_bit, sent_bit, data_read_bit, none_left_bit}
use Rattle.common.specs.Bits.{on}
use Rattle.counters.specs.Counters.{most, counted, answered, lost, serial_after, serial_of}
use Rattle.counters.specs.Counters.{read, write, clock_after, clock_of}

-- ---- One counter

pub stops : (n : ℕ) (happened : Bool) → n ≤ most → min (n + from_bool happened) most ≡ counted n happened
unfolding counted
stops n true h = refl
stops n false h = omega arith

-- ---- The serial port's four numbers

four_are : (P : List ℕ → Type 0) → ((a b c d : ℕ) → P (a ∷ b ∷ c ∷ d ∷ [])) → (l : List ℕ) → length l ≡ 4 → P l
four_are P t (a ∷ b ∷ c ∷ d ∷ []) n = t a b c d
four_are P t [] n = absurd (omega arith)
four_are P t (a ∷ []) n = absurd (omega arith)
four_are P t (a ∷ b ∷ []) n = absurd (omega arith)
four_are P t (a ∷ b ∷ c ∷ []) n = absurd (omega arith)
four_are P t (a ∷ b ∷ c ∷ d ∷ e ∷ l) n = absurd (omega arith)

module _ (l : List ℕ) (n : length l ≡ 4) where
  pub serial_counts : (word : ℕ) {t u v : Bool} {reads sent empty : ℕ}
      → t ≡ on word data_read_bit → reads ≡ counted (get_or l 0 0) t
      → u ≡ on word sent_bit → sent ≡ counted (get_or (set l 0 reads) 1 0) u
      → v ≡ on word none_left_bit → empty ≡ counted (get_or (set (set l 0 reads) 1 sent) 3 0) v
      → serial_of (set (set (set l 0 reads) 1 sent) 3 empty) ≡ serial_after (serial_of l) (answered word)
  unfolding serial_of serial_after counted
  serial_counts word {t} {u} {v} {reads} {sent} {empty} d e f g h i =
      four_are
      (λ l. reads ≡ counted (get_or l 0 0) t → sent ≡ counted (get_or (set l 0 reads) 1 0) u
      → empty ≡ counted (get_or (set (set l 0 reads) 1 sent) 3 0) v
      → serial_of (set (set (set l 0 reads) 1 sent) 3 empty) ≡ serial_after (serial_of l) (answered word))
      (λ _ _ _ _ e g i. rw (e, g, i, d, f, h)) l n e g i

  pub serial_loses : {more : ℕ} → more ≡ counted (get_or l 2 0) true → serial_of (set l 2 more) ≡ serial_after (serial_of l) lost
  unfolding serial_of serial_after counted
  serial_loses e =
      rw e
      (four_are (λ l. serial_of (set l 2 (counted (get_or l 2 0) true)) ≡ serial_after (serial_of l) lost) (λ _ _ _ _. refl) l n)

-- ---- The clock's two

two_are : (P : List ℕ → Type 0) → ((a b : ℕ) → P (a ∷ b ∷ [])) → (l : List ℕ) → length l ≡ 2 → P l
two_are P t (a ∷ b ∷ []) n = t a b
two_are P t [] n = absurd (omega arith)
two_are P t (a ∷ []) n = absurd (omega arith)
two_are P t (a ∷ b ∷ c ∷ l) n = absurd (omega arith)

module _ (l : List ℕ) (n : length l ≡ 2) where
  module _ (word : ℕ) {t : Bool} {more : ℕ} (d : t ≡ on word refused_bit) where
    pub counts_read : more ≡ counted (get_or l 0 0) t → clock_of (set l 0 more) ≡ clock_after (clock_of l) (read word)
    unfolding clock_of clock_after counted
    counts_read e =
        rw (e, d)
        (two_are
        (λ l. clock_of (set l 0 (counted (get_or l 0 0) (on word refused_bit))) ≡ clock_after (clock_of l) (read word))
        (λ _ _. refl) l n)

    pub counts_write : more ≡ counted (get_or l 1 0) t → clock_of (set l 1 more) ≡ clock_after (clock_of l) (write word)
    unfolding clock_of clock_after counted
    counts_write e =
        rw (e, d)
        (two_are
        (λ l. clock_of (set l 1 (counted (get_or l 1 0) (on word refused_bit))) ≡ clock_after (clock_of l) (write word))
        (λ _ _. refl) l n)
