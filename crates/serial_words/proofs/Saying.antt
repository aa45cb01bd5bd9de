-- What the parts of an answer say.
use Rattle.std.proofs.Common.{◌≡◌, ℕ, zero, suc, ◌+◌, ◌-◌, ◌/◌, ◌%◌, ◌≤◌, ◌<◌, min, true, false, List, [], ◌∷◌, ◌++◌, length, get_or, take, drop, take_all, refl, sym, ap, ◌∙◌, append_assoc, append-nil, arith}
use native.Mathlib.Nat.{mod-mod, mod-eq_of_lt, min-eq_left, min-eq_right}
use native.Mathlib.Decide.{dec_le}
use lib.Seq.{drop-cons}
use Rattle.std.proofs.lemmas.Grind.{flat_map-append}
use borrow.Author.Tests.{ne_eqb}
use Rattle.common.specs.Answer.{one_raise}
use Rattle.serial_words.specs.Inside.{brought_part}
use Rattle.std.specs.List.{flat_map}
use Rattle.std.proofs.lemmas.List.{flat_map_more, take_more}
use Rattle.common.specs.Lists.{some}
use Rattle.ring.specs.Ring.{queue}
use Rattle.ring.proofs.Laws.{queue_length, queue_round, queue_split}
use Rattle.serial.specs.Layout.{places, port_of}
use Rattle.words.specs.Decimal.{decimal_of}
use Rattle.words.specs.Hex.{digits_of}
use Rattle.words.specs.Text.{text}
use Rattle.words.proofs.Saying.{both, instead}
use Rattle.serial_words.specs.Said.{bytes_say, next_byte, registers_say, waiting_say, port_says}

-- ---- The parts of a word

pub unreached : (n : ℕ) → (n ≡ 0x1_0000 → ⊥) → (n / 0x4_0000 % 2 ≡ 1 → ⊥)
    → brought_part n ≡ text "restore " ++ decimal_of (n / one_raise) ++ text " unreached\n"
unreached n h e = rw (ne_eqb n 0x1_0000 h, ne_eqb (n / 0x4_0000 % 2) 1 e) refl

-- ---- Bytes that wait

spelled : (bytes : List ℕ) → flat_map digits_of bytes ≡ bytes_say bytes
unfolding bytes_say
spelled [] = refl
spelled (byte ∷ bytes) = ap (λ (l : List ℕ). digits_of byte ++ l) (spelled bytes)

-- bytes that do not go round
straight : (ring : List ℕ) (start n : ℕ) → length ring ≡ places → start + n ≤ places → take n (drop start ring) ≡ queue places ring start n
unfolding queue
straight ring start zero l h = refl
straight ring start (suc n) l h =
    let here : start % places ≡ start = mod-eq_of_lt (omega arith) in
    let next : start + 1 ≡ suc start = omega arith in
    rw (drop-cons ring start 0 (omega (arith, l)), here, ← straight ring (start + 1) n l (omega arith), next) refl

-- and those that do lie in the first places
round : (ring : List ℕ) (start n : ℕ) → length ring ≡ places → n ≤ places → start ≡ places → take n ring ≡ queue places ring start n
round ring start n l h e = rw e (straight ring 0 n l (omega arith) ∙ queue_round places ring 0 places n refl)

-- up to the ring's end, and what has gone round
pub in_two_parts : (ring : List ℕ) (start count : ℕ) {first : ℕ} → length ring ≡ places → start < places → count ≤ places
    → first ≡ min count (places - start)
    → flat_map digits_of (take (start + first - start) (drop start ring)) ++ flat_map digits_of (take (count - first) ring)
    ≡ bytes_say (queue places ring start count)
in_two_parts ring start count {first} l s h e = go (dec_le (start + count) places)
  where
    go : Dec (start + count ≤ places) → flat_map digits_of (take (start + first - start) (drop start ring)) ++ flat_map digits_of (take (count - first) ring)
        ≡ bytes_say (queue places ring start count)
    go (yes room) =
        let all : first ≡ count = e ∙ min-eq_left (omega arith) in
        let front : start + count - start ≡ count = omega arith in
        let none : count - count ≡ 0 = omega arith in
        rw (all, front, none, straight ring start count l room) (append-nil _ ∙ spelled _)
    go (no over) =
        let few : first ≡ places - start = e ∙ min-eq_right (omega arith) in
        let front : start + first - start ≡ first = omega arith in
        let all : first + (count - first) ≡ count = omega arith in
        let whole : queue places ring start count ≡ queue places ring start first ++ queue places ring (start + first) (count - first) =
        rw all at (queue_split places ring start first (count - first)) in
        rw (front, straight ring start first l (omega arith), round ring (start + first) (count - first) l (omega arith) (omega arith), whole)
        (sym (flat_map-append digits_of _ _) ∙ spelled _)

none_in : (ring : List ℕ) (start n : ℕ) → n ≡ 0 → some (queue places ring start n) ≡ false
unfolding queue
none_in ring start n e = rw e refl

some_in : (ring : List ℕ) (start n : ℕ) → (n ≡ 0 → ⊥) → some (queue places ring start n) ≡ true
unfolding queue
some_in ring start zero h = absurd (h refl)
some_in ring start (suc n) h = refl

pub none_wait : (ring : List ℕ) (start n : ℕ) → n ≡ 0 → waiting_say (queue places ring start n) ≡ text " " ++ decimal_of n ++ text " -\n"
none_wait ring start n e = rw (queue_length places ring start n, none_in ring start n e) refl

pub some_wait : (ring : List ℕ) (start n : ℕ) → (n ≡ 0 → ⊥)
    → waiting_say (queue places ring start n) ≡ text " " ++ decimal_of n ++ (text " " ++ bytes_say (queue places ring start n) ++ text "\n")
some_wait ring start n h = rw (queue_length places ring start n, some_in ring start n h) refl

-- ---- Registers

-- one more register
pub one_more_shown : (shown : List ℕ) (i : ℕ) → i < length shown
    → flat_map next_byte (take (i + 1) shown) ≡ flat_map next_byte (take i shown) ++ next_byte (get_or shown i 0)
one_more_shown shown i h = sym (flat_map_more next_byte [] (take i shown) (get_or shown i 0) ∙ ap (flat_map next_byte) (sym (take_more shown i 0 h)))

nine_shown : (f : ℕ → List ℕ) (a b c d e g h i j : ℕ)
    → flat_map f (a ∷ b ∷ c ∷ d ∷ e ∷ g ∷ h ∷ i ∷ j ∷ []) ≡ f a ++ f b ++ f c ++ f d ++ f e ++ f g ++ f h ++ f i ++ f j
nine_shown f a b c d e g h i j = simp (append-nil, append_assoc)

-- the nine registers, each behind a space
pub nine_said : (regs pos ring : List ℕ)
    → let shown = get_or regs 0 0 ∷ get_or regs 8 0 ∷ get_or regs 1 0 ∷ get_or regs 2 0 ∷ get_or regs 3 0 ∷ get_or regs 5 0 ∷ get_or regs 4 0 ∷ get_or regs 6 0 ∷ get_or regs 7 0 ∷ [] in
    (i : ℕ) → length shown ≤ i → flat_map next_byte (take i shown) ≡ registers_say (port_of regs pos ring)
unfolding port_of
nine_said regs pos ring i h =
    ap (flat_map next_byte) (take_all i _ h) ∙ nine_shown next_byte (get_or regs 0 0) (get_or regs 8 0) (get_or regs 1 0) (get_or regs 2 0) (get_or regs 3 0) (get_or regs 5 0) (get_or regs 4 0) (get_or regs 6 0) (get_or regs 7 0)

-- a port of which these are the positions: a place beyond the ring goes round, and no more bytes wait than the ring has places
pub port_said : (regs ring : List ℕ) (start count : ℕ) {n : ℕ} (out : List ℕ) {o₁ out' : List ℕ} → n ≡ min count places
    → ((pos ring : List ℕ) → o₁ ≡ out ++ registers_say (port_of regs pos ring))
    → out' ≡ o₁ ++ waiting_say (queue places ring (start % places) n)
    → out' ≡ out ++ port_says (port_of regs (start ∷ count ∷ []) ring)
unfolding port_of
port_said regs ring start count {n} out {o₁} f p q =
    let same : queue places ring (start % places) n ≡ queue places ring start (min count places) =
    rw f (sym (queue_round places ring start (start % places) (min count places) (sym (mod-mod start places)))) in
    both out _ _ (p (start ∷ count ∷ []) ring) (instead o₁ (ap waiting_say same) q)
