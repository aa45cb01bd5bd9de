-- The word of an answer comes apart again, whatever its bits say.
use mathlib.Core.Path.{◌≡◌, ap, ◌∙◌}
use mathlib.Core.Bool.{Bool, true, false, cond}
use Prim.Native.Nat.{ℕ, ◌+◌, ◌-◌, ◌*◌, ◌/◌, ◌%◌, ◌^◌, ◌≤◌, ◌<◌}
use native.Mathlib.Omega.{arith}
use borrow.Author.Tests.{eq-eqb, ne_eqb}
use lib.Bits.{bit_and, and_high}
use Rattle.common.specs.Answer.{refused_bit, sent_bit, reachable_bit, data_read_bit, delivered_bit, none_left_bit, looped_bit, dropped_bit}
use Rattle.common.specs.Answer.{flushed_bit, one_raise}
use Rattle.common.specs.Bits.{on}

-- A bit as a number.
abbrev pub one : Bool → ℕ
one t = cond t 1 0

weighs : (t : Bool) (weight : ℕ) → (cond t weight 0 ≡ weight * one t) × (one t ≤ 1)
weighs true weight = (omega arith, omega arith)
weighs false weight = (omega arith, omega arith)

-- A number, refused, a byte sent, reachable, data read, delivered, none left, looped, dropped, flushed, and the raises.
module _ (n : ℕ) (r s e d b l i o t : Bool) (m : ℕ) where
  abbrev pub word : ℕ
  word =
      n + (cond r refused_bit 0 + (cond s sent_bit 0 + (cond e reachable_bit 0 + (cond d data_read_bit 0 + (cond b delivered_bit 0 +
      (cond l none_left_bit 0 + (cond i looped_bit 0 + (cond o dropped_bit 0 + (cond t flushed_bit 0 + one_raise * m)))))))))

  pub record Parts (w : ℕ) : Type 0 where
    pub number : w % refused_bit ≡ n
    pub refused : w / refused_bit % 2 ≡ one r
    pub sent : w / sent_bit % 2 ≡ one s
    pub reachable : w / reachable_bit % 2 ≡ one e
    pub data_read : w / data_read_bit % 2 ≡ one d
    pub delivered : w / delivered_bit % 2 ≡ one b
    pub none_left : w / none_left_bit % 2 ≡ one l
    pub looped : w / looped_bit % 2 ≡ one i
    pub dropped : w / dropped_bit % 2 ≡ one o
    pub flushed : w / flushed_bit % 2 ≡ one t
    pub raises : w / one_raise ≡ m

  weighed : word ≡ n + (refused_bit * one r + (sent_bit * one s + (reachable_bit * one e + (data_read_bit * one d + (delivered_bit * one b +
      (none_left_bit * one l + (looped_bit * one i + (dropped_bit * one o + (flushed_bit * one t + one_raise * m)))))))))
  weighed = omega (
    arith,
    (weighs r refused_bit).0,
    (weighs s sent_bit).0,
    (weighs e reachable_bit).0,
    (weighs d data_read_bit).0,
    (weighs b delivered_bit).0,
    (weighs l none_left_bit).0,
    (weighs i looped_bit).0,
    (weighs o dropped_bit).0,
    (weighs t flushed_bit).0,
  )

  small : (one r ≤ 1) × ((one s ≤ 1) × ((one e ≤ 1) × ((one d ≤ 1) × ((one b ≤ 1) × ((one l ≤ 1) × ((one i ≤ 1) × ((one o ≤ 1) × (one t ≤ 1))))))))
  small = ((weighs r 0).1, ((weighs s 0).1, ((weighs e 0).1, ((weighs d 0).1, ((weighs b 0).1, ((weighs l 0).1, ((weighs i 0).1, ((weighs o 0).1, (weighs t 0).1))))))))

  -- Where the number has 16 bits.
  pub parts : (w : ℕ) → w ≡ word → n < refused_bit → Parts w
  parts w same h =
      let k = same ∙ weighed in
      record {
        number = omega (arith, k, small);
        refused = omega (arith, k, small);
        sent = omega (arith, k, small);
        reachable = omega (arith, k, small);
        data_read = omega (arith, k, small);
        delivered = omega (arith, k, small);
        none_left = omega (arith, k, small);
        looped = omega (arith, k, small);
        dropped = omega (arith, k, small);
        flushed = omega (arith, k, small);
        raises = omega (arith, k, small);
      }

-- The same as code asks for it: bit k is 1 in a word.
pub bit_on : (k word : ℕ) (t : Bool) → 0 < 2 ^ k → word / 2 ^ k % 2 ≡ one t → on word (2 ^ (1 + k) - 2 ^ k) ≡ t
bit_on k word t h e = go t (and_high word 1 k ∙ ap (λ (x : ℕ). x * 2 ^ k) e)
  where
    go : (t : Bool) → bit_and word (2 ^ (1 + k) - 2 ^ k) ≡ one t * 2 ^ k → on word (2 ^ (1 + k) - 2 ^ k) ≡ t
    go true a = rw (ne_eqb (bit_and word (2 ^ (1 + k) - 2 ^ k)) 0 (λ z. absurd (omega arith)))
    go false a = rw (eq-eqb (bit_and word (2 ^ (1 + k) - 2 ^ k)) 0 (omega arith))
