-- What a restore says of eight words, by the code's tests.
use Rattle.std.proofs.Common.{◌≡◌, ℕ, ◌+◌, ◌-◌, ◌%◌, ◌^◌, ◌<◌, ◌≤◌, Bool, true, false, ◌&&◌, ◌↔◌, List, get_or, pos, ◌-ℤ◌, sym, refl, ◌∙◌, arith, eqb, leb, ltb, le-ltb, lt-ltb, le-leb, leb-true, eq-eqb, eqb-true}
use native.Mathlib.Decide.{dec_lt}
use Rattle.common.proofs.Booleans.{both_true, both_are}
use mathlib.Core.Bool.{false≢true}
use Rattle.clock.specs.Layout.{Words, joined, signed, clock_of, spare_is_zero}
use Rattle.clock.proofs.Time.{difference_signed}
use Rattle.clock.proofs.Words.{same_bits}
use Rattle.clock_saved.specs.Reachable.{ShowedAt, ReachableWords}

-- ---- The second at which a clock showed a value

-- It is the wrapped difference, if there is one.
module _ (value now bits r : ℕ) (v : value < 2 ^ 32) (n : now < 2 ^ 32) (b : bits < 2 ^ 64) (s : r < 2 ^ 64)
    (wraps : (r + bits) % 2 ^ 64 ≡ value) where
  only_second : signed bits ≡ pos value -ℤ pos now → r ≡ now
  only_second e =
      let difference = (value + 2 ^ 64 - now) % 2 ^ 64 in
      let differs = difference_signed value now difference v n (omega arith) (omega arith) in
      let same : bits ≡ difference = same_bits bits difference b (omega arith) (e ∙ sym differs) in
      omega arith

module _ (value low high : ℕ) (v : value < 2 ^ 32) (l : low < 2 ^ 32) (h : high < 2 ^ 32) {r : ℕ} (s : r < 2 ^ 64)
    (wraps : (r + joined low high) % 2 ^ 64 ≡ value) where
  pub showed_then : r < 2 ^ 32 → (true ≡ true) ↔ ShowedAt (signed (joined low high)) value
  showed_then k = (λ _. (r, k, difference_signed value r (joined low high) v k (omega arith) (omega arith)), λ _. refl)

  pub never_showed : 2 ^ 32 ≤ r → (false ≡ true) ↔ ShowedAt (signed (joined low high)) value
  never_showed k = (
    λ z. absurd (false≢true z),
    λ w. absurd (omega (arith, w.1, only_second value w.0 (joined low high) r v w.1 (omega arith) s wraps w.2)),
  )

  -- The code's test tells it.
  pub told_by_second : (ltb r (2 ^ 32) ≡ true) ↔ ShowedAt (signed (joined low high)) value
  told_by_second = go (dec_lt r (2 ^ 32))
    where
      go : Dec (r < 2 ^ 32) → (ltb r (2 ^ 32) ≡ true) ↔ ShowedAt (signed (joined low high)) value
      go (yes k) = rw (lt-ltb r (2 ^ 32) k) (showed_then k)
      go (no k) = let above : 2 ^ 32 ≤ r = omega arith in rw (le-ltb r (2 ^ 32) above) (never_showed above)

-- ---- Whether eight words are reachable

module _ (saved : List ℕ) where
  abbrev Tells : Bool → Type 0
  Tells r = (r ≡ true) ↔ ReachableWords saved

  -- The mask, the raw status and the spare words.
  abbrev pub quiet : Bool
  quiet = (leb (get_or saved 2 0) 1 && eqb (get_or saved 3 0) 0) && spare_is_zero saved

  pub not_quiet : {t : Bool} → t ≡ quiet → t ≡ false → Tells t
  unfolding clock_of
  not_quiet e f = (λ z. absurd (false≢true (sym f ∙ z)), λ k. absurd (false≢true (sym f ∙ e ∙ is k)))
    where
      is : ReachableWords saved → quiet ≡ true
      is k = both_are (both_are (le-leb _ _ (omega (arith, k.clock.imsc))) (eq-eqb _ _ k.clock.ris)) k.spare

  pub quiet_and_showed : Words saved → {t r : Bool} → t ≡ quiet → t ≡ true
      → (r ≡ true) ↔ ShowedAt (signed (joined (get_or saved 4 0) (get_or saved 5 0))) (get_or saved 0 0) → Tells r
  unfolding clock_of
  quiet_and_showed w e f showed =
      let all = both_true _ _ (sym e ∙ f) in
      let two = both_true _ _ all.0 in
      let mask : get_or saved 2 0 ≤ 1 = leb-true _ _ two.0 in (
        λ z. record {
          clock = record { mr = w.small 1; lr = w.small 0; imsc = omega arith; ris = eqb-true _ _ two.1; set = showed.0 z };
          spare = all.1;
        },
        λ k. showed.1 k.clock.set,
      )
