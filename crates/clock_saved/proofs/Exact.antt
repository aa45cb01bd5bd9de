-- Every clock that is `Reachable` is reached by a run from a fresh one: the definition says neither too little nor too much.
use Rattle.std.proofs.Common.{◌≡◌, ℕ, ◌%◌, ◌^◌, ◌<◌, ◌↔◌, List, [], ◌∷◌, set, pos, ◌-ℤ◌, sym, refl, ap, ◌∙◌, subst, mod-eq_of_lt, arith, lit<}
use Rattle.common.specs.Bytes.{bytes_of}
use Rattle.common.proofs.Bytes.{bytes_length, bytes_small, value_of_bytes}
use Rattle.clock.specs.Registers.{Clock, fresh, becomes, with_mr, with_lr, with_imsc, write_of}
use Rattle.clock.specs.Layout.{signed, clock_of, spare_of, spare_is_zero, Inits, Writes}
use Rattle.clock.specs.Runs.{Access, write, next, after, All, Result, answers, Called, none, then}
use Rattle.clock.proofs.Registers.{writes_mr, writes_lr, writes_imsc}
use Rattle.clock.proofs.Stores.{stores_mr, stores_imsc}
use Rattle.clock.proofs.Spare.{spare_zero, same_spare}
use Rattle.clock.proofs.Steps.{changes, sets}
use Rattle.clock.proofs.Words.{as_defined, spare_stays}
use Rattle.clock_saved.specs.Reachable.{Fits, InRange, Reached, Reachable, ReachedWords, ReachableWords}
use Rattle.clock_saved.proofs.Reachable.{fresh_reachable, run_reachable}

-- ---- A write of a number

wrote : (c c' : Clock) (time offset v : ℕ) → v < 2 ^ 32 → write_of c time offset v ≡ becomes c'
    → next c (write time offset (bytes_of 4 v)) ≡ c'
unfolding next
wrote c c' time offset v h e = rw (value_of_bytes 4 v h, e)

-- at a second of 32 bits, to one of the registers that lie first
in_range : (time offset v : ℕ) → time < 2 ^ 32 → offset < 0x020 → Fits time offset (bytes_of 4 v)
in_range time offset v t o = record { time64 = omega arith; offset16 = omega arith; four = bytes_length 4 v; small = bytes_small 4 v }

-- ---- The match register, the mask, and last the load register at the second at which its value was shown

way : ℕ → ℕ → ℕ → ℕ → List Access
way mr imsc lr now = write 0 0x004 (bytes_of 4 mr) ∷ write 0 0x010 (bytes_of 4 imsc) ∷ write now 0x008 (bytes_of 4 lr) ∷ []

way_in_range : (mr imsc lr now : ℕ) → now < 2 ^ 32 → All InRange (way mr imsc lr now)
unfolding way
way_in_range mr imsc lr now h =
    (in_range 0 0x004 mr (lit< tt) (lit< tt), (in_range 0 0x010 imsc (lit< tt) (lit< tt), (in_range now 0x008 lr h (lit< tt), tt)))

comes_to : (mr imsc lr now : ℕ) → mr < 2 ^ 32 → imsc < 2 → lr < 2 ^ 32 → now < 2 ^ 32
    → after fresh (way mr imsc lr now) ≡ record { mr = mr; lr = lr; imsc = imsc; ris = 0; ahead = pos lr -ℤ pos now }
unfolding way fresh
comes_to mr imsc lr now m i l n =
    let c₁ = with_mr fresh mr in
    let c₂ = with_imsc c₁ imsc in
    let e₁ : next fresh (write 0 0x004 (bytes_of 4 mr)) ≡ c₁ = wrote fresh _ 0 0x004 mr m (writes_mr fresh 0 0x004 mr refl) in
    let e₂ : next c₁ (write 0 0x010 (bytes_of 4 imsc)) ≡ c₂ =
    wrote c₁ _ 0 0x010 imsc (omega arith) (writes_imsc c₁ 0 0x010 imsc refl) ∙ ap (with_imsc c₁) (mod-eq_of_lt i) in
    let e₃ : next c₂ (write now 0x008 (bytes_of 4 lr)) ≡ with_lr c₂ lr (pos lr -ℤ pos now) =
    wrote c₂ _ now 0x008 lr l (writes_lr c₂ now 0x008 lr refl) ∙ ap (λ (u : ℕ). with_lr c₂ lr (pos lr -ℤ pos u)) (mod-eq_of_lt n) in
    rw (e₁, e₂) e₃

-- Every clock that is reachable is reached ..
pub reached : (c : Clock) → Reachable c → Reached c
reached c k =
    let now = k.set.0 in
    let comes = comes_to _ _ _ now k.mr k.imsc k.lr k.set.1 in
    (way c.mr c.imsc c.lr now, way_in_range _ _ _ now k.set.1, comes ∙ same k.ris k.set.2)
  where
    same : {ris : ℕ} {ahead : _} → c.ris ≡ ris → c.ahead ≡ ahead
        → ◌≡◌ {A = Clock} (record { mr = c.mr; lr = c.lr; imsc = c.imsc; ris = ris; ahead = ahead }) c
    same a b = rw (← a, ← b)

-- .. so the two say the same.
pub exact : (c : Clock) → Reachable c ↔ Reached c
exact c = (reached c, λ r. subst Reachable r.2 (run_reachable fresh r.0 r.1 fresh_reachable))

-- ---- The same of words in memory

-- The words of a fresh clock, and what the first two calls leave of them.
abbrev made : List ℕ
made = 0 ∷ 0 ∷ 0 ∷ 0 ∷ 0 ∷ 0 ∷ 0 ∷ 0 ∷ []

made_fresh : Inits made
unfolding clock_of signed spare_is_zero fresh
made_fresh = record { clock = refl; spare = refl }

writes_then : {words words' words'' : List ℕ} {rest : List Access} {rs : List Result} (time offset v : ℕ) → v < 2 ^ 32
    → Writes (write_of (clock_of words) time offset v) words words' 0 → Called words' rest words'' rs
    → Called words (write time offset (bytes_of 4 v) ∷ rest) words'' (answers v ∷ rs)
writes_then {words} {words'} time offset v h w more =
    then {words = words} {words' = words'} {a = write time offset (bytes_of 4 v)} {r = answers v} (refl, rw (value_of_bytes 4 v h) w) more

module _ (words : List ℕ) (k : ReachableWords words) where
  abbrev c : Clock
  c = clock_of words

  abbrev second : ℕ
  second = k.clock.set.0

  abbrev matched : List ℕ
  matched = set made 1 c.mr

  abbrev masked : List ℕ
  masked = set matched 2 (c.imsc % 2)

  -- The third call leaves the rest.
  left : Writes (becomes (with_lr (clock_of masked) c.lr c.ahead)) masked words 0
  unfolding clock_of spare_of
  left = record { clock = rw (mod-eq_of_lt k.clock.imsc, k.clock.ris); spare = spare_zero words k.spare; answer = refl }

  called : Called made (way c.mr c.imsc c.lr second) words (answers c.mr ∷ answers c.imsc ∷ answers c.lr ∷ [])
  unfolding way
  called =
      writes_then 0 0x004 c.mr k.clock.mr (changes (writes_mr (clock_of made) 0 0x004 c.mr refl) (stores_mr made refl c.mr))
      (writes_then 0 0x010 c.imsc (omega (arith, k.clock.imsc))
      (changes (writes_imsc (clock_of matched) 0 0x010 c.imsc refl) (stores_imsc matched refl (c.imsc % 2)))
      (writes_then second 0x008 c.lr k.clock.lr
      (sets masked second 0x008 c.lr refl (sym (mod-eq_of_lt k.clock.set.1)) k.clock.set.2 left)
      none))

pub words_exact : (words : List ℕ) → ReachableWords words ↔ ReachedWords words
words_exact words = (come, only)
  where
    come : ReachableWords words → ReachedWords words
    come k = let c = clock_of words in record {
      made = made;
      run = way c.mr c.imsc c.lr k.clock.set.0;
      results = answers c.mr ∷ answers c.imsc ∷ answers c.lr ∷ [];
      inits = made_fresh;
      in_range = way_in_range _ _ _ _ k.clock.set.1;
      called = called words k;
    }

    only : ReachedWords words → ReachableWords words
    only r =
        let comes : clock_of words ≡ after fresh r.run = (as_defined r.called).1
        ∙ ap (λ (c : Clock). after c r.run) r.inits.clock in
        record {
          clock = rw comes (run_reachable fresh r.run r.in_range fresh_reachable);
          spare = same_spare words r.made (spare_stays r.called) ∙ r.inits.spare;
        }
