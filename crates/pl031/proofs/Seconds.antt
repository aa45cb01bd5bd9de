-- A second of the host's time, and what it does to the number that the device shows: in natural numbers.
use mathlib.Core.Path.{◌≡◌, refl, sym, ap, ◌∙◌}
use mathlib.Core.Bool.{Bool, true, false, true≢false}
use Prim.Native.Nat.{ℕ, suc, ◌+◌, ◌-◌, ◌%◌, ◌^◌, ◌≤◌, ◌<◌}
use native.Mathlib.Omega.{arith}
use native.Mathlib.Decide.{dec_lt}
use lib.Dec.{leb-zero}
use lib.IntN.{ℤ, pos, negsuc, ◌-ℤ◌, +ℤ_comm, -ℤ-+ℤ_cancel}
use borrow.Author.Tests.{lt-ltb, le-ltb}
use Rattle.clock.specs.Registers.{fits32, sum, shown}
use Rattle.clock.proofs.Time.{less, below, shows_sum}

-- ---- What is ahead, as a number up and a number down

-- The sum fits 32 bits, and shows; or the host's time n does.
data Shows (n up down : ℕ) (fits : Bool) (v : ℕ) : Type 0 where
  inside : fits ≡ true → v ≡ n + up - down → down ≤ n + up → n + up < down + 2 ^ 32 → Shows n up down fits v
  under : fits ≡ false → v ≡ n → n + up < down → Shows n up down fits v
  over : fits ≡ false → v ≡ n → down + 2 ^ 32 ≤ n + up → Shows n up down fits v

abbrev ShowsAt : ℕ → ℤ → ℕ → ℕ → Type 0
ShowsAt n ahead up down = Shows n up down (fits32 (sum n ahead)) (shown n ahead)

shows_up : (n k : ℕ) → Dec (n + k < 2 ^ 32) → ShowsAt n (pos k) k 0
unfolding shown
shows_up n k (yes h) = rw (leb-zero (n + k), lt-ltb (n + k) (2 ^ 32) h) (inside refl (omega arith) (omega arith) (omega arith))
shows_up n k (no h) = rw (leb-zero (n + k), le-ltb (n + k) (2 ^ 32) (omega arith)) (over refl refl (omega arith))

shows_down : (n k : ℕ) → n < 2 ^ 32 → Dec (n < suc k) → ShowsAt n (negsuc k) 0 (suc k)
unfolding shown
shows_down n k w (yes h) = rw (below n (suc k) h) (under refl refl (omega arith))
shows_down n k w (no h) = rw (less n (suc k) (omega arith), leb-zero (n - suc k), lt-ltb (n - suc k) (2 ^ 32) (omega arith)) (inside refl (omega arith) (omega arith) (omega arith))

-- ---- The host's next second

data Next (n m : ℕ) : Type 0 where
  steps : m ≡ n + 1 → n + 1 < 2 ^ 32 → Next n m
  wraps : n ≡ 0xffff_ffff → m ≡ 0 → Next n m

next_second : (time : ℕ) → Next (time % 2 ^ 32) ((time + 1) % 2 ^ 32)
next_second time = go (dec_lt (time % 2 ^ 32 + 1) (2 ^ 32))
  where
    go : Dec (time % 2 ^ 32 + 1 < 2 ^ 32) → Next (time % 2 ^ 32) ((time + 1) % 2 ^ 32)
    go (yes h) = steps (omega arith) h
    go (no h) = wraps (omega arith) (omega arith)

-- ---- Where the sum fits before and after the second, or neither, what is shown goes on by one

host_goes_on : {n m : ℕ} → Next n m → m ≡ (n + 1) % 2 ^ 32
host_goes_on (steps e h) = omega arith
host_goes_on (wraps e f) = rw (e, f)

sum_goes_on : {n m : ℕ} (up down : ℕ) → Next n m → down ≤ n + up → n + up < down + 2 ^ 32 → down ≤ m + up → m + up < down + 2 ^ 32
    → m + up - down ≡ (n + up - down + 1) % 2 ^ 32
sum_goes_on up down (steps e h) a b c d = omega arith
sum_goes_on up down (wraps e f) a b c d = omega arith

differs : {A : Type 0} {f g : Bool} → f ≡ true → g ≡ false → f ≡ g → A
differs a b e = absurd (true≢false (sym a ∙ e ∙ b))

goes_on : {n m up down v w : ℕ} {f g : Bool} → Next n m → Shows n up down f v → Shows m up down g w → f ≡ g → w ≡ (v + 1) % 2 ^ 32
goes_on x (inside f v a b) (inside g w c d) e = rw (v, w) (sum_goes_on _ _ x a b c d)
goes_on x (inside f v a b) (under g w c) e = differs f g e
goes_on x (inside f v a b) (over g w c) e = differs f g e
goes_on x (under f v a) (inside g w c d) e = differs g f (sym e)
goes_on x (under f v a) (under g w c) e = rw (v, w) (host_goes_on x)
goes_on x (under f v a) (over g w c) e = rw (v, w) (host_goes_on x)
goes_on x (over f v a) (inside g w c d) e = differs g f (sym e)
goes_on x (over f v a) (under g w c) e = rw (v, w) (host_goes_on x)
goes_on x (over f v a) (over g w c) e = rw (v, w) (host_goes_on x)

-- ---- Elsewhere it does not: from the sum to the host's time, and back

no_under : {n m : ℕ} (up down : ℕ) → Next n m → down ≤ n + up → n + up < down + 2 ^ 32 → m + up < down → m ≡ (n + up - down + 1) % 2 ^ 32
    → ⊥
no_under up down (steps e h) a b c r = omega arith
no_under up down (wraps e f) a b c r = omega arith

no_over : {n m : ℕ} (up down : ℕ) → Next n m → down ≤ n + up → n + up < down + 2 ^ 32 → down + 2 ^ 32 ≤ m + up
    → m ≡ (n + up - down + 1) % 2 ^ 32 → ⊥
no_over up down (steps e h) a b c r = omega arith
no_over up down (wraps e f) a b c r = omega arith

no_return : {n m : ℕ} (up down : ℕ) → Next n m → down ≤ m + up → m + up - down ≡ (n + 1) % 2 ^ 32 → up ≡ down
no_return up down (steps e h) a r = omega arith
no_return up down (wraps e f) a r = omega arith

small : {n m : ℕ} → Next n m → n < 2 ^ 32
small (steps e h) = omega arith
small (wraps e f) = omega arith

leaps : {n m up down v w : ℕ} {f g : Bool} → Next n m → Shows n up down f v → Shows m up down g w → (f ≡ g → ⊥) → w ≡ (v + 1) % 2 ^ 32 → ⊥
leaps x (inside f v a b) (inside g w c d) n r = n (f ∙ sym g)
leaps x (inside f v a b) (under g w c) n r = no_under _ _ x a b c (sym w ∙ rw v at r)
leaps x (inside f v a b) (over g w c) n r = no_over _ _ x a b c (sym w ∙ rw v at r)
leaps x (under f v a) (inside g w c d) n r = let e = no_return _ _ x c (sym w ∙ rw v at r) in omega arith
leaps x (under f v a) (under g w c) n r = n (f ∙ sym g)
leaps x (under f v a) (over g w c) n r = n (f ∙ sym g)
leaps x (over f v a) (inside g w c d) n r = let e = no_return _ _ x c (sym w ∙ rw v at r) in omega (arith, small x)
leaps x (over f v a) (under g w c) n r = n (f ∙ sym g)
leaps x (over f v a) (over g w c) n r = n (f ∙ sym g)

-- ---- Both, of what the device shows
module _ (time : ℕ) where
  abbrev n : ℕ
  n = time % 2 ^ 32

  abbrev m : ℕ
  m = (time + 1) % 2 ^ 32

  pub shown_goes_on : (ahead : ℤ) → fits32 (sum n ahead) ≡ fits32 (sum m ahead) → shown m ahead ≡ (shown n ahead + 1) % 2 ^ 32
  shown_goes_on (pos k) = goes_on (next_second time) (shows_up n k (dec_lt _ _)) (shows_up m k (dec_lt _ _))
  shown_goes_on (negsuc k) = goes_on (next_second time) (shows_down n k (omega arith) (dec_lt _ _)) (shows_down m k (omega arith) (dec_lt _ _))

  pub shown_leaps : (ahead : ℤ) → (fits32 (sum n ahead) ≡ fits32 (sum m ahead) → ⊥) → shown m ahead ≡ (shown n ahead + 1) % 2 ^ 32 → ⊥
  shown_leaps (pos k) = leaps (next_second time) (shows_up n k (dec_lt _ _)) (shows_up m k (dec_lt _ _))
  shown_leaps (negsuc k) = leaps (next_second time) (shows_down n k (omega arith) (dec_lt _ _)) (shows_down m k (omega arith) (dec_lt _ _))

-- ---- A clock that was loaded shows the value; one that is ahead by nothing shows the host's time
pub loaded : (now v : ℕ) → v < 2 ^ 32 → shown now (pos v -ℤ pos now) ≡ v
loaded now v h = shows_sum now _ v (+ℤ_comm (pos now) (pos v -ℤ pos now) ∙ -ℤ-+ℤ_cancel (pos v) (pos now)) h

pub follows : (now : ℕ) → now < 2 ^ 32 → shown now (pos 0) ≡ now
follows now h = shows_sum now (pos 0) now (ap pos (omega arith)) h
