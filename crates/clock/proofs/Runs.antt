-- Theorems over runs of the clock: any accesses, at any times, from any state unless a statement says otherwise.
use Rattle.std.proofs.Common.{◌≡◌, ℕ, suc, ◌+◌, ◌-◌, ◌/◌, ◌%◌, ◌^◌, ◌<◌, ◌≤◌, List, [], ◌∷◌, get_or, pos, negsuc, ◌-ℤ◌, sym, refl, ap, ◌∙◌, arith, lit<, le-ltb, lt-ltb, le-leb}
use native.Mathlib.Decide.{dec_lt}
use lib.Bits.{bit_and, and_zero_l}
use borrow.Author.Tests.{lt-leb}
use Rattle.common.specs.Bytes.{value_of}
use Rattle.clock.specs.Registers.{Clock, fresh, says, becomes, ids, sum, shown, with_lr, read_of, write_of}
use Rattle.clock.specs.Layout.{refusal}
use Rattle.clock.specs.Runs.{Access, read, write, result_of, next, after, answers, All, KeepsTime, CannotWrite, seen}
use Rattle.clock.proofs.Time.{less, below, minus, shows_sum, shows_now_above, shows_now_below}
use Rattle.clock.proofs.Registers.{write_cases, reads_dr, reads_imsc, reads_ris, reads_mis, reads_id, writes_lr, writes_cr}
use Rattle.clock.proofs.Registers.{writes_imsc, writes_nothing}

-- ---- One access, by the definition's rules

answered : (c : Clock) (time offset v : ℕ) (bytes : List ℕ) → read_of c time offset ≡ says v
    → result_of c (read time offset bytes) ≡ answers v
unfolding result_of
answered c time offset v bytes e = rw e

becomes_next : (c c' : Clock) (time offset : ℕ) (bytes : List ℕ) → write_of c time offset (value_of bytes) ≡ becomes c'
    → next c (write time offset bytes) ≡ c'
unfolding next
becomes_next c c' time offset bytes e = rw e

-- ---- What every access keeps, a run keeps

kept : (P : Clock → Type 0) (Q : Access → Type 0) → ((c : Clock) (a : Access) → Q a → P c → P (next c a))
    → (c : Clock) (run : List Access) → All Q run → P c → P (after c run)
kept P Q k c [] q p = p
kept P Q k c (a ∷ run) q p = kept P Q k (next c a) run q.1 (k c a q.0 p)

-- ---- A clock that was set

keeps_ahead : (c : Clock) (a : Access) → KeepsTime a → (next c a).ahead ≡ c.ahead
unfolding next
keeps_ahead c (read time offset bytes) k = refl
keeps_ahead c (write time offset bytes) k =
    write_cases c time offset (value_of bytes) (λ c'. c'.ahead ≡ c.ahead)
    (λ _. refl) (λ e. absurd (k.0 e)) (λ e f. absurd (k.1 e f)) (λ _. refl) (λ _. refl) refl

-- However many accesses that do not set the clock lie between.
pub ahead_stays : (c : Clock) (run : List Access) → All KeepsTime run → (after c run).ahead ≡ c.ahead
ahead_stays c run k = kept (λ c'. c'.ahead ≡ c.ahead) KeepsTime (λ c' a q p. keeps_ahead c' a q ∙ p) c run k refl

sum_from : (v t u : ℕ) → t ≤ v + u → sum u (pos v -ℤ pos t) ≡ pos (v + u - t)
sum_from v t u h = go (dec_lt v t)
  where
    go : Dec (v < t) → sum u (pos v -ℤ pos t) ≡ pos (v + u - t)
    go (yes k) = rw (minus v t ∙ below v t k) (less u _ (omega arith) ∙ ap pos (omega arith))
    go (no k) = rw (minus v t ∙ less v t (omega arith)) (ap pos (omega arith))

sum_negative : (v t u : ℕ) → v + u < t → sum u (pos v -ℤ pos t) ≡ negsuc (t - v - suc u)
sum_negative v t u h = rw (minus v t ∙ below v t (omega arith)) (below u _ (omega arith) ∙ ap negsuc (omega arith))

-- The three cases of what is seen.
module _ (v t u : ℕ) where
  pub seen_on : t ≤ v + u → v + u - t < 2 ^ 32 → seen v t u ≡ v + u - t
  unfolding seen
  seen_on l h = rw (le-leb t (v + u) l, lt-ltb (v + u - t) (2 ^ 32) h)

  pub seen_too_high : t ≤ v + u → 2 ^ 32 ≤ v + u - t → seen v t u ≡ u
  unfolding seen
  seen_too_high l h = rw (le-leb t (v + u) l, le-ltb (v + u - t) (2 ^ 32) h)

  pub seen_too_low : v + u < t → seen v t u ≡ u
  unfolding seen
  seen_too_low h = rw (lt-leb t (v + u) h)

  shows_seen : shown u (pos v -ℤ pos t) ≡ seen v t u
  shows_seen = go (dec_lt (v + u) t) (dec_lt (v + u - t) (2 ^ 32))
    where
      go : Dec (v + u < t) → Dec (v + u - t < 2 ^ 32) → shown u (pos v -ℤ pos t) ≡ seen v t u
      go (yes k) w = shows_now_below u _ _ (sum_negative v t u k) ∙ sym (seen_too_low k)
      go (no k) (yes w) = shows_sum u _ _ (sum_from v t u (omega arith)) w ∙ sym (seen_on (omega arith) w)
      go (no k) (no w) = shows_now_above u _ _ (sum_from v t u (omega arith)) (omega arith)
          ∙ sym (seen_too_high (omega arith) (omega arith))

-- A guest that sets the clock at one time and reads it at another, with any accesses between that do not set it.
pub set_then_read : (c : Clock) (t u : ℕ) (bytes lent : List ℕ) (between : List Access) → All KeepsTime between
    → result_of (after (next c (write t 0x008 bytes)) between) (read u 0x000 lent) ≡ answers (seen (value_of bytes) (t % 2 ^ 32) (u % 2 ^ 32))
set_then_read c t u bytes lent between k =
    let v = value_of bytes in
    let c₁ = next c (write t 0x008 bytes) in
    let set : c₁ ≡ with_lr c v (pos v -ℤ pos (t % 2 ^ 32)) = becomes_next c _ t 0x008 bytes (writes_lr c t 0x008 v refl) in
    let ahead : (after c₁ between).ahead ≡ pos v -ℤ pos (t % 2 ^ 32) = ahead_stays c₁ between k ∙ ap (λ (x : Clock). x.ahead) set in
    answered _ u 0x000 _ lent
    (reads_dr (after c₁ between) u 0x000 refl ∙ ap says (ap (shown (u % 2 ^ 32)) ahead ∙ shows_seen v (t % 2 ^ 32) (u % 2 ^ 32)))

-- ---- A clock that follows the host

-- What is ahead by nothing shows the host's time, at every second.
shows_host : (c : Clock) (u : ℕ) (lent : List ℕ) → c.ahead ≡ pos 0 → result_of c (read u 0x000 lent) ≡ answers (u % 2 ^ 32)
shows_host c u lent e =
    answered c u 0x000 _ lent
    (reads_dr c u 0x000 refl ∙ ap says (ap (shown (u % 2 ^ 32)) e ∙ shows_sum (u % 2 ^ 32) (pos 0) (u % 2 ^ 32) (ap pos (omega arith)) (omega arith)))

-- A fresh clock does, until it is set.
pub fresh_shows_host : (u : ℕ) (lent : List ℕ) (run : List Access) → All KeepsTime run
    → result_of (after fresh run) (read u 0x000 lent) ≡ answers (u % 2 ^ 32)
unfolding fresh
fresh_shows_host u lent run k = shows_host (after fresh run) u lent (ahead_stays fresh run k)

-- And any clock does after a 1 was written to RTCCR, whatever it had been set to: what a driver's start leaves.
pub restart_shows_host : (c : Clock) (t u : ℕ) (bytes lent : List ℕ) (between : List Access) → value_of bytes ≡ 1 → All KeepsTime between
    → result_of (after (next c (write t 0x00c bytes)) between) (read u 0x000 lent) ≡ answers (u % 2 ^ 32)
restart_shows_host c t u bytes lent between one k =
    let c₁ = next c (write t 0x00c bytes) in
    let set : c₁ ≡ with_lr c 0 (pos 0) = becomes_next c _ t 0x00c bytes (writes_cr c t 0x00c (value_of bytes) refl ∙ rw one) in
    shows_host (after c₁ between) u lent (ahead_stays c₁ between k ∙ ap (λ (x : Clock). x.ahead) set)

-- ---- The interrupt's registers

any : (run : List Access) → All (λ a. Unit {0}) run
any [] = tt
any (a ∷ run) = (tt, any run)

keeps_mask : (c : Clock) (a : Access) → c.imsc < 2 → (next c a).imsc < 2
unfolding next
keeps_mask c (read time offset bytes) m = m
keeps_mask c (write time offset bytes) m =
    write_cases c time offset (value_of bytes) (λ c'. c'.imsc < 2) (λ _. m) (λ _. m) (λ _ _. m) (λ _. omega arith) (λ _. m) m

-- A mask of 0 or 1 stays one.
pub mask_stays : (c : Clock) (run : List Access) → c.imsc < 2 → (after c run).imsc < 2
mask_stays c run m = kept (λ c'. c'.imsc < 2) (λ a. Unit {0}) (λ c' a q p. keeps_mask c' a p) c run (any run) m

-- So it is 0 or 1 in every run of a fresh clock,
pub fresh_mask : (run : List Access) → (after fresh run).imsc < 2
unfolding fresh
fresh_mask run = mask_stays fresh run (lit< tt)

-- and from any state once it has been written.
pub written_mask : (c : Clock) (t : ℕ) (bytes : List ℕ) (run : List Access) → (after (next c (write t 0x010 bytes)) run).imsc < 2
written_mask c t bytes run =
    mask_stays _ run (rw (becomes_next c _ t 0x010 bytes (writes_imsc c t 0x010 (value_of bytes) refl)) (omega arith))

-- The masked status is the raw status and the mask, as they read at whatever times.
pub masked_status : (c : Clock) (t : ℕ) → read_of c t 0x018 ≡ says (bit_and c.ris c.imsc)
masked_status c t = reads_mis c t 0x018 refl

pub masked_of_reads : (c : Clock) (t u w raw mask : ℕ) → read_of c t 0x014 ≡ says raw → read_of c u 0x010 ≡ says mask
    → read_of c w 0x018 ≡ says (bit_and raw mask)
masked_of_reads c t u w raw mask r m =
    let a : c.ris ≡ raw = cc (reads_ris c t 0x014 refl) in
    let b : c.imsc ≡ mask = cc (reads_imsc c u 0x010 refl) in
    reads_mis c w 0x018 refl ∙ rw (a, b)

keeps_quiet : (c : Clock) (a : Access) → c.ris ≡ 0 → (next c a).ris ≡ 0
unfolding next
keeps_quiet c (read time offset bytes) e = e
keeps_quiet c (write time offset bytes) e =
    write_cases c time offset (value_of bytes) (λ c'. c'.ris ≡ 0) (λ _. e) (λ _. e) (λ _ _. e) (λ _. e)
    (λ _. rw e (and_zero_l (2 ^ 32 - 1 - value_of bytes))) e

-- The match register has no effect: no run of a fresh clock raises the status, whatever is written to it.
pub fresh_quiet : (run : List Access) → (after fresh run).ris ≡ 0
unfolding fresh
fresh_quiet run = kept (λ c. c.ris ≡ 0) (λ a. Unit {0}) (λ c a q e. keeps_quiet c a e) fresh run (any run) refl

-- ---- Identification

-- It answers the same in every state and at every time.
pub identity_fixed : (c : Clock) (time offset : ℕ) (lent : List ℕ) → 0xfe0 ≤ offset → offset ≤ 0xfff
    → result_of c (read time offset lent) ≡ answers (get_or ids ((offset - 0xfe0) / 4) 0)
identity_fixed c time offset lent l h = answered c time offset _ lent (reads_id c time offset l h)

-- ---- Places that cannot be written

-- A write there is refused and changes nothing.
pub nothing_written : (c : Clock) (time offset : ℕ) (bytes : List ℕ) → CannotWrite offset
    → (next c (write time offset bytes) ≡ c) × (result_of c (write time offset bytes) ≡ record { bytes = bytes; answer = refusal })
unfolding next result_of
nothing_written c time offset bytes h =
    let e = writes_nothing c time offset (value_of bytes) h.mr h.lr h.cr h.imsc h.icr in
    (rw e, rw e)
