-- A handler that does what it is told ends, and has fetched every byte; and what an edge-triggered host can miss.
use mathlib.Core.Path.{◌≡◌, refl, ap}
use mathlib.Core.Bool.{Bool, true, false, cond, ◌&&◌, true≢false, false≢true}
use mathlib.Core.List.{List, [], ◌∷◌, tail}
use Prim.Native.Nat.{ℕ, zero, suc, ◌+◌, ◌≤◌}
use native.Mathlib.Omega.{arith}
use lib.ListN.{length}
use Rattle.common.proofs.Booleans.{both_true}
use Rattle.common.specs.Bits.{on}
use Rattle.common.specs.Lists.{some, first_or0}
use Rattle.interrupts.specs.Interrupts.{received_data, transmitter_empty, none_pending, is_high, code, settled, ier_stored}
use Rattle.interrupts.proofs.Laws.{settled_keeps}
use Rattle.line_status.specs.LineStatus.{lsr_ready}
use Rattle.modem.specs.Modem.{is_loop}
use Rattle.serial.specs.Port.{Port, is_open, active, line, with_receiver, fresh, addressed, read_rbr, read_register, receives, write_ier}
use Rattle.serial.specs.Port.{no_events, read_events, write_register, input_of}
use Rattle.runs.specs.Run.{read, write, input, step, run, replied, sent, took}
use Rattle.runs.specs.Told.{enabled, Served, fetching, serve, rounds}

-- ---- One round, by what is active

module _ (n : ℕ) (p : Port) where
  served_data : is_open p ≡ false → active p received_data ≡ true
      → serve (suc n) p ≡ fetching (first_or0 p.waiting) (serve n (read_rbr p).port)
  unfolding serve addressed read_register code
  served_data o r = rw (r, o) refl

  served_empty : active p received_data ≡ false → active p transmitter_empty ≡ true
      → serve (suc n) p ≡ serve n (with_receiver p none_pending p.lsr p.waiting)
  unfolding serve addressed read_register code
  served_empty r t = rw (r, t) refl

  served_none : active p received_data ≡ false → active p transmitter_empty ≡ false → serve (suc n) p ≡ record { port = p; fetched = [] }
  unfolding serve addressed read_register code
  served_none r t = rw (r, t) refl

served_not : (p : Port) → serve zero p ≡ record { port = p; fetched = [] }
unfolding serve
served_not p = refl

-- ---- It ends

-- The line is low, and if received data is enabled, the bytes that waited are what was fetched.
pub record Done (p : Port) (s : Served) : Type 0 where
  pub low : line s.port ≡ false
  pub all : enabled p received_data ≡ true → s.fetched ≡ p.waiting

none_active : (p : Port) → active p received_data ≡ false → active p transmitter_empty ≡ false → line p ≡ false
unfolding is_high
none_active p r t = rw (r, t)

-- where received data is enabled and not active no byte waits
nothing_waits : (e : Bool) (q : List ℕ) → (e && some q) ≡ false → e ≡ true → [] ≡ q
nothing_waits e [] h k = refl
nothing_waits true (x ∷ q) h k = absurd (true≢false h)
nothing_waits false (x ∷ q) h k = absurd (false≢true k)

no_rounds : (e : Bool) (q : List ℕ) → (e && some q) ≡ false → cond e (length q) 0 ≡ 0
no_rounds true [] h = refl
no_rounds true (x ∷ q) h = absurd (true≢false h)
no_rounds false q h = refl

-- a byte was read: one round less
fewer : (e : Bool) (q : List ℕ) → (e && some q) ≡ true → cond e (length (tail q)) 0 + 1 ≡ cond e (length q) 0
fewer true [] h = absurd (false≢true h)
fewer true (x ∷ q) h = omega arith
fewer false q h = absurd (false≢true h)

first_then : (q l : List ℕ) → some q ≡ true → l ≡ tail q → first_or0 q ∷ l ≡ q
first_then [] l h e = absurd (false≢true h)
first_then (x ∷ q) l h e = ap (λ (t : List ℕ). x ∷ t) e

-- a read of RBR leaves the transmitter's interrupt
still_empty : (p : Port) → active (read_rbr p).port transmitter_empty ≡ active p transmitter_empty
still_empty p = go (some (tail p.waiting))
  where
    go : (w : Bool)
        → (on p.settings.ier 0x02 && on (cond w p.iir (settled p.settings.ier p.iir false)) 0x02) ≡
        (on p.settings.ier 0x02 && on p.iir 0x02)
    go true = refl
    go false = settled_keeps p.settings.ier p.iir false

none_pending_lem : (t : Bool) → (t && on none_pending 0x02) ≡ false
none_pending_lem true = refl
none_pending_lem false = refl

ended : (p : Port) → active p received_data ≡ false → active p transmitter_empty ≡ false → Done p (record { port = p; fetched = [] })
ended p r e = record { low = none_active p r e; all = nothing_waits (enabled p received_data) p.waiting r }

no_round : (p : Port) (r t : Bool) → active p received_data ≡ r → active p transmitter_empty ≡ t → rounds p ≤ 0 → Done p (serve zero p)
no_round p true t r e h = absurd (omega (arith, h, fewer (enabled p received_data) p.waiting r))
no_round p false true r e h = absurd (omega (arith, rw e at h))
no_round p false false r e h = rw (served_not p) (ended p r e)

one_round : (n : ℕ) (p : Port) → is_open p ≡ false → (r t : Bool) → active p received_data ≡ r → active p transmitter_empty ≡ t
    → rounds p ≤ suc n
    → ((q : Port) → is_open q ≡ false → rounds q ≤ n → Done q (serve n q)) → Done p (serve (suc n) p)
one_round n p o true t r e h more =
    let still : ◌≡◌ {A = ℕ} (cond (active (read_rbr p).port transmitter_empty) 1 0) (cond (active p transmitter_empty) 1 0) = ap
    (λ (b : Bool). cond b 1 0) (still_empty p) in
    let ih = more (read_rbr p).port o (omega (arith, h, fewer (enabled p received_data) p.waiting r, still)) in
    let w = both_true (enabled p received_data) (some p.waiting) r in
    rw (served_data n p o r) (record { low = ih.low; all = λ k. first_then p.waiting _ w.1 (ih.all k) })
one_round n p o false true r e h more =
    let q = with_receiver p none_pending p.lsr p.waiting in
    let none : rounds q ≡ 0 = rw (none_pending_lem (on p.settings.ier 0x02), no_rounds (enabled p received_data) p.waiting r) refl in
    let ih = more q o (omega (arith, none)) in
    rw (served_empty n p r e) (record { low = ih.low; all = ih.all })
one_round n p o false false r e h more = rw (served_none n p r e) (ended p r e)

-- From any port with the divisor closed: after as many rounds as there are kinds and bytes to tell of the handler has ended, the line is
-- low, and every byte is fetched.
pub handler_ends : (n : ℕ) (p : Port) → is_open p ≡ false → rounds p ≤ n → Done p (serve n p)
handler_ends zero p o h = no_round p (active p received_data) (active p transmitter_empty) refl refl h
handler_ends (suc n) p o h = one_round n p o (active p received_data) (active p transmitter_empty) refl refl h (handler_ends n)

-- ---- What an edge-triggered host can miss

-- A driver that takes one byte an interrupt is raised once for two bytes, and for a third that comes while one waits not at all; the line
-- stays high.
pub one_byte_an_interrupt : let r = run (fresh 64) (write 1 0x01 ∷ input (0x61 ∷ 0x62 ∷ []) ∷ read 0 ∷ input (0x63 ∷ []) ∷ []) in
    (r.answers ≡ sent [] no_events 0 ∷ took 2 1 ∷ replied 0x61 (read_events true true) 0 ∷ took 1 0 ∷ []) × ((r.port.waiting ≡ 0x62 ∷ 0x63 ∷ []) × (line r.port ≡ true))
unfolding run step addressed read_register write_register write_ier input_of receives settled ier_stored is_high lsr_ready is_loop
one_byte_an_interrupt = (refl, (refl, refl))
