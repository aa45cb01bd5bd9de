-- Our interrupts: how often each rule raises, and what becomes of the transmitter's interrupt, in the words that the rows go by.
use mathlib.Core.Path.{◌≡◌, refl}
use mathlib.Core.Bool.{Bool, true, false, not, ◌&&◌}
use Prim.Native.Nat.{ℕ, ◌+◌}
use Rattle.interrupts.specs.Interrupts.{received_data, transmitter_empty, is_enabled, is_active, newly, after_data_read, data_came, byte_sent}
use Rattle.interrupts.specs.Interrupts.{enabling}
use Rattle.interrupts.proofs.Laws.{newly_same, settled_keeps, set_active}
use Rattle.vm_superio.proofs.Marks.{once}

-- ---- The transmitter's interrupt

-- Whether a byte waits does not matter to it.
pub read_keeps : (ier iir : ℕ) (waits waited : Bool)
    → is_active ier (after_data_read ier iir waits) waits transmitter_empty ≡ is_active ier iir waited transmitter_empty
read_keeps ier iir true waited = refl
read_keeps ier iir false waited = settled_keeps ier iir false

pub came_keeps : (ier iir : ℕ) (waits : Bool)
    → is_active ier (data_came ier iir waits).iir true transmitter_empty ≡ is_active ier iir waits transmitter_empty
came_keeps ier iir true = refl
came_keeps ier iir false = settled_keeps ier iir true

-- A byte written makes it active, if it is enabled; so does a write of IER.
pub sent_active : (ier iir : ℕ) (waits : Bool)
    → is_active ier (byte_sent ier iir waits).iir waits transmitter_empty ≡ is_enabled ier transmitter_empty
sent_active ier iir waits = go (is_enabled ier transmitter_empty) refl
  where
    go : (e : Bool) → is_enabled ier transmitter_empty ≡ e
        → is_active ier (byte_sent ier iir waits).iir waits transmitter_empty ≡ is_enabled ier transmitter_empty
    go true e = rw e (rw e at (set_active ier iir waits))
    go false e = rw e refl

-- ---- How often each raises

pub came_raises : (ier iir : ℕ) (waits : Bool) → (data_came ier iir waits).raises ≡ once (is_enabled ier received_data && not waits)
came_raises ier iir waits = go (is_enabled ier received_data) (is_active ier iir waits transmitter_empty) waits (came_keeps ier iir waits)
  where
    go : (e t w : Bool) {t' : Bool} → t' ≡ t → newly (e && w) (e && true) + newly t t' ≡ once (e && not w)
    go true t true f = rw (f, newly_same t) refl
    go true t false f = rw (f, newly_same t) refl
    go false t w f = rw (f, newly_same t) refl

pub sent_raises : (ier iir : ℕ) (waits : Bool)
    → (byte_sent ier iir waits).raises ≡ once (is_enabled ier transmitter_empty && not (is_active ier iir waits transmitter_empty))
sent_raises ier iir waits =
    go (is_active ier iir waits received_data) (is_enabled ier transmitter_empty) (is_active ier iir waits transmitter_empty) (sent_active ier iir waits)
  where
    go : (r e t : Bool) {t' : Bool} → t' ≡ e → newly r r + newly t t' ≡ once (e && not t)
    go r true true f = rw (newly_same r) refl
    go r true false f = rw (f, newly_same r) refl
    go r false true f = rw (newly_same r) refl
    go r false false f = rw (f, newly_same r) refl

pub enabling_raises : (ier ier' iir : ℕ) (waits : Bool)
    → (enabling ier ier' iir waits).raises
    ≡ once (is_enabled ier' received_data && waits && not (is_enabled ier received_data))
    + once (is_enabled ier' transmitter_empty && not (is_active ier iir waits transmitter_empty))
enabling_raises ier ier' iir waits =
    go (is_enabled ier received_data) (is_enabled ier' received_data) waits (is_enabled ier' transmitter_empty) (is_active ier iir waits transmitter_empty)
    (set_active ier' iir waits)
  where
    data_part : (e e' w : Bool) → newly (e && w) (e' && w) ≡ once (e' && w && not e)
    data_part true true true = refl
    data_part true true false = refl
    data_part true false true = refl
    data_part true false false = refl
    data_part false true true = refl
    data_part false true false = refl
    data_part false false w = refl

    transmitter_part : (t e : Bool) → newly t e ≡ once (e && not t)
    transmitter_part true true = refl
    transmitter_part true false = refl
    transmitter_part false true = refl
    transmitter_part false false = refl

    go : (e e' w f t : Bool) {t' : Bool} → t' ≡ f → newly (e && w) (e' && w) + newly t t' ≡ once (e' && w && not e) + once (f && not t)
    go e e' w f t g = rw (g, data_part e e' w, transmitter_part t f) refl
