-- The original's marks: what marking received data leaves of the transmitter's, what an announcement does, and what a read of IIR shows.
use mathlib.Core.Path.{◌≡◌, refl, sym, ap, ◌∙◌}
use mathlib.Core.Bool.{Bool, true, false, cond, not, ◌&&◌}
use Prim.Native.Nat.{ℕ, ◌+◌, ◌%◌, ◌<◌}
use native.Mathlib.Omega.{arith}
use lib.Bits.{bit_and, bit_or, or_mod}
use lib.Dec.{eqb}
use Rattle.common.specs.Bits.{on}
use Rattle.common.proofs.EveryByte.{low_and, everywhere, same}
use Rattle.vm_superio.specs.Original.{Kind, received_data, transmitter_empty, is_marked, mark, unmark, is_due, Announced, announce}
use Rattle.vm_superio.specs.Original.{iir_read, enabling}

-- ---- Bits: a law of bytes is one of all numbers

on_low : (m : ℕ) → m < 256 → (x : ℕ) → on x m ≡ on (x % 256) m
on_low m h x = ap (λ (a : ℕ). not (eqb a 0)) (low_and m h x)

mark_low : (x : ℕ) → mark x received_data ≡ mark (x % 256) received_data
unfolding mark
mark_low x = ap (λ (a : ℕ). bit_or a 0x04) (low_and 0xfe (omega arith) x)

unmark_low : (x : ℕ) → unmark x received_data ≡ unmark (x % 256) received_data
unfolding unmark
unmark_low x = ap (λ (a : ℕ). cond (eqb a 0) 0x01 a) (low_and 0xfb (omega arith) x)

shown_low : (m : ℕ) → m < 256 → (x : ℕ) → on (iir_read x) m ≡ on (iir_read (x % 256)) m
unfolding iir_read
shown_low m h x = ap (λ (a : ℕ). not (eqb a 0)) (low_and m h (bit_or x 0xc0) ∙ ap (λ (a : ℕ). bit_and a m) (or_mod x 0xc0 8))

-- ---- To mark or unmark received data leaves the transmitter's mark

pub data_marked_keeps : (x : ℕ) → is_marked (mark x received_data) transmitter_empty ≡ is_marked x transmitter_empty
unfolding mark
data_marked_keeps = everywhere (λ x. is_marked (mark x received_data) transmitter_empty) (λ x. is_marked x transmitter_empty)
    (λ x. ap (λ (a : ℕ). is_marked a transmitter_empty) (mark_low x)) (on_low 0x02 (omega arith)) tt

pub data_unmarked_keeps : (x : ℕ) → is_marked (unmark x received_data) transmitter_empty ≡ is_marked x transmitter_empty
unfolding unmark
data_unmarked_keeps = everywhere (λ x. is_marked (unmark x received_data) transmitter_empty) (λ x. is_marked x transmitter_empty)
    (λ x. ap (λ (a : ℕ). is_marked a transmitter_empty) (unmark_low x)) (on_low 0x02 (omega arith)) tt

-- To unmark it once more changes nothing.
pub data_unmarked_twice : (x : ℕ) → unmark (unmark x received_data) received_data ≡ unmark x received_data
unfolding unmark
data_unmarked_twice x =
    ap (λ (a : ℕ). unmark a received_data) (unmark_low x)
    ∙ same (λ x. unmark (unmark x received_data) received_data) (λ x. unmark x received_data) tt (x % 256) (omega arith)
    ∙ sym (unmark_low x)

-- ---- An announcement

-- How often it raises.
abbrev pub once : Bool → ℕ
once t = cond t 1 0

pub announce_raises : (ier iir : ℕ) (k : Kind) → (announce ier iir k).raises ≡ once (is_due ier iir k)
unfolding announce
announce_raises ier iir k = go (is_due ier iir k)
  where
    go : (t : Bool) → (cond {A = Announced} t (record { iir = mark iir k; raises = 1 }) (record { iir = iir; raises = 0 })).raises ≡ once t
    go true = refl
    go false = refl

pub data_announced_keeps : (ier iir : ℕ) → is_marked (announce ier iir received_data).iir transmitter_empty ≡ is_marked iir transmitter_empty
unfolding announce
data_announced_keeps ier iir = go (is_due ier iir received_data)
  where
    go : (t : Bool)
        → is_marked (cond {A = Announced} t (record { iir = mark iir received_data; raises = 1 }) (record { iir = iir; raises = 0 })).iir transmitter_empty
        ≡ is_marked iir transmitter_empty
    go true = data_marked_keeps iir
    go false = refl

-- IER is written: received data if a byte waits, and the transmitter.
pub enabling_raises : (ier iir : ℕ) (waits : Bool)
    → (enabling ier iir waits).raises ≡ once (waits && is_due ier iir received_data) + once (is_due ier iir transmitter_empty)
enabling_raises ier iir true =
    rw (announce_raises ier iir received_data, announce_raises ier (announce ier iir received_data).iir transmitter_empty, data_announced_keeps ier iir) refl
enabling_raises ier iir false = ap (λ (n : ℕ). 0 + n) (announce_raises ier iir transmitter_empty)

-- ---- A read of IIR shows the marks

pub shown_data : (x : ℕ) → on (iir_read x) 0x04 ≡ is_marked x received_data
unfolding iir_read
shown_data = everywhere (λ x. on (iir_read x) 0x04) (λ x. is_marked x received_data) (shown_low 0x04 (omega arith)) (on_low 0x04 (omega arith)) tt

pub shown_transmitter : (x : ℕ) → on (iir_read x) 0x02 ≡ is_marked x transmitter_empty
unfolding iir_read
shown_transmitter =
    everywhere (λ x. on (iir_read x) 0x02) (λ x. is_marked x transmitter_empty) (shown_low 0x02 (omega arith)) (on_low 0x02 (omega arith)) tt
