-- Bytes come to the receiver, in the loop or over the line: what they do to the port, read as the chip's, to the line, and what is raised.
use mathlib.Core.Path.{◌≡◌, refl}
use mathlib.Core.List.{List, [], ◌∷◌, ◌++◌}
use mathlib.Core.Bool.{Bool, true, false, ◌||◌, and-true}
use Prim.Native.Nat.{ℕ}
use native.Mathlib.Nat.{add-zero}
use Rattle.common.specs.Lists.{some}
use Rattle.interrupts.specs.Interrupts.{received_data, transmitter_empty, is_active, is_high, newly, data_came}
use Rattle.interrupts.proofs.Laws.{settled_keeps, newly_same}
use Rattle.serial.specs.Port.{Port, active, line, receives}
use Rattle.pc16550d.specs.Chip.{with_receiver, holding}
use Rattle.pc16550d.specs.Compare.{chip_of, enables}

pub some_more : (waiting : List ℕ) (x : ℕ) (xs : List ℕ) → some (waiting ++ (x ∷ xs)) ≡ true
some_more [] x xs = refl
some_more (y ∷ ys) x xs = refl

-- The transmitter's interrupt is as it was.
kept : (ier iir : ℕ) (waits : Bool)
    → is_active ier (data_came ier iir waits).iir true transmitter_empty ≡ is_active ier iir waits transmitter_empty
kept ier iir true = refl
kept ier iir false = settled_keeps ier iir true

-- q: the port after it. On the chip the bytes wait behind the others; received data is active now if it is enabled.
pub record Received (p : Port) (bytes : List ℕ) (q : Port) (raises : ℕ) : Type 0 where
  pub next : chip_of q ≡ with_receiver (chip_of p) (holding (chip_of p).receiver (p.waiting ++ bytes) false)
  pub level : line q ≡ (enables p received_data || active p transmitter_empty)
  pub raised : raises ≡ newly (active p received_data) (enables p received_data)

pub received : (p : Port) (x : ℕ) (xs : List ℕ) → Received p (x ∷ xs) (receives p (x ∷ xs)).port (receives p (x ∷ xs)).raises
unfolding receives chip_of is_high
received p x xs =
    let k = kept p.settings.ier p.iir (some p.waiting) in
    let e = and-true (enables p received_data) in
    record {
      next = rw k;
      level = rw (some_more p.waiting x xs, k, e);
      raised = rw (k, newly_same (active p transmitter_empty), e) (add-zero _);
    }
