-- What the calls that save and restore promise of the memory that they were lent, and of the word that they answer.
use Rattle.std.specs.Prelude.{ℕ, ◌+◌, ◌*◌, ◌≡◌, ◌↔◌, List, ◌∷◌, Bool, true, false, cond, length, take, drop}
use Rattle.serial.specs.Port.{is_size}
use Rattle.serial.specs.Layout.{size_of, port_of, unused_of, spare_registers, spare_positions, fresh_spare_registers}
use Rattle.common.specs.Answer.{refused_bit, reachable_bit, one_raise}
use Rattle.runs.specs.Reachable.{Reachable}
use Rattle.serial_saved.specs.Saved.{saved_of, Restore, restore_of}

-- The port is saved: all its registers as they lie, the spare ones too, and as many bytes as wait, the first to be read first. What lies
-- behind them in the memory for the bytes stays. The port itself is not lent to be changed.
pub record Saves (regs pos ring waiting saved' waiting' : List ℕ) (r : ℕ) : Type 0 where
  pub registers : saved' ≡ regs
  pub number : r ≡ length (port_of regs pos ring).waiting
  pub bytes : take r waiting' ≡ (port_of regs pos ring).waiting
  pub others : drop r waiting' ≡ drop r waiting
  pub holds : saved_of saved' (take r waiting') ≡ port_of regs pos ring

-- The word after a port was restored: whether a run from a fresh port can have come to it, whether it was refused, and the raises.
abbrev pub restore_word : Bool → Restore → ℕ
restore_word reachable o = cond o.refused refused_bit 0 + cond reachable reachable_bit 0 + one_raise * o.raises

-- A run from a fresh port can have come to what was saved: one is made with its size, a run reaches the port, and keeps the spare
-- registers at 0.
pub record ReachableSaved (saved waiting : List ℕ) : Type 0 where
  pub made : is_size (size_of saved) ≡ true
  pub port : Reachable (size_of saved) (saved_of saved waiting)
  pub spares_zero : spare_registers saved ≡ fresh_spare_registers

-- The port is restored: the memory holds it, from the ring's first place on. The bytes of the ring that do not wait are as they were, and
-- so are the spare positions; the spare registers are those that were saved. Where that is refused not a byte changes. What is restored is
-- believed whether or not a run can have come to it; the word says it.
pub record Restored (regs pos ring saved waiting regs' pos' ring' : List ℕ) (r : ℕ) (o : Restore) : Type 0 where
  pub reachable : Bool
  pub exact : (reachable ≡ true) ↔ ReachableSaved saved waiting
  pub answer : r ≡ restore_word reachable o
  pub holds : port_of regs' pos' ring' ≡ o.port
  pub unused_bytes_kept : unused_of pos' ring' ≡ unused_of pos' ring
  pub spare_positions_kept : spare_positions pos' ≡ spare_positions pos
  pub restored : o.refused ≡ false → (regs' ≡ saved) × (pos' ≡ 0 ∷ length waiting ∷ spare_positions pos)
  pub unchanged_if_refused : o.refused ≡ true → (regs' ≡ regs) × ((pos' ≡ pos) × (ring' ≡ ring))

abbrev pub Restores : List ℕ → List ℕ → List ℕ → List ℕ → List ℕ → List ℕ → List ℕ → List ℕ → ℕ → Type 0
Restores regs pos ring saved waiting regs' pos' ring' r =
    Restored regs pos ring saved waiting regs' pos' ring' r (restore_of (port_of regs pos ring) (saved_of saved waiting))
