-- The transmitter is empty: what is stored then, and what is raised, in the definition.
use mathlib.Core.Path.{◌≡◌, refl, sym, ap, ◌∙◌}
use mathlib.Core.Bool.{not}
use mathlib.Core.List.{List}
use Prim.Native.Nat.{ℕ, ◌+◌, ◌*◌}
use native.Mathlib.Omega.{arith}
use lib.Dec.{eqb}
use lib.ListN.{length, get_or, set}
use Rattle.interrupts.specs.Interrupts.{Ended, byte_sent}
use Rattle.serial.specs.Port.{transmits, emptied, with_receiver, write_line}
use Rattle.serial.specs.Layout.{port_of}
use Rattle.common.specs.Answer.{one_raise}
use Rattle.serial.specs.Calls.{write_word}
use Rattle.serial.proofs.Leaves.{waits_is}
use Rattle.serial.proofs.Registers.{marks}

module _ (regs pos ring : List ℕ) where
  -- IER lies at 1, IIR at 2, the number of waiting bytes at 1 of the positions.
  abbrev pub in_memory : Ended
  in_memory = byte_sent (get_or regs 1 0) (get_or regs 2 0) (not (eqb (get_or pos 1 0) 0))

  pub is_transmits : transmits (port_of regs pos ring) ≡ in_memory
  unfolding port_of
  is_transmits = rw (waits_is regs pos ring) refl

  pub holds_emptied : length regs ≡ 16 → port_of (set regs 2 in_memory.iir) pos ring ≡ emptied (port_of regs pos ring)
  holds_emptied n = marks regs pos ring n in_memory.iir
      ∙ sym (ap (λ (e : Ended). let p = port_of regs pos ring in with_receiver p e.iir p.lsr p.waiting) is_transmits)

  pub raised_emptied : in_memory.raises ≡ (transmits (port_of regs pos ring)).raises
  raised_emptied = sym (ap (λ (e : Ended). e.raises) is_transmits)

  -- A byte is sent.
  pub sent_line : (v : ℕ) → v + 0x2_0000 + one_raise * in_memory.raises ≡ write_word (write_line (port_of regs pos ring) v)
  unfolding write_line
  sent_line v = omega (arith, raised_emptied)
