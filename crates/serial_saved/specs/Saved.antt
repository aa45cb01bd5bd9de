-- A serial port saved and restored: its registers, its size among them, and the bytes that wait in their order.
use Rattle.std.specs.Prelude.{ℕ, Bool, true, false, cond, List, [], ◌∷◌, ◌++◌, length, leb}
use Rattle.interrupts.specs.Interrupts.{Kind, received_data, transmitter_empty}
use Rattle.serial.specs.Port.{Port, active, with_receiver}
use Rattle.serial.specs.Layout.{port_of}

-- What was saved is a port too, of which more bytes may wait than there is room for.
unfoldable pub saved_of : List ℕ → List ℕ → Port
saved_of regs waiting = let p = port_of regs [] [] in with_receiver p p.iir p.lsr waiting

-- The kinds that are raised again, in this order: those that are active. The line of the new host may never have seen it.
abbrev pub if_active : Bool → Kind → List Kind
if_active active kind = cond active (kind ∷ []) []

unfoldable pub raised_again : Port → List Kind
raised_again p = if_active (active p transmitter_empty) transmitter_empty ++ if_active (active p received_data) received_data

-- What restoring does: the port after it, whether it was refused, how often the interrupt is raised.
pub record Restore : Type 0 where
  pub port : Port
  pub refused : Bool
  pub raises : ℕ

abbrev pub fits : Port → Bool
fits saved = leb (length saved.waiting) saved.size

-- Whatever was saved is believed, but for one thing: where more bytes wait than there is room for it is refused, and the port stays as it
-- was.
unfoldable pub restore_of : Port → Port → Restore
restore_of p saved =
    cond (fits saved) (record { port = saved; refused = false; raises = length (raised_again saved) })
    (record { port = p; refused = true; raises = 0 })
