-- IER, IIR and the interrupt line: which kinds of interrupt are pending, what IIR answers, and when the interrupt is raised. Of the port
-- this room knows IER, IIR as it is stored, and whether a byte waits; the rules at the end are all that the port goes by.
use Rattle.std.specs.Prelude.{ℕ, ◌+◌, Bool, true, false, cond, not, ◌&&◌, ◌||◌, eqb}
use Rattle.std.specs.Int.Bits.{bit_and, bit_or}
use Rattle.common.specs.Bits.{on}

-- The two kinds that the device has. The manual's receiver line status and modem status can be enabled and never come: DIFFERENCES,
-- "serial-modem-change", "serial-loop-overrun" and "serial-line-overrun".
pub data Kind : Type 0 where
  received_data transmitter_empty : Kind

-- IER keeps four bits; the high four read 0.
unfoldable pub ier_stored : ℕ → ℕ
ier_stored value = bit_and value 0x0f

abbrev pub is_enabled : ℕ → Kind → Bool
is_enabled ier received_data = on ier 0x01
is_enabled ier transmitter_empty = on ier 0x02

-- ---- What is pending, and the line

-- Received data is pending as long as a byte waits. That of the empty transmitter is one stored bit, 0x02 of IIR; no other bit of what is
-- stored there is ever looked at.
abbrev pub is_pending : ℕ → Bool → Kind → Bool
is_pending iir waits received_data = waits
is_pending iir waits transmitter_empty = on iir 0x02

-- A kind is active while it is pending and IER enables it.
abbrev pub is_active : ℕ → ℕ → Bool → Kind → Bool
is_active ier iir waits kind = is_enabled ier kind && is_pending iir waits kind

-- The interrupt line is a level: high as long as a kind is active.
unfoldable pub is_high : ℕ → ℕ → Bool → Bool
is_high ier iir waits = is_active ier iir waits received_data || is_active ier iir waits transmitter_empty

-- IIR shows the active kind of the highest priority; 0x01 says that no interrupt is pending.
abbrev pub none_pending : ℕ
none_pending = 0x01

unfoldable pub code : ℕ → ℕ → Bool → ℕ
code ier iir waits = cond (is_active ier iir waits received_data) 0x04 (cond (is_active ier iir waits transmitter_empty) 0x02 none_pending)

-- What a port stores in IIR: a bit for each active kind, or 0x01. So vm-superio, which goes by such bits alone, finds in a saved port what
-- is due.
unfoldable pub settled : ℕ → ℕ → Bool → ℕ
settled ier iir waits =
    let thre = is_active ier iir waits transmitter_empty in
    cond (is_active ier iir waits received_data) (cond thre 0x06 0x04) (cond thre 0x02 none_pending)

-- ---- What is raised

-- An access raises the interrupt once for each kind that is active after it and was not before it.
abbrev pub newly : Bool → Bool → ℕ
newly before after = cond (not before && after) 1 0

abbrev pub raised : ℕ → ℕ → Bool → ℕ → ℕ → Bool → ℕ
raised ier iir waits ier' iir' waits' =
    newly (is_active ier iir waits received_data) (is_active ier' iir' waits' received_data)
    + newly (is_active ier iir waits transmitter_empty) (is_active ier' iir' waits' transmitter_empty)

-- IIR as it is stored after an access, and how often the interrupt is raised.
pub record Ended : Type 0 where
  pub iir : ℕ
  pub raises : ℕ

abbrev pub ends : ℕ → ℕ → Bool → ℕ → ℕ → Bool → Ended
ends ier iir waits ier' iir' waits' = record { iir = iir'; raises = raised ier iir waits ier' iir' waits' }

-- ---- The rules: IER, IIR as it is stored, and whether a byte waits (before the access, but for a read of RBR after it)

-- A read of IIR answers the code, and the two bits that say the FIFOs are on. They are always on: DIFFERENCES, "serial-fifo-off".
abbrev pub identification : ℕ → ℕ → Bool → ℕ
identification ier iir waits = bit_or (code ier iir waits) 0xc0

-- It resets the transmitter's interrupt if that is what it answered; nothing else is active then.
abbrev pub after_identification : ℕ → ℕ → Bool → ℕ
after_identification ier iir waits = cond (eqb (code ier iir waits) 0x02) none_pending iir

-- A byte was read from RBR: received data goes if no more wait.
abbrev pub after_data_read : ℕ → ℕ → Bool → ℕ
after_data_read ier iir waits = cond waits iir (settled ier iir false)

-- Bytes have come to the receiver: received data comes if none waited before.
abbrev pub data_came : ℕ → ℕ → Bool → Ended
data_came ier iir waits = ends ier iir waits ier (cond waits iir (settled ier iir true)) true

-- A byte was written to THR, and has left at once: the transmitter is empty. Where its interrupt is pending already nothing is raised:
-- DIFFERENCES, "serial-thr-burst".
abbrev pub byte_sent : ℕ → ℕ → Bool → Ended
byte_sent ier iir waits = ends ier iir waits ier (cond (is_enabled ier transmitter_empty) (settled ier (bit_or iir 0x02) waits) iir) waits

-- IER was `ier` and is `ier'` now. To set 0x02 signals the empty transmitter, which it always is; here also where 0x02 was set before:
-- DIFFERENCES, "serial-transmitter-again".
abbrev pub enabling : ℕ → ℕ → ℕ → Bool → Ended
enabling ier ier' iir waits = ends ier iir waits ier' (settled ier' (bit_or iir 0x02) waits) waits

-- The port was restored: each active kind is raised. The line of the new host may never have seen it.
abbrev pub raised_again : ℕ → ℕ → Bool → ℕ
raised_again ier iir waits = cond (is_active ier iir waits transmitter_empty) 1 0 + cond (is_active ier iir waits received_data) 1 0
