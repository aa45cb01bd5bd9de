-- LSR: 0x01 data ready; 0x20 transmitter holding register empty and 0x40 transmitter empty, which a fresh device has at 1 and nothing
-- changes: what is written has left at once: DIFFERENCES, "serial-instant-transmitter". The manual's 0x02, overrun, never comes:
-- DIFFERENCES, "serial-loop-overrun" and "serial-line-overrun".
use Rattle.std.specs.Prelude.{ℕ, Bool, true, false}
use Rattle.std.specs.Int.Bits.{bit_and, bit_or}

-- Bytes have come to the receiver: data is ready.
unfoldable pub lsr_ready : ℕ → ℕ
lsr_ready lsr = bit_or lsr 0x01

-- A byte has been read: data is ready no more where no other waits.
unfoldable pub lsr_after_read : Bool → ℕ → ℕ
lsr_after_read true lsr = lsr
lsr_after_read false lsr = bit_and lsr 0xfe
