-- The i8042 keyboard controller, as far as it resets the machine.
use Rattle.std.specs.Prelude.{ℕ, ◌/◌, ◌%◌, ◌^◌, Bool, not, ◌&&◌, ◌||◌, eqb, leb}

-- Offsets count from the data port, 0x60; the command port is 0x64.
abbrev pub command_port : ℕ
command_port = 4

-- The commands 0xf0 to 0xff pulse the four lowest lines of the output port: a line whose bit in the command is 0 is pulled low.
abbrev pub is_pulse : ℕ → Bool
is_pulse command = leb 0xf0 command && leb command 0xff

abbrev pub pulses : ℕ → ℕ → Bool
pulses command line = is_pulse command && eqb (command / 2 ^ line % 2) 0

-- Line 0 resets the processor. The manual resets on every pulse of it, whatever other lines the command pulses.
unfoldable pub manual_resets : ℕ → Bool
manual_resets command = pulses command 0

-- The device resets on the command that pulses line 0 and no other: DIFFERENCES, "i8042-other-pulses".
unfoldable pub device_resets : ℕ → Bool
device_resets command = pulses command 0 && not (pulses command 1) && not (pulses command 2) && not (pulses command 3)

-- A write asks for a reset if it brings that command to the command port. Any other write does nothing: DIFFERENCES,
-- "i8042-other-commands".
unfoldable pub write_resets : ℕ → ℕ → Bool
write_resets offset value = eqb offset command_port && device_resets value

-- There is no keyboard and no status register, every read answers 0: DIFFERENCES, "i8042-reads".
abbrev pub read_of : ℕ → ℕ
read_of offset = 0

-- ---- The row "i8042-other-pulses": a pulse of line 0 together with another line.
abbrev pub other_pulse : ℕ → Bool
other_pulse command = pulses command 0 && (pulses command 1 || pulses command 2 || pulses command 3)
