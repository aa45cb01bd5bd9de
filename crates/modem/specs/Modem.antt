-- MCR, MSR and the loop.
use Rattle.std.specs.Prelude.{ℕ, ◌+◌, ◌*◌, ◌%◌, Bool, cond}
use Rattle.common.specs.Bits.{on, bit}

-- MCR 0x01 DTR, 0x02 RTS, 0x04 OUT1, 0x08 OUT2, 0x10 loop. The device keeps all eight bits: DIFFERENCES, "serial-wide-mcr".
unfoldable pub is_loop : ℕ → Bool
is_loop mcr = on mcr 0x10

-- In the loop the four modem inputs follow the outputs: CTS 0x10 follows RTS, DSR 0x20 follows DTR, RI 0x40 follows OUT1, DCD 0x80 follows
-- OUT2.
abbrev pub looped_lines : ℕ → ℕ
looped_lines mcr = bit mcr 1 * 0x10 + bit mcr 0 * 0x20 + bit mcr 2 * 0x40 + bit mcr 3 * 0x80

-- What a read of MSR answers. The four low bits, the manual's changes since the last read, stay as they are: DIFFERENCES,
-- "serial-modem-change".
unfoldable pub msr_read : ℕ → ℕ → ℕ
msr_read mcr msr = cond (is_loop mcr) (msr % 0x10 + looped_lines mcr) msr
