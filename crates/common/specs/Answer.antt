-- The word that a call answers: one layout for all calls of all devices.
use Rattle.std.specs.Prelude.{ℕ}

-- The low 16 bits are a number: the reply, the byte sent, how many bytes are taken, thrown away or saved. Then one bit for each thing that there is to
-- say. Those from 0x200_0000 to 0x800_0000 are spare. From 0x1000_0000 on stands how often the interrupt is raised.

-- Refused: an input because the port is full, a restore of too many bytes, an invalid access of the clock, a form.
abbrev pub refused_bit : ℕ
refused_bit = 0x1_0000

-- A byte is sent.
abbrev pub sent_bit : ℕ
sent_bit = 0x2_0000

-- A run comes to what was restored.
abbrev pub reachable_bit : ℕ
reachable_bit = 0x4_0000

-- RBR was read; a byte left with the reply; RBR was read and no byte waits.
abbrev pub data_read_bit : ℕ
data_read_bit = 0x8_0000

abbrev pub delivered_bit : ℕ
delivered_bit = 0x10_0000

abbrev pub none_left_bit : ℕ
none_left_bit = 0x20_0000

-- In the loop: the byte written waits; there was no room for it.
abbrev pub looped_bit : ℕ
looped_bit = 0x40_0000

abbrev pub dropped_bit : ℕ
dropped_bit = 0x80_0000

-- FCR emptied the receiver: as many waiting bytes as the number says were thrown away.
abbrev pub flushed_bit : ℕ
flushed_bit = 0x100_0000

abbrev pub one_raise : ℕ
one_raise = 0x1000_0000
