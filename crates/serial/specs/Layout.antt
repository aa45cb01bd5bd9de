-- How a port lies in the memory that its host lends: any bytes are some port.
use Rattle.std.specs.Prelude.{ℕ, ◌+◌, ◌-◌, ◌*◌, ◌%◌, min, List, [], ◌∷◌, get_or, take, drop}
use Rattle.serial.specs.Port.{Port}
use Rattle.ring.specs.Ring.{queue, places_here}

-- How many places the ring has: places go round by this number, and no port has room for more.
abbrev pub places : ℕ
places = places_here

-- How many bytes may wait: register 15 tells it. 0 stands for 64, each one more for four more, and it goes round from 1,024 to 4.
abbrev pub size_by : ℕ → ℕ
size_by register = (63 + 4 * register) % places + 1

abbrev pub size_of : List ℕ → ℕ
size_of regs = size_by (get_or regs 15 0)

-- At 0 and 1 of the positions lie the place of the first waiting byte, which goes round the ring, and the number of those that wait;
-- a number above the places counts as the places. No call makes it more than the size; where the memory has more, no byte comes until
-- fewer than the size wait.
abbrev pub start_of : List ℕ → ℕ
start_of pos = get_or pos 0 0

abbrev pub count_of : List ℕ → ℕ
count_of pos = min (get_or pos 1 0) places

-- A register lies at its offset; the divisor's low byte DLL lies at 0 and its high byte DLM at 8, FCR at 9.
unfoldable pub port_of : List ℕ → List ℕ → List ℕ → Port
port_of regs pos ring = record {
  settings = record {
    ier = get_or regs 1 0;
    lcr = get_or regs 3 0;
    mcr = get_or regs 4 0;
    scr = get_or regs 7 0;
    dll = get_or regs 0 0;
    dlm = get_or regs 8 0;
    fcr = get_or regs 9 0;
  };
  iir = get_or regs 2 0;
  lsr = get_or regs 5 0;
  msr = get_or regs 6 0;
  waiting = queue places ring (start_of pos) (count_of pos);
  size = size_of regs;
}

-- The bytes of the ring that do not wait.
abbrev pub unused_of : List ℕ → List ℕ → List ℕ
unused_of pos ring = queue places ring (start_of pos + count_of pos) (places - count_of pos)

-- Registers 10 to 14 and positions 2 and 3 are spare.
abbrev pub spare_registers : List ℕ → List ℕ
spare_registers regs = take 5 (drop 10 regs)

abbrev pub spare_positions : List ℕ → List ℕ
spare_positions pos = drop 2 pos

-- In a fresh port they are 0.
abbrev pub fresh_spare_registers : List ℕ
fresh_spare_registers = 0 ∷ 0 ∷ 0 ∷ 0 ∷ 0 ∷ []

abbrev pub fresh_spare_positions : List ℕ
fresh_spare_positions = 0 ∷ 0 ∷ []
