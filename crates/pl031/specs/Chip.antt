-- The PL031 real time clock by its manual (Arm DDI 0224): its registers, what each access does, and what a second does. Nothing here is
-- taken from the device. The manual was not at hand: its facts were collected from memory and held against drivers and QEMU's PL031
-- (docs/MANUALS.md).
--
-- Left out: time between seconds, and the time of an access to take effect; the test registers; the reset and the interrupt as wires, but
-- that MIS is the interrupt's level.
use Rattle.std.specs.Prelude.{ℕ, ◌+◌, ◌-◌, ◌*◌, ◌/◌, ◌%◌, ◌^◌, Bool, false, cond, ◌&&◌, ◌||◌, List, [], ◌∷◌, eqb, leb, get_or}
use Rattle.std.specs.Int.Bits.{bit_and}
use Rattle.common.specs.Bits.{on}
use Rattle.sidebyside.specs.Answers.{Said, says, silent, none}

-- ---- Registers

pub data Register : Type 0 where
  DR MR LR CR IMSC RIS MIS ICR : Register
  ID : ℕ → Register
  reserved : Register

-- Each register is a word and lies at a multiple of 4: eight from 0x000, and the eight of the identification from 0xfe0.
unfoldable pub register_at : ℕ → Register
register_at offset =
    cond (eqb offset 0x000) DR
    (cond (eqb offset 0x004) MR
    (cond (eqb offset 0x008) LR
    (cond (eqb offset 0x00c) CR
    (cond (eqb offset 0x010) IMSC
    (cond (eqb offset 0x014) RIS
    (cond (eqb offset 0x018) MIS
    (cond (eqb offset 0x01c) ICR
    (cond (leb 0xfe0 offset && leb offset 0xfff) (cond (eqb (offset % 4) 0) (ID ((offset - 0xfe0) / 4)) reserved)
    reserved))))))))

-- ---- State

-- The counter, and whether it runs; the last value loaded; the match value; the interrupt's mask and raw status, each one bit.
pub record Chip : Type 0 where
  pub counter : ℕ
  pub running : Bool
  pub lr : ℕ
  pub mr : ℕ
  pub imsc : ℕ
  pub ris : ℕ

-- After reset.
unfoldable pub after_reset : Chip
after_reset = record { counter = 0; running = false; lr = 0; mr = 0; imsc = 0; ris = 0 }

-- The interrupt where the mask lets it through.
abbrev pub mis : Chip → ℕ
mis c = bit_and c.ris c.imsc

-- ---- The counter

-- It comes to a value: where that is the match value the raw status is set, and held.
abbrev pub comes : Chip → ℕ → Chip
comes c v = record { counter = v; running = c.running; lr = c.lr; mr = c.mr; imsc = c.imsc; ris = cond (eqb v c.mr) 1 c.ris }

-- A second passes: it goes on by one, if it runs, and from the highest value to 0.
unfoldable pub ticks : Chip → Chip
ticks c = cond c.running (comes c ((c.counter + 1) % 2 ^ 32)) c

-- ---- Registers written

-- LR: the clock goes on from that value.
abbrev pub write_lr : Chip → ℕ → Chip
write_lr c v = comes (record { counter = c.counter; running = c.running; lr = v; mr = c.mr; imsc = c.imsc; ris = c.ris }) v

-- CR: bit 0 starts the clock. Once it runs, a write does nothing.
abbrev pub write_cr : Chip → ℕ → Chip
write_cr c v = record { counter = c.counter; running = c.running || on v 0x01; lr = c.lr; mr = c.mr; imsc = c.imsc; ris = c.ris }

-- MR, IMSC and ICR, which clears the raw status where its bit 0 is 1. To write MR with the counter's value is no match (in QEMU it is one):
-- a reading, docs/DECISIONS.md.
abbrev pub alarm : Chip → ℕ → ℕ → ℕ → Chip
alarm c mr imsc ris = record { counter = c.counter; running = c.running; lr = c.lr; mr = mr; imsc = imsc; ris = ris }

-- ---- Identification: the part 0x031 of the designer 0x41, revision 0, configuration 0; and the four bytes of every PrimeCell

abbrev pub identity : List ℕ
identity =
    (0x031 % 0x100) ∷ (0x41 % 0x10 * 0x10 + 0x031 / 0x100) ∷ (0 * 0x10 + 0x41 / 0x10) ∷ 0
    ∷ 0x0d ∷ 0xf0 ∷ 0x05 ∷ 0xb1 ∷ []

-- ---- What an access does: the chip after it, and what the manual says of the answer

pub record Out : Type 0 where
  pub chip : Chip
  pub reply : Said

-- Silent: ICR, which is write only, and what is reserved.
unfoldable pub read_register : Chip → Register → Said
read_register c DR = says c.counter
read_register c MR = says c.mr
read_register c LR = says c.lr
read_register c CR = says (cond c.running 1 0)
read_register c IMSC = says c.imsc
read_register c RIS = says c.ris
read_register c MIS = says (mis c)
read_register c ICR = silent
read_register c (ID n) = says (get_or identity n 0)
read_register c reserved = silent

-- What is read only or reserved is not written.
unfoldable pub write_register : Chip → Register → ℕ → Chip
write_register c DR v = c
write_register c MR v = alarm c v c.imsc c.ris
write_register c LR v = write_lr c v
write_register c CR v = write_cr c v
write_register c IMSC v = alarm c c.mr (v % 2) c.ris
write_register c RIS v = c
write_register c MIS v = c
write_register c ICR v = alarm c c.mr c.imsc (cond (on v 0x01) 0 c.ris)
write_register c (ID n) v = c
write_register c reserved v = c

-- ---- One operation: a second passes, or the guest reads or writes a word

pub data Op : Type 0 where
  second : Op
  read : ℕ → Op
  write : ℕ → ℕ → Op

abbrev pub word : ℕ → ℕ
word v = v % 2 ^ 32

unfoldable pub chip_does : Chip → Op → Out
chip_does c second = record { chip = ticks c; reply = none }
chip_does c (read offset) = record { chip = c; reply = read_register c (register_at offset) }
chip_does c (write offset v) = record { chip = write_register c (register_at offset) (word v); reply = none }
