-- The PL031 real time clock, register by register in the order of its manual (Arm DDI 0224), as this device answers.
-- Where a rule is not the manual's, a comment names its row of docs/DIFFERENCES.md.
use Rattle.std.specs.Prelude.{ℕ, ◌-◌, ◌/◌, ◌%◌, ◌^◌, Bool, cond, ◌&&◌, List, [], ◌∷◌, ℤ, pos, ◌+ℤ◌, ◌-ℤ◌, ◌==◌, bit_and, int_le, int_lt, nat_le, slice_index, unsigned_abs}

-- ---- The state

-- `ahead`: how many seconds the clock is ahead of the host's time; negative where it is behind.
pub record Clock : Type 0 where
  pub mr : ℕ
  pub lr : ℕ
  pub imsc : ℕ
  pub ris : ℕ
  pub ahead : ℤ

-- Out of reset every register is 0. The manual's clock then stands still until it is started; this one runs, and shows the
-- host's time: DIFFERENCES, "clock-runs-from-reset".
unfoldable pub fresh : Clock
fresh = record { mr = 0; lr = 0; imsc = 0; ris = 0; ahead = pos 0 }

-- ---- The registers

pub data Register : Type 0 where
  DR MR LR CR IMSC RIS MIS ICR : Register
  ID : ℕ → Register
  reserved : Register

-- Which register lies at an offset. The identification registers answer at the three offsets after their own too:
-- DIFFERENCES, "clock-identity-between". No other register does: DIFFERENCES, "clock-reserved".
unfoldable pub register_at : ℕ → Register
register_at offset =
    cond (offset == 0x000) DR
    (cond (offset == 0x004) MR
    (cond (offset == 0x008) LR
    (cond (offset == 0x00c) CR
    (cond (offset == 0x010) IMSC
    (cond (offset == 0x014) RIS
    (cond (offset == 0x018) MIS
    (cond (offset == 0x01c) ICR
    (cond (nat_le 0xfe0 offset && nat_le offset 0xfff) (ID ((offset - 0xfe0) / 4))
    reserved))))))))

-- ---- What an access does

-- A read is answered by a number of 32 bits, or refused: then the caller's four bytes stay as they were.
pub data Reply : Type 0 where
  says : ℕ → Reply
  refused : Reply

-- A write makes another state, or is ignored: then nothing changes.
pub data Change : Type 0 where
  becomes : Clock → Change
  ignored : Change

pub record Rule : Type 0 where
  pub read : Reply
  pub write : ℕ → Change

-- The clock's time over the integers: the host's time and what the clock is ahead of it.
abbrev pub sum : ℕ → ℤ → ℤ
sum now ahead = pos now +ℤ ahead

abbrev pub fits32 : ℤ → Bool
fits32 z = int_le (pos 0) z && int_lt z (pos (2 ^ 32))

-- What 32 bits show of it: the sum where it fits, else the host's time. The manual's counter goes on from 0 after its
-- highest value: DIFFERENCES, "clock-out-of-range". It steps with the host's time, which may jump and go back:
-- DIFFERENCES, "clock-follows-host".
unfoldable pub shown : ℕ → ℤ → ℕ
shown now ahead = cond (fits32 (sum now ahead)) (unsigned_abs (sum now ahead)) now

-- The bits of a 32-bit number that are 0 in another.
abbrev pub without : ℕ → ℕ → ℕ
without bits gone = bit_and bits (2 ^ 32 - 1 - gone)

-- RTCPeriphID0 to 3, then RTCPCellID0 to 3.
abbrev pub ids : List ℕ
ids = 0x31 ∷ 0x10 ∷ 0x04 ∷ 0x00 ∷ 0x0d ∷ 0xf0 ∷ 0x05 ∷ 0xb1 ∷ []

-- The state with some registers replaced.
abbrev pub with_mr : Clock → ℕ → Clock
with_mr c v = record { mr = v; lr = c.lr; imsc = c.imsc; ris = c.ris; ahead = c.ahead }

abbrev pub with_lr : Clock → ℕ → ℤ → Clock
with_lr c v ahead = record { mr = c.mr; lr = v; imsc = c.imsc; ris = c.ris; ahead = ahead }

abbrev pub with_imsc : Clock → ℕ → Clock
with_imsc c v = record { mr = c.mr; lr = c.lr; imsc = v; ris = c.ris; ahead = c.ahead }

abbrev pub with_ris : Clock → ℕ → Clock
with_ris c v = record { mr = c.mr; lr = c.lr; imsc = c.imsc; ris = v; ahead = c.ahead }

-- One rule for each register: what reading it and writing `v` to it mean at the second `now`.
unfoldable pub rule : Register → Clock → ℕ → Rule
-- RTCDR, read only: the current value.
rule DR c now = record { read = says (shown now c.ahead); write = λ v. ignored }
-- RTCMR: the match value. Nothing happens as the clock comes to it: DIFFERENCES, "clock-match-no-effect".
rule MR c now = record { read = says c.mr; write = λ v. becomes (with_mr c v) }
-- RTCLR: the clock goes on from the value written; a read answers what was last written.
rule LR c now = record { read = says c.lr; write = λ v. becomes (with_lr c v (pos v -ℤ pos now)) }
-- RTCCR: the clock is on, from the first: DIFFERENCES, "clock-control-reads-1". By the manual a write does nothing once the
-- clock runs. Here a write of 1, as Linux and U-Boot do at each start, puts it back to the host's time: DIFFERENCES,
-- "clock-restarts".
rule CR c now = record { read = says 1; write = λ v. becomes (cond (v == 1) (with_lr c 0 (pos 0)) c) }
-- RTCIMSC: bit 0 lets the interrupt through.
rule IMSC c now = record { read = says c.imsc; write = λ v. becomes (with_imsc c (v % 2)) }
-- RTCRIS, read only: the raw status. The manual's has bit 0 alone; this one is kept, masked and cleared over 32 bits, as is
-- the mask: DIFFERENCES, "clock-status-wide".
rule RIS c now = record { read = says c.ris; write = λ v. ignored }
-- RTCMIS, read only: the raw status where the mask lets it through.
rule MIS c now = record { read = says (bit_and c.ris c.imsc); write = λ v. ignored }
-- RTCICR, write only: clears the bits of the raw status that are 1 in the value. A read is refused:
-- DIFFERENCES, "clock-clear-read".
rule ICR c now = record { read = refused; write = λ v. becomes (with_ris c (without c.ris v)) }
-- RTCPeriphID0 to 3 and RTCPCellID0 to 3, read only.
rule (ID n) c now = record { read = says (slice_index ids n); write = λ v. ignored }
-- Everything else is reserved.
rule reserved c now = record { read = refused; write = λ v. ignored }

-- ---- The two accesses, at the host's time in seconds, of which the device takes the lowest 32 bits

unfoldable pub read_of : Clock → ℕ → ℕ → Reply
read_of c time offset = (rule (register_at offset) c (time % 2 ^ 32)).read

unfoldable pub write_of : Clock → ℕ → ℕ → ℕ → Change
write_of c time offset v = (rule (register_at offset) c (time % 2 ^ 32)).write v
