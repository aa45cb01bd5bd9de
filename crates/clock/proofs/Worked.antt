-- Worked runs of the clock, by computation.
use Rattle.std.proofs.Common.{◌≡◌, ℕ, ◌/◌, ◌%◌, ◌^◌, List, [], ◌∷◌, take, drop, refl}
use Rattle.common.specs.Bytes.{bytes_of, value_of}
use Rattle.clock.specs.Registers.{register_at, fresh, ids, shown, rule, read_of, write_of}
use Rattle.clock.specs.Layout.{refusal}
use Rattle.clock.specs.Runs.{Access, read, write, Result, result_of, next, results, answers}

-- The caller's bytes before a read.
abbrev lent : List ℕ
lent = 0xaa ∷ 0xbb ∷ 0xcc ∷ 0xdd ∷ []

-- A valid write, and a refused read.
abbrev taken : ℕ → Result
taken v = record { bytes = bytes_of 4 v; answer = 0 }

abbrev left : Result
left = record { bytes = lent; answer = refusal }

abbrev puts : ℕ → ℕ → ℕ → Access
puts time offset v = write time offset (bytes_of 4 v)

abbrev gets : ℕ → ℕ → Access
gets time offset = read time offset lent

-- Set to 5 at 1,000, it shows 15 at 1,010.
set_and_read_lem : results fresh (puts 1000 0x008 5 ∷ gets 1010 0x000 ∷ []) ≡ taken 5 ∷ answers 15 ∷ []
unfolding result_of next read_of write_of register_at rule shown fresh bytes_of value_of
set_and_read_lem = refl

-- Set to 0 at 1,000, it shows the host's time at 990, since -10 does not fit.
set_and_read_earlier : results fresh (puts 1000 0x008 0 ∷ gets 990 0x000 ∷ []) ≡ taken 0 ∷ answers 990 ∷ []
unfolding result_of next read_of write_of register_at rule shown fresh bytes_of value_of
set_and_read_earlier = refl

-- Set to the highest value, it shows the host's time a second later.
set_and_read_past : results fresh (puts 1000 0x008 0xffff_ffff ∷ gets 1000 0x000 ∷ gets 1001 0x000 ∷ []) ≡ taken 0xffff_ffff ∷ answers 0xffff_ffff ∷ answers 1001 ∷ []
unfolding result_of next read_of write_of register_at rule shown fresh bytes_of value_of
set_and_read_past = refl

-- Identification, at and between its offsets.
identification : results fresh (gets 0 0xfe0 ∷ gets 0 0xfe3 ∷ gets 0 0xfe4 ∷ gets 0 0xffc ∷ []) ≡ answers 0x31 ∷ answers 0x31 ∷ answers 0x10 ∷ answers 0xb1 ∷ []
unfolding result_of next read_of write_of register_at rule shown fresh bytes_of value_of
identification = refl

-- A driver's start after firmware has set the time: RTCCR is read, or-ed with 1 and written back. The time is gone.
driver_start : results fresh (puts 1000 0x008 5 ∷ gets 1001 0x00c ∷ puts 1001 0x00c 1 ∷ gets 1010 0x000 ∷ gets 1010 0x008 ∷ [])
    ≡ taken 5 ∷ answers 1 ∷ taken 1 ∷ answers 1010 ∷ answers 0 ∷ []
unfolding result_of next read_of write_of register_at rule shown fresh bytes_of value_of
driver_start = refl

-- A write of 3 to RTCCR does nothing.
control_three : results fresh (puts 1000 0x008 5 ∷ puts 1001 0x00c 3 ∷ gets 1010 0x000 ∷ []) ≡ taken 5 ∷ taken 3 ∷ answers 15 ∷ []
unfolding result_of next read_of write_of register_at rule shown fresh bytes_of value_of
control_three = refl

-- A driver's alarm: RTCMR, RTCICR := 1, RTCIMSC := 1. The time comes and no status is raised.
driver_alarm : results fresh (puts 1000 0x004 1005 ∷ puts 1000 0x01c 1 ∷ puts 1000 0x010 1 ∷ gets 1005 0x000 ∷ gets 1006 0x014 ∷ gets 1006 0x018 ∷ [])
    ≡ taken 1005 ∷ taken 1 ∷ taken 1 ∷ answers 1005 ∷ answers 0 ∷ answers 0 ∷ []
unfolding result_of next read_of write_of register_at rule shown fresh bytes_of value_of
driver_alarm = refl

-- What is write only or reserved leaves the caller's bytes.
left_alone : results fresh (gets 0 0x01c ∷ gets 0 0x020 ∷ gets 0 0x001 ∷ gets 0 0x1000 ∷ []) ≡ left ∷ left ∷ left ∷ left ∷ []
unfolding result_of next read_of write_of register_at rule shown fresh bytes_of value_of
left_alone = refl

-- The identification bytes as the manual reads them: part 0x031, designer 0x41, revision 0; and PrimeCell's number.
part_number : value_of (take 4 ids) % 2 ^ 12 ≡ 0x031
unfolding value_of
part_number = refl

designer : value_of (take 4 ids) / 2 ^ 12 % 2 ^ 8 ≡ 0x41
unfolding value_of
designer = refl

revision : value_of (take 4 ids) / 2 ^ 20 % 2 ^ 4 ≡ 0
unfolding value_of
revision = refl

prime_cell : value_of (drop 4 ids) ≡ 0xb105_f00d
unfolding value_of
prime_cell = refl
