-- The chip by itself, from reset: runs with the answers that the manual's rules give. Inside a row nothing else holds the definition to the
-- manual.
use mathlib.Core.Path.{refl}
use mathlib.Core.List.{[], ◌∷◌}
use Prim.Native.Nat.{ℕ}
use Rattle.sidebyside.specs.Runs.{Step, does, tells, hushes, Told}
use Rattle.pl031.specs.Chip.{second, read, write, after_reset}
use Rattle.pl031.specs.Compare.{pair}
use Rattle.pl031.proofs.Computing.{computing}

-- A second; a write; a read and its answer; a read of which the manual says nothing.
abbrev s : Step pair
s = does second

abbrev w : ℕ → ℕ → Step pair
w offset v = does (write offset v)

abbrev r : ℕ → ℕ → Step pair
r offset v = tells (read offset) v

abbrev r? : ℕ → Step pair
r? offset = hushes (read offset)

-- After reset all is 0. ICR is write only, and what is reserved has no meaning.
pub after_reset_lem : Told pair after_reset (r 0x000 0 ∷ r 0x004 0 ∷ r 0x008 0 ∷ r 0x00c 0 ∷ r 0x010 0 ∷ r 0x014 0 ∷ r 0x018 0 ∷ r? 0x01c ∷ r? 0x020 ∷ r? 0x002 ∷ [])
unfolding computing
after_reset_lem = refl

-- The identification, a word each.
pub identification : Told pair after_reset
    (r 0xfe0 0x31 ∷ r 0xfe4 0x10 ∷ r 0xfe8 0x04 ∷ r 0xfec 0x00 ∷ r 0xff0 0x0d ∷ r 0xff4 0xf0 ∷ r 0xff8 0x05 ∷ r 0xffc 0xb1 ∷ r? 0xfe1 ∷ r? 0x1000 ∷ [])
unfolding computing
identification = refl

-- The clock stands until bit 0 of CR is written; no write stops it or sets it back.
pub started_once : Told pair after_reset
    (s ∷ r 0x000 0 ∷ w 0x00c 2 ∷ s ∷ r 0x000 0 ∷ r 0x00c 0 ∷ w 0x00c 1 ∷ s ∷ s ∷ r 0x000 2 ∷ r 0x00c 1 ∷ w 0x00c 0 ∷ s ∷ r 0x000 3 ∷ r 0x00c 1 ∷ w 0x00c 1 ∷ r 0x000 3 ∷ [])
unfolding computing
started_once = refl

-- Bit 0 alone starts it.
pub started_by_bit_0 : Told pair after_reset (w 0x00c 0xffff_fffe ∷ s ∷ r 0x000 0 ∷ r 0x00c 0 ∷ w 0x00c 0xffff_ffff ∷ s ∷ r 0x000 1 ∷ r 0x00c 1 ∷ [])
unfolding computing
started_by_bit_0 = refl

-- LR sets the counter, standing or running, and starts nothing; it reads as it was written; a value is 32 bits.
pub load : Told pair after_reset
    (w 0x008 101 ∷ s ∷ r 0x000 101 ∷ w 0x00c 1 ∷ s ∷ r 0x000 102 ∷ w 0x008 0x1_0000_0007 ∷ r 0x000 7 ∷ s ∷ r 0x000 8 ∷ r 0x008 7 ∷ [])
unfolding computing
load = refl

-- After the highest value comes 0; and 0 is the match value out of reset.
pub wrap : Told pair after_reset (w 0x00c 1 ∷ w 0x008 0xffff_ffff ∷ r 0x000 0xffff_ffff ∷ r 0x014 0 ∷ s ∷ r 0x000 0 ∷ r 0x014 1 ∷ s ∷ r 0x000 1 ∷ [])
unfolding computing
wrap = refl

-- The raw status is set as the counter comes to the match value, not before and not by writing MR, and is held behind it.
pub match_held : Told pair after_reset
    (w 0x00c 1 ∷ w 0x008 10 ∷ w 0x004 12 ∷ s ∷ r 0x014 0 ∷ s ∷ r 0x014 1 ∷ s ∷ r 0x014 1 ∷ r 0x000 13 ∷ r 0x004 12
    ∷ w 0x01c 1 ∷ r 0x014 0 ∷ w 0x004 13 ∷ r 0x014 0 ∷ [])
unfolding computing
match_held = refl

-- A reading of what the manual leaves open: to write MR with the counter's value is no match, whether the clock stands or runs. Nor does the
-- next second make it one.
pub no_match_by_writing : Told pair after_reset
    (w 0x008 7 ∷ w 0x004 7 ∷ r 0x014 0 ∷ w 0x00c 1 ∷ s ∷ r 0x000 8 ∷ r 0x014 0 ∷ w 0x004 8 ∷ r 0x004 8 ∷ r 0x014 0 ∷ s ∷ r 0x014 0 ∷ [])
unfolding computing
no_match_by_writing = refl

-- Loading the match value sets it; the mask lets it through, and has one bit; ICR clears it by its bit 0 alone; DR, RIS and MIS cannot be
-- written.
pub masked : Told pair after_reset
    (w 0x004 5 ∷ w 0x008 5 ∷ r 0x014 1 ∷ r 0x018 0 ∷ w 0x010 0xff ∷ r 0x010 1 ∷ r 0x018 1 ∷ w 0x01c 0xffff_fffe ∷ r 0x018 1 ∷ w 0x014 0 ∷ w 0x018 0 ∷ r 0x018 1
    ∷ w 0x010 0xffff_fffe ∷ r 0x018 0 ∷ r 0x014 1 ∷ w 0x01c 3 ∷ r 0x014 0 ∷ w 0x000 6 ∷ r 0x000 5 ∷ [])
unfolding computing
masked = refl
