-- Bits of a number.
use Rattle.std.specs.Prelude.{ℕ, ◌/◌, ◌%◌, ◌^◌, Bool, not, eqb}
use Rattle.std.specs.Int.Bits.{bit_and}

-- Some bit of the mask is 1 in x.
abbrev pub on : ℕ → ℕ → Bool
on x mask = not (eqb (bit_and x mask) 0)

-- Bit n of x, counted from 0: 0 or 1.
abbrev pub bit : ℕ → ℕ → ℕ
bit x n = x / 2 ^ n % 2
