use mathlib.Core.Path.{◌≡◌, sym, ◌∙◌}
use Prim.Native.Nat.{ℕ, ◌+◌, ◌*◌, ◌%◌, ◌^◌, ◌<◌}
use native.Mathlib.Omega.{arith}
use lib.Bits.{bit_and, bit_or, and_mask, or_shifted_r}
use Rattle.common.specs.Bits.{bit}
use Rattle.common.proofs.EveryByte.{same}
use Rattle.modem.specs.Modem.{looped_lines, msr_read}
use Rattle.modem.proofs.msr_read.Goals as goal

-- The lines by shifts and masks are a high half ..
abbrev shifted : ℕ → ℕ
shifted mcr = bit_or (bit_or (bit_and mcr 0x02 * 8 % 256) (bit_and mcr 0x01 * 32 % 256)) (bit_and mcr 0x0c * 16 % 256)

abbrev half : ℕ → ℕ
half mcr = bit mcr 1 + bit mcr 0 * 2 + bit mcr 2 * 4 + bit mcr 3 * 8

wired : (mcr : ℕ) → mcr < 256 → shifted mcr ≡ half mcr * 2 ^ 4
wired = same shifted (λ mcr. half mcr * 2 ^ 4) tt

-- .. which shares no bit with a low half.
joined : (mcr msr : ℕ) → mcr < 256 → bit_or (bit_and msr 0x0f) (shifted mcr) ≡ msr % 0x10 + looped_lines mcr
joined mcr msr h = rw (wired mcr h, and_mask msr 4, or_shifted_r (half mcr) 4 (msr % 0x10) (omega arith)) (omega arith)

pub returns-then-is_loop : goal.returns-then-is_loop
unfolding msr_read
returns-then-is_loop c = rw (sym c.is_loop.ensures ∙ c.if-is_loop.true) (joined _ _ (omega arith))
