-- The alarm of the clock: when its value has come to the match register, the raw status, and the interrupt line. Numbers alone: nothing here
-- knows the clock's memory or the host's time.
use Rattle.std.specs.Prelude.{ℕ, Bool, cond, not, ◌&&◌, ◌||◌, eqb, leb, ltb}
use Rattle.std.specs.Int.Bits.{bit_and, bit_or}
use Rattle.alarm.specs.declared.Watch.{Watch}
use Rattle.alarm.specs.declared.Watch.TheVariants.{Unknown, Looked, Set}

-- ---- What is known of the clock's value before now: a number `watch`, and `last`

-- Nothing: the clock is fresh, or comes from where nobody watched it. `last` has no meaning.
abbrev pub unknown : ℕ
unknown = 0

-- The clock was looked at, and showed `last`.
abbrev pub looked : ℕ
looked = 1

-- The guest set the clock or its alarm, and the clock showed `last` after that; nobody has looked since. So is any other number taken.
abbrev pub set : ℕ
set = 2

-- What a number says of it.
abbrev pub known : ℕ → Watch
known watch = cond (eqb watch unknown) Unknown (cond (eqb watch looked) Looked Set)

-- ---- The match

-- From `last` on the clock has come up to the match register, or past it; or it stands there, from wherever it came.
abbrev pub reaches : ℕ → ℕ → ℕ → Bool
reaches last match value = eqb value match || (leb last match && leb match value)

-- The clock, which shows `value`, has come to the match register. Where it stood there when it was looked at, it had come before. Where
-- nothing is known, nothing can have passed, and 0, which the register is out of reset, is no alarm.
abbrev pub comes_from : Watch → ℕ → ℕ → ℕ → Bool
comes_from Unknown last match value = eqb value match && ltb 0 match
comes_from Looked last match value = not (eqb last match) && reaches last match value
comes_from Set last match value = reaches last match value

abbrev pub comes : ℕ → ℕ → ℕ → ℕ → Bool
comes last watch match value = comes_from (known watch) last match value

-- The raw status after a look: bit 0 is set where the clock has come to the match register, and nothing else sets it.
abbrev pub raw_after : Bool → ℕ → ℕ
raw_after come raw = cond come (bit_or raw 1) raw

-- ---- The interrupt

-- The line is high while the mask lets a bit of the raw status through.
abbrev pub is_high : ℕ → ℕ → Bool
is_high raw mask = not (eqb (bit_and raw mask) 0)

-- A call that finds it low and leaves it high raises the interrupt once.
abbrev pub rises : Bool → Bool → ℕ
rises before after = cond (not before && after) 1 0
