-- What of a port's memory counts: the ten registers, the size, how many bytes wait, and those bytes; not where they lie, not what lies
-- elsewhere, and not what is spare.
use Rattle.std.specs.Prelude.{ℕ, ◌+◌, ◌%◌, ◌<◌, ◌≡◌, List, get_or}
use Rattle.serial.specs.Layout.{places, size_of, start_of, count_of}

-- Where the byte lies that waits behind k others.
abbrev pub place_of : List ℕ → ℕ → ℕ
place_of pos k = (start_of pos + k) % places

pub record Alike (regs pos ring regs' pos' ring' : List ℕ) : Type 0 where
  pub registers : (i : ℕ) → i < 10 → get_or regs i 0 ≡ get_or regs' i 0
  pub size : size_of regs ≡ size_of regs'
  pub count : count_of pos ≡ count_of pos'
  pub bytes : (k : ℕ) → k < count_of pos → get_or ring (place_of pos k) 0 ≡ get_or ring' (place_of pos' k) 0
