-- What runs from a fresh port come to.
use Rattle.std.specs.Prelude.{ℕ, ◌<◌, ◌≡◌, List, [], ◌∷◌}
use Rattle.common.specs.Bytes.{Bytes}
use Rattle.serial.specs.Port.{Port, fresh}
use Rattle.runs.specs.Run.{Op, read, write, input, room, run}

-- Operations whose offsets, values and bytes are bytes.
abbrev pub OfBytes : Op → Type 0
OfBytes (read offset) = offset < 256
OfBytes (write offset value) = (offset < 256) × (value < 256)
OfBytes (input bytes) = Bytes bytes
OfBytes room = Unit {0}

abbrev pub AllOfBytes : List Op → Type 0
AllOfBytes [] = Unit {0}
AllOfBytes (o ∷ os) = OfBytes o × AllOfBytes os

-- Some run of bytes from a fresh port comes to this one.
abbrev pub Reached : ℕ → Port → Type 0
Reached size p = (os : List Op) × AllOfBytes os × ((run (fresh size) os).port ≡ p)
