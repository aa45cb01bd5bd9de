-- What the line status register says of the bytes that wait.
use Rattle.std.specs.Prelude.{◌≡◌, Bool, false, ◌||◌, List, [], ◌∷◌}
use Rattle.common.specs.Bits.{on}
use Rattle.common.specs.Lists.{some}
use Rattle.serial.specs.Port.{Port}
use Rattle.runs.specs.Run.{Op, Answer}
use Rattle.runs.specs.Accepted.{accepted, events_of}

-- It tells the truth: data ready (LSR 0x01) is 1 exactly if a byte waits.
abbrev pub Truthful : Port → Type 0
Truthful p = on p.lsr 0x01 ≡ some p.waiting

-- What it says and whether a byte waits are as they were.
pub record Same (p q : Port) : Type 0 where
  pub says : on q.lsr 0x01 ≡ on p.lsr 0x01
  pub waits : some q.waiting ≡ some p.waiting

-- The operations after which it is true whatever it said before, as their answers tell: bytes are accepted, or RBR is read and no byte is
-- left, or FCR empties the receiver.
unfoldable pub settles : Op → Answer → Bool
settles o a = some (accepted o a) || ((events_of a).none_left || (events_of a).flushed)

-- Some operation of the run is one of them.
abbrev pub settled : List Op → List Answer → Bool
settled [] answers = false
settled (o ∷ os) [] = false
settled (o ∷ os) (a ∷ more) = settles o a || settled os more
