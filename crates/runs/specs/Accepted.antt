-- Which bytes were accepted and which left again, as operations and their answers say it.
use Rattle.std.specs.Prelude.{ℕ, Bool, cond, not, ◌&&◌, eqb, take}
use mathlib.Core.List.{List, [], ◌∷◌, ◌++◌, tail}
use Rattle.common.specs.Bits.{on}
use Rattle.common.specs.Lists.{some}
use Rattle.serial.specs.Port.{Port, is_open, in_loop, has_room, Events, no_events, read_events, loop_events, flush_events}
use Rattle.runs.specs.Run.{Op, read, write, input, room, Answer, replied, sent, took, full}
use Rattle.runs.specs.Run as runs

-- What an answer says: the reply, how many bytes were taken, what happened.
abbrev pub reply : Answer → ℕ
reply (replied v e n) = v
reply (sent s e n) = 0
reply (took t n) = 0
reply (full n) = 0
reply (runs.has_room r) = 0

abbrev pub taken : Answer → ℕ
taken (replied v e n) = 0
taken (sent s e n) = 0
taken (took t n) = t
taken (full n) = 0
taken (runs.has_room r) = 0

abbrev pub events_of : Answer → Events
events_of (replied v e n) = e
events_of (sent s e n) = e
events_of (took t n) = no_events
events_of (full n) = no_events
events_of (runs.has_room r) = no_events

-- Accepted: of an input, as many of its bytes as were taken; in the loop, the byte written, where the answer says that it waits.
unfoldable pub accepted : Op → Answer → List ℕ
accepted (read offset) a = []
accepted (write offset value) a = cond (events_of a).looped (value ∷ []) []
accepted (input bytes) a = take (taken a) bytes
accepted room a = []

-- Delivered: the reply, where the answer says that a byte left with it.
unfoldable pub delivered : Answer → List ℕ
delivered a = cond (events_of a).delivered (reply a ∷ []) []

-- Gone: delivered, or thrown away by a write of FCR. The host hears how many those are.
unfoldable pub gone : Answer → List ℕ
gone a = delivered a ++ (events_of a).discarded

-- ---- Over a run

abbrev pub all_accepted : List Op → List Answer → List ℕ
all_accepted [] answers = []
all_accepted (o ∷ os) [] = []
all_accepted (o ∷ os) (a ∷ more) = accepted o a ++ all_accepted os more

abbrev pub all_delivered : List Answer → List ℕ
all_delivered [] = []
all_delivered (a ∷ more) = delivered a ++ all_delivered more

abbrev pub all_gone : List Answer → List ℕ
all_gone [] = []
all_gone (a ∷ more) = gone a ++ all_gone more

-- ---- When an answer says so

-- Offset 0 is RBR and THR while the divisor is closed.
abbrev pub is_data : Port → ℕ → Bool
is_data p offset = eqb offset 0 && not (is_open p)

-- Of a read: a byte is delivered where one waits, and none is left where no other does.
unfoldable pub told_by_read : Port → ℕ → Events
told_by_read p offset = cond (is_data p offset) (read_events (some p.waiting) (some (tail p.waiting))) no_events

-- FCR, at offset 2, empties the receiver by 0x02.
abbrev pub is_flush : ℕ → ℕ → Bool
is_flush offset value = eqb offset 2 && on value 0x02

-- Of a write, in the loop: its byte waits where there is room, and is dropped where there is none. Of FCR: what waited is thrown away.
unfoldable pub told_by_write : Port → ℕ → ℕ → Events
told_by_write p offset value =
    cond (is_data p offset && in_loop p) (loop_events (has_room p))
    (cond (is_flush offset value) (flush_events p.waiting) no_events)
