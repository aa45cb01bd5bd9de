-- Which bytes were accepted and which left again, as the words themselves say it.
use Rattle.std.specs.Prelude.{ℕ, ◌/◌, ◌%◌, ◌<◌, ◌≡◌, cond, List, [], ◌∷◌, ◌++◌, eqb, length, take}
use Rattle.common.specs.Answer.{delivered_bit, looped_bit, flushed_bit}
use Rattle.common.specs.Lists.{first_or0}
use Rattle.runs.specs.Run.{Op, read, write, input, room, Answer, replied, sent, took, full, has_room}

-- In the loop the byte written, where its bit is 1; of an input as many bytes as the number says, 0 where it is refused.
unfoldable pub accepted_by : Op → ℕ → List ℕ
accepted_by (read offset) word = []
accepted_by (write offset value) word = cond (eqb (word / looped_bit % 2) 1) (value ∷ []) []
accepted_by (input bytes) word = take (word % 0x1_0000) bytes
accepted_by room word = []

-- The low eight bits, where the bit of delivery is 1.
unfoldable pub delivered_by : ℕ → List ℕ
delivered_by word = cond (eqb (word / delivered_bit % 2) 1) (word % 256 ∷ []) []

-- How many bytes were thrown away: the number, where the bit of a flush is 1.
unfoldable pub discarded_by : ℕ → ℕ
discarded_by word = cond (eqb (word / flushed_bit % 2) 1) (word % 0x1_0000) 0

abbrev pub all_accepted_by : List Op → List ℕ → List ℕ
all_accepted_by [] words = []
all_accepted_by (o ∷ os) [] = []
all_accepted_by (o ∷ os) (w ∷ words) = accepted_by o w ++ all_accepted_by os words

-- These bytes left, by the words: those that were delivered, and as many as were thrown away.
abbrev pub GoneBy : List ℕ → List ℕ → Type 0
GoneBy [] gone = gone ≡ []
GoneBy (w ∷ words) gone =
    (thrown : List ℕ) × ((rest : List ℕ)
    × ((length thrown ≡ discarded_by w) × ((gone ≡ (delivered_by w ++ thrown) ++ rest) × GoneBy words rest)))

-- The numbers in answers have their places in a word: a reply and a byte sent have 8 bits, bytes taken, thrown away and the room 16.
abbrev pub Fits : Answer → Type 0
Fits (replied v e n) = v < 256
Fits (sent s e n) = (first_or0 s < 256) × (length e.discarded < 0x1_0000)
Fits (took t n) = t < 0x1_0000
Fits (full n) = Unit {0}
Fits (has_room r) = r < 0x1_0000

abbrev pub AllFit : List Answer → Type 0
AllFit [] = Unit {0}
AllFit (a ∷ more) = Fits a × AllFit more
