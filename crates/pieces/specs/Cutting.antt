-- How lines are cut off what is held, and which of them are to be answered.
use Rattle.std.specs.Prelude.{ℕ, ◌+◌, ◌-◌, Bool, true, false, cond, List, [], ◌∷◌, ◌++◌, eqb, ltb, leb, length, get_or, take, drop}
use Rattle.pieces.specs.Finding.{index_of, slice}
use Rattle.pieces.specs.declared.cut.Cut.{Cut}
use Rattle.pieces.specs.declared.cut.Kind.{Kind}
use Rattle.pieces.specs.declared.cut.Kind.TheVariants.{Silent, TooLong, Whole}

-- A line may have so many characters.
abbrev pub longest : ℕ
longest = 8192

-- ---- All lines of an input

-- The lines that end in `bytes`, each at a newline (0x0a), and what stands behind the last of them. Of the first `line` has come before.
unfoldable pub lines_in : List ℕ → List ℕ → List (List ℕ)
lines_in line [] = []
lines_in line (b ∷ bytes) = cond (eqb b 0x0a) (line ∷ lines_in [] bytes) (lines_in (line ++ (b ∷ [])) bytes)

unfoldable pub rest_of : List ℕ → List ℕ → List ℕ
rest_of line [] = line
rest_of line (b ∷ bytes) = cond (eqb b 0x0a) (rest_of [] bytes) (rest_of (line ++ (b ∷ [])) bytes)

-- What stands behind the last newline is a line too.
abbrev pub lines_of : List ℕ → List (List ℕ)
lines_of input = lines_in [] input ++ (rest_of [] input ∷ [])

-- ---- One line of what is held

-- Passed over: the rest of a line that was too long, an empty line, a comment (0x23 is `#`).
unfoldable pub kind_of : List ℕ → Bool → Kind
kind_of line passes =
    cond passes Silent
    (cond (eqb (length line) 0) Silent (cond (eqb (get_or line 0 0) 0x23) Silent (cond (ltb longest (length line)) TooLong Whole)))

-- Those from one place up to another.
abbrev pub bytes_from : ℕ → ℕ → List ℕ → List ℕ
bytes_from from to all = take (to - from) (drop from all)

-- The current line starts at `from` and has no newline (0x0a) before `seen`. It ends at the first newline before `end`. Where there is none
-- it goes on, unless it is too long already: then it is done with, and what is left of it is passed over.
abbrev pub stop_of : List ℕ → ℕ → ℕ → ℕ
stop_of all seen end = seen + index_of 0x0a (slice seen end all)

unfoldable pub cut_of : List ℕ → ℕ → ℕ → ℕ → Bool → Cut
cut_of all from seen end passes =
    let stop = stop_of all seen end in
    cond (ltb stop end)
    (record { kind = kind_of (bytes_from from stop all) passes; stop = stop; from = stop + 1; seen = stop + 1; passes = false })
    (cond (leb (end - from) longest) (record { kind = Silent; stop = stop; from = from; seen = end; passes = passes })
    (record { kind = kind_of (bytes_from from end all) passes; stop = stop; from = end; seen = end; passes = true }))
