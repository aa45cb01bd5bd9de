-- What the calls promise: the answer, and the lent memory after it.
use Rattle.std.specs.Prelude.{ℕ, zero, suc, ◌≡◌, Bool, true, false, cond, ◌&&◌, List, [], ◌∷◌, ◌++◌, length, drop, leb}
use Rattle.common.specs.Forms.{too_many, spare, refusal_word}
use Rattle.serial.specs.Layout.{size_of, spare_registers}
use Rattle.serial_form.specs.Form.{Read, refused, reads, form_of}

-- The first bytes are these, the others stay.
abbrev pub written : List ℕ → List ℕ → List ℕ
written bytes memory = bytes ++ drop (length bytes) memory

-- ---- Writing

-- How long the form is. It is written where there is room for it. More bytes than may wait are refused, and then a spare register other
-- than 0, which the form does not have.

abbrev pub may_wait : List ℕ → List ℕ → Bool
may_wait saved waiting = leb (length waiting) (size_of saved)

abbrev pub are_zero : List ℕ → Bool
are_zero [] = true
are_zero (zero ∷ l) = are_zero l
are_zero (suc x ∷ l) = false

abbrev pub has_no_spare : List ℕ → Bool
has_no_spare saved = are_zero (spare_registers saved)

abbrev pub has_room : List ℕ → List ℕ → Bool
has_room bytes memory = leb (length bytes) (length memory)

pub record Encodes (saved waiting form form' : List ℕ) (r : ℕ) : Type 0 where
  pub answer :
      r ≡ cond (may_wait saved waiting) (cond (has_no_spare saved) (length (form_of saved waiting)) (refusal_word spare)) (refusal_word too_many)
  pub memory :
      form' ≡ cond (may_wait saved waiting && has_no_spare saved && has_room (form_of saved waiting) form)
      (written (form_of saved waiting) form)
      form

-- ---- Reading: how many bytes wait, or why the form is refused. A refusal leaves all bytes as they were.

abbrev pub answer_of : Read → ℕ
answer_of (refused reason) = refusal_word reason
answer_of (reads registers waiting) = length waiting

abbrev pub saved_after : Read → List ℕ → List ℕ
saved_after (refused reason) saved = saved
saved_after (reads registers waiting) saved = registers

abbrev pub waiting_after : Read → List ℕ → List ℕ
waiting_after (refused reason) memory = memory
waiting_after (reads registers waiting) memory = written waiting memory

pub record Decodes (o : Read) (saved waiting saved' waiting' : List ℕ) (r : ℕ) : Type 0 where
  pub answer : r ≡ answer_of o
  pub registers : saved' ≡ saved_after o saved
  pub bytes : waiting' ≡ waiting_after o waiting
