-- What the functions behind the calls promise: as the calls, but a refusal is an `Err` with its reason, and no word yet.
use Rattle.std.specs.Prelude.{ℕ, ◌≡◌, cond, ◌&&◌, List, length, Result, Ok, Err}
use Rattle.common.specs.Forms.{Reason, version, too_many, spare}
use Rattle.serial_form.specs.declared.version.Version as code
use Rattle.serial_form.specs.declared.version.Version.TheVariants.{Two, Three}
use Rattle.serial_form.specs.Form.{Version, version2, version3, number_of, form_of, Read, refused, reads}
use Rattle.serial_form.specs.Calls.{may_wait, has_no_spare, has_room, written, saved_after, waiting_after}

-- The code's versions are these.
abbrev pub version_of : code.Version → Version
version_of Two = version2
version_of Three = version3

-- A number is a version's, or that of none.
abbrev pub Known : ℕ → Result code.Version Reason → Type 0
Known n (Ok v) = n ≡ number_of (version_of v)
Known n (Err reason) = (reason ≡ version) × ((v : Version) → n ≡ number_of v → ⊥)

-- ---- Writing

abbrev pub length_or_reason : List ℕ → List ℕ → Result ℕ Reason
length_or_reason saved waiting =
    cond (may_wait saved waiting) (cond (has_no_spare saved) (Ok (length (form_of saved waiting))) (Err spare)) (Err too_many)

pub record Writes (saved waiting form form' : List ℕ) (r : Result ℕ Reason) : Type 0 where
  pub answer : r ≡ length_or_reason saved waiting
  pub memory :
      form' ≡ cond (may_wait saved waiting && has_no_spare saved && has_room (form_of saved waiting) form)
      (written (form_of saved waiting) form)
      form

-- ---- Reading

abbrev pub outcome_of : Read → Result ℕ Reason
outcome_of (refused reason) = Err reason
outcome_of (reads registers waiting) = Ok (length waiting)

pub record Brings (o : Read) (saved waiting saved' waiting' : List ℕ) (r : Result ℕ Reason) : Type 0 where
  pub answer : r ≡ outcome_of o
  pub registers : saved' ≡ saved_after o saved
  pub bytes : waiting' ≡ waiting_after o waiting
