-- When reading a form comes to what, said by conditions alone: what `read_form` decides by an order of tests.
use Rattle.std.specs.Prelude.{ℕ, ◌^◌, ◌≤◌, ◌<◌, ◌≡◌, true, List, ℤ, pos, negsuc, length}
use Rattle.common.specs.Forms.{too_short, trailing, version}
use Rattle.clock.specs.Registers.{Clock}
use Rattle.clock.specs.Layout.{Words, clock_of, spare_is_zero}
use Rattle.clock_form.specs.Form.{current, form_length, form_of, Read, refused, reads, version_in, words_in, read_form}

-- There is a version, and it is the current one.
pub record Known (form : List ℕ) : Type 0 where
  pub there : 2 ≤ length form
  pub known : version_in form ≡ current

pub data Comes (form : List ℕ) : Read → Type 0 where
  no_version : length form < 2 → Comes form (refused too_short)
  other_version : 2 ≤ length form → (version_in form ≡ current → ⊥) → Comes form (refused version)
  cut_off : Known form → length form < form_length → Comes form (refused too_short)
  left_over : Known form → form_length < length form → Comes form (refused trailing)
  whole : Known form → length form ≡ form_length → Comes form (reads (words_in form))

-- What was read is a clock that has a form, and this is it.
pub record ReadFrom (form words : List ℕ) : Type 0 where
  pub long : length form ≡ form_length
  pub fits : Words words
  pub spare : spare_is_zero words ≡ true
  pub written : form_of words ≡ form

-- ---- The states of vm-superio's clock: registers of 32 bits, and an offset of 64 with a sign

abbrev pub Signed64 : ℤ → Type 0
Signed64 (pos n) = n < 2 ^ 63
Signed64 (negsuc n) = n < 2 ^ 63

pub record RtcState (c : Clock) : Type 0 where
  pub lr : c.lr < 2 ^ 32
  pub mr : c.mr < 2 ^ 32
  pub imsc : c.imsc < 2 ^ 32
  pub ris : c.ris < 2 ^ 32
  pub offset : Signed64 c.ahead

-- Some words are this clock and have a form, which is read as them.
pub record HasForm (c : Clock) : Type 0 where
  pub words : List ℕ
  pub fits : Words words
  pub clock : clock_of words ≡ c
  pub spare : spare_is_zero words ≡ true
  pub read : read_form (form_of words) ≡ reads words
