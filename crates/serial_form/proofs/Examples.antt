-- Forms written out, byte by byte.
use mathlib.Core.Path.{◌≡◌, refl}
use mathlib.Core.List.{List, [], ◌∷◌, ◌++◌}
use Prim.Native.Nat.{ℕ}
use lib.ListN.{take}
use Rattle.common.specs.Bytes.{bytes_of, value_of}
use Rattle.common.specs.Forms.{too_short, trailing, version, too_many}
use Rattle.serial.specs.Layout.{fresh_spare_registers}
use Rattle.serial_form.specs.Form.{number_of, form_by, form_of, refused, reads, no_others, saved_in, count_in, start}
use Rattle.serial_form.specs.Form.{read_behind, read_version, read_form}

-- A fresh port's first registers.
abbrev nine : List ℕ
nine = 0x0c ∷ 0x00 ∷ 0x01 ∷ 0x03 ∷ 0x08 ∷ 0x60 ∷ 0xb0 ∷ 0x00 ∷ 0x00 ∷ []

-- A port of 16 whose guest has written 0xc1 to FCR.
abbrev small : List ℕ
small = nine ++ (0xc1 ∷ (fresh_spare_registers ++ (0xf4 ∷ [])))

-- Two bytes wait.
abbrev form : List ℕ
form = 3 ∷ 0 ∷ 0x0c ∷ 0x00 ∷ 0x01 ∷ 0x03 ∷ 0x08 ∷ 0x60 ∷ 0xb0 ∷ 0x00 ∷ 0x00 ∷ 0xc1 ∷ 0xf4 ∷ 2 ∷ 0 ∷ 0x68 ∷ 0x69 ∷ []

written : form_of small (0x68 ∷ 0x69 ∷ []) ≡ form
unfolding form_by number_of bytes_of
written = refl

read : read_form form ≡ reads small (0x68 ∷ 0x69 ∷ [])
unfolding read_form read_version read_behind number_of saved_in count_in start value_of
read = refl

a_byte_missing : read_form (take 16 form) ≡ refused too_short
unfolding read_form read_version read_behind number_of saved_in count_in start value_of
a_byte_missing = refl

a_byte_more : read_form (form ++ (0 ∷ [])) ≡ refused trailing
unfolding read_form read_version read_behind number_of saved_in count_in start value_of
a_byte_more = refl

-- That bytes are missing too is not said.
seventeen : read_form (3 ∷ 0 ∷ (nine ++ (0xc1 ∷ 0xf4 ∷ 17 ∷ 0 ∷ []))) ≡ refused too_many
unfolding read_form read_version read_behind number_of saved_in count_in start value_of
seventeen = refl

-- ---- Version 2

old : read_form (2 ∷ 0 ∷ (nine ++ (2 ∷ 0 ∷ 0x68 ∷ 0x69 ∷ []))) ≡ reads (nine ++ no_others) (0x68 ∷ 0x69 ∷ [])
unfolding read_form read_version read_behind number_of saved_in count_in start value_of
old = refl

sixty_five : read_form (2 ∷ 0 ∷ (nine ++ (65 ∷ 0 ∷ []))) ≡ refused too_many
unfolding read_form read_version read_behind number_of saved_in count_in start value_of
sixty_five = refl

-- ---- Other versions

version_1 : read_form (1 ∷ 0 ∷ nine) ≡ refused version
unfolding read_form number_of value_of
version_1 = refl

version_4 : read_form (4 ∷ 0 ∷ nine) ≡ refused version
unfolding read_form number_of value_of
version_4 = refl

-- The version stands lowest byte first.
version_768 : read_form (0 ∷ 3 ∷ nine) ≡ refused version
unfolding read_form number_of value_of
version_768 = refl
