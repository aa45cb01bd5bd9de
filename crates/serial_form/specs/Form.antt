-- A saved serial port as bytes: the version at 0, registers 0 to 9 at 2, the register that tells the size at 12, how many bytes wait at 13,
-- these bytes at 15. The two numbers have two bytes each, lowest first. The spare registers, all 0, are left out.
use Rattle.std.specs.Prelude.{ℕ, cond, List, [], ◌∷◌, ◌++◌, length, take, drop, ltb, eqb}
use Rattle.common.specs.Bytes.{bytes_of, value_of}
use Rattle.common.specs.Forms.{Reason, too_short, trailing, version, too_many}
use Rattle.serial.specs.Layout.{size_of, fresh_spare_registers}

-- The versions that are read. Version 2 was written before FCR was remembered, and only of ports of 64.
pub data Version : Type 0 where
  version2 version3 : Version

unfoldable pub number_of : Version → ℕ
number_of version2 = 2
number_of version3 = 3

-- ---- Writing

-- A form of a version, of the registers that it has.
unfoldable pub form_by : Version → List ℕ → List ℕ → List ℕ
form_by v registers waiting = bytes_of 2 (number_of v) ++ (registers ++ (bytes_of 2 (length waiting) ++ waiting))

-- Version 3 is written. It has all registers but the spare ones.
abbrev pub form_of : List ℕ → List ℕ → List ℕ
form_of saved waiting = form_by version3 (take 10 saved ++ drop 15 saved) waiting

-- ---- Reading

pub data Read : Type 0 where
  refused : Reason → Read
  reads : List ℕ → List ℕ → Read

-- What stands where.
abbrev pub version_in : List ℕ → ℕ
version_in form = value_of (take 2 form)

-- Version 2 has registers 0 to 8. The others are 0: nothing is remembered of FCR, and the size is 64.
abbrev pub no_others : List ℕ
no_others = 0 ∷ (fresh_spare_registers ++ (0 ∷ []))

unfoldable pub saved_in : Version → List ℕ → List ℕ
saved_in version2 form = take 9 (drop 2 form) ++ no_others
saved_in version3 form = take 10 (drop 2 form) ++ (fresh_spare_registers ++ take 1 (drop 12 form))

unfoldable pub count_in : Version → List ℕ → ℕ
count_in version2 form = value_of (take 2 (drop 11 form))
count_in version3 form = value_of (take 2 (drop 13 form))

-- The waiting bytes are the last, from here on.
unfoldable pub start : Version → ℕ
start version2 = 13
start version3 = 15

-- n bytes wait: no more than the port's size, and just those that are there.
unfoldable pub read_behind : List ℕ → ℕ → List ℕ → Read
read_behind saved n bytes =
    cond (ltb (size_of saved) n) (refused too_many)
    (cond (ltb (length bytes) n) (refused too_short)
    (cond (ltb n (length bytes)) (refused trailing)
    (reads saved bytes)))

unfoldable pub read_version : Version → List ℕ → Read
read_version v form =
    cond (ltb (length form) (start v)) (refused too_short)
    (read_behind (saved_in v form) (count_in v form) (drop (start v) form))

-- No other version is read: version 1, which knew no waiting bytes, neither.
unfoldable pub read_form : List ℕ → Read
read_form form =
    cond (ltb (length form) 2) (refused too_short)
    (cond (eqb (version_in form) (number_of version3)) (read_version version3 form)
    (cond (eqb (version_in form) (number_of version2)) (read_version version2 form)
    (refused version)))
