-- Written by lists/manual.py from the lists: change these.
use Rattle.std.specs.Prelude.{List, [], ◌∷◌, true, false}
use Rattle.manual_lists.specs.Resets.{Line, w}

-- lists/differences/i8042-other-pulses.list
abbrev pub i8042_other_pulses : List Line
i8042_other_pulses =
    w 0x04 0xfc true
    ∷ w 0x04 0xfa true
    ∷ w 0x04 0xf8 true
    ∷ w 0x04 0xf6 true
    ∷ w 0x04 0xf4 true
    ∷ w 0x04 0xf2 true
    ∷ w 0x04 0xf0 true
    ∷ w 0x04 0xfe true
    ∷ w 0x04 0xf1 false
    ∷ w 0x04 0xff false
    ∷ w 0x04 0xee false
    ∷ w 0x00 0xfe false
    ∷ []
