-- The chip that a port is follows it: `follows_first` of `Behind`, for what rests on it there. (An edit of a theorem reads only where
-- nothing of its file rests on it.)
use mathlib.Core.Path.{refl}
use lib.Dec.{lit<}
use Rattle.serial.specs.Port.{Port}
use Rattle.pc16550d.specs.Compare.{chip_of}
use Rattle.pc16550d.specs.Behind.{Follows}

pub follows_itself : (p : Port) → Follows p (chip_of p)
unfolding chip_of
follows_itself p = record { same = refl; four = lit< tt; quiet = refl }
