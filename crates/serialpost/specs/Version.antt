-- The number of the interface: of the calls, of the memory that they are lent, and of the words that they answer. The names
-- of the calls carry it, and a host can compare it with the one that it was written for.
use Rattle.std.specs.Prelude.{ℕ}

abbrev pub version : ℕ
version = 5
