-- The kinds of operations, as the code has them, by their numbers.
use Rattle.std.specs.Prelude.{ℕ, ◌≡◌, ◌<◌, Result, Ok, Err}
use Rattle.play.specs.declared.Kind as code
use Rattle.play.specs.declared.Kind.TheVariants.{Read, Write, Input, Room}
use Rattle.play.specs.declared.NoKind.{NoKind}

abbrev pub number_of : code.Kind → ℕ
number_of Read = 0
number_of Write = 1
number_of Input = 2
number_of Room = 3

abbrev pub Kinds : ℕ → Result code.Kind NoKind → Type 0
Kinds n (Ok kind) = n ≡ number_of kind
Kinds n (Err e) = 3 < n
