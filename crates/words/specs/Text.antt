-- Texts as the lists of their characters.
use Rattle.std.specs.Prelude.{ℕ, List, [], ◌∷◌}
use Prim.Native.Char.{code}
use Prim.Native.String as String

abbrev pub text : String.String → List ℕ
text String.[] = []
text (String.◌∷◌ c s) = code c ∷ text s
