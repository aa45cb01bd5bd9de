-- Answers that wait to be written.
use Rattle.std.specs.Prelude.{ℕ, ◌+◌, ◌≡◌, List, ◌++◌, length, take}

-- `said` was put into `out` behind its first `at` bytes: the next byte goes to `r`, and before it stand those bytes and `said`.
pub record Puts (out : List ℕ) (at : ℕ) (said out' : List ℕ) (r : ℕ) : Type 0 where
  pub next : r ≡ at + length said
  pub bytes : take r out' ≡ take at out ++ said
