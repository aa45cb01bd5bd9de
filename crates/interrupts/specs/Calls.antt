-- What a function that ends an access promises of its answer.
use Rattle.std.specs.Prelude.{ℕ, ◌≤◌, ◌≡◌, false, Option, unwrap_or}
use Rattle.interrupts.specs.Interrupts.{Kind, Ended, is_enabled}

-- What is to be stored in IIR, and how often the interrupt is to be raised; no more often than `most`. Where nothing is to be stored, that
-- is what was stored before.
pub record Tells (a : Ended) (before : ℕ) (iir : Option ℕ) (raises most : ℕ) : Type 0 where
  pub stored : unwrap_or iir before ≡ a.iir
  pub raised : raises ≡ a.raises
  pub few : raises ≤ most

-- No kind is enabled.
abbrev pub Quiet : ℕ → Type 0
Quiet ier = (kind : Kind) → is_enabled ier kind ≡ false
