-- A line of the pattern's length is looked at character by character.
use Rattle.std.proofs.Common.{ℕ, sym, ◌∙◌, rules, ne_eqb}
use Rattle.std.proofs.lemmas.Iterator.{YieldsList-from_slice, YieldsList-from_zip}
use Rattle.std.proofs.lemmas.Iterator.Search.{all_from_yields_List}
use Rattle.words.specs.Pattern.{stands_for}
use Rattle.words.proofs.Patterns.{other_length, each_fits}
use Rattle.words.proofs.pattern.fits.Goals as goal

pub returns-then-line-pattern : goal.returns-then-line-pattern
returns-then-line-pattern c =
    all_from_yields_List (λ (pair : ℕ × ℕ). stands_for pair.0 pair.1) c.all.new.self _ c.all.result c.all.ensures.ran
    (YieldsList-from_zip (YieldsList-from_slice c.args.pattern.now cc) (YieldsList-from_slice c.args.line.now cc))
    (λ x b q k. search rules)
    ∙ each_fits _ _ c.if-line-pattern.true

pub returns-else-line-pattern : goal.returns-else-line-pattern
returns-else-line-pattern c = ne_eqb _ _ c.if-line-pattern.false ∙ sym (other_length _ _ c.if-line-pattern.false)
