use borrow.Author.Rules.{rules}
use Rattle.serial_form.specs.Form.{start}
use Rattle.serial_form.proofs.version.Version.start.Goals as goal

pub returns-in-Two : goal.returns-in-Two
unfolding start
returns-in-Two c = search rules

pub returns-in-Three : goal.returns-in-Three
unfolding start
returns-in-Three c = search rules
