use Rattle.std.proofs.Common.{◌≡◌, drop, Some}
use Rattle.words.specs.Decimal.{longer, number_of}
use Rattle.words.proofs.decimal.parse.Given as goal

abbrev pub invariant-loop-c : goal.invariant-loop-c
invariant-loop-c l = number_of l.word ≡ longer (drop l.c-index l.word) (Some l.n)
