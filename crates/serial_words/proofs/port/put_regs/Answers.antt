-- Register by register; each answer is a law of `Saying`.
use Rattle.std.proofs.Common.{◌<◌, arith, append_assoc, ◌∙◌, ap, refl, ◌++◌, List, ℕ}
use Rattle.serial_words.proofs.Saying.{one_more_shown, nine_said}
use Rattle.serial_words.proofs.port.put_regs.Goals as goal

pub loop-byte-preserved : goal.loop-byte-preserved
loop-byte-preserved c =
    let inside : c.loop-byte.byte-index < 9 = omega arith in
    record {
      near = omega (arith, c.loop-byte.invariant.near, c.put_next.ensures.upper_bound);
      said = rw (c.put_next.ensures.says, c.loop-byte.invariant.said, one_more_shown _ c.loop-byte.byte-index inside) (simp append_assoc refl);
    }

pub returns-clause-by_index : goal.returns-clause-by_index
returns-clause-by_index c = λ pos ring.
    c.loop-byte.invariant.said ∙ ap (λ (said : List ℕ). c.args.out.now ++ said) (nine_said c.args.regs.now pos ring _ (omega arith))
