-- The three ways in which a call meets its promise: nothing is stored, registers alone are stored, or the number of waiting bytes changes.
use mathlib.Core.Path.{◌≡◌, refl, sym, ap, ◌∙◌}
use mathlib.Core.List.{List}
use Prim.Native.Nat.{ℕ}
use lib.ListN.{length}
use Rattle.serial.specs.Port.{Port}
use Rattle.serial.specs.Layout.{places, start_of, count_of, port_of, unused_of, spare_positions}
use Rattle.serial.specs.Calls.{Answers}
use Rattle.serial.proofs.Registers.{Stored, spare_stays, same_registers}
use Rattle.ring.proofs.Laws.{queue_length}

pub waiting_length : (regs pos ring : List ℕ) → length (port_of regs pos ring).waiting ≡ count_of pos
unfolding port_of
waiting_length regs pos ring = queue_length places ring (start_of pos) (count_of pos)

module _ {regs pos ring : List ℕ} {r : ℕ} {port : Port} {word : ℕ} where
  pub as_it_was : port ≡ port_of regs pos ring → r ≡ word → Answers regs pos ring regs pos ring r port word
  as_it_was e a = record { answer = a; holds = sym e; unused_bytes_kept = refl; spares_kept = (refl, refl); unchanged_if_same_port = λ _. (refl, (refl, refl)) }

  pub registers_alone : {regs' : List ℕ} → length regs ≡ 16 → Stored regs regs' → port_of regs' pos ring ≡ port → r ≡ word
      → Answers regs pos ring regs' pos ring r port word
  registers_alone {regs'} n k e a = record {
    answer = a;
    holds = e;
    unused_bytes_kept = refl;
    spares_kept = (spare_stays k, refl);
    unchanged_if_same_port = λ s. (same_registers regs pos ring regs' pos ring n k (e ∙ s), (refl, refl));
  }

  pub other_count : {regs' pos' ring' : List ℕ} → port_of regs' pos' ring' ≡ port → unused_of pos' ring' ≡ unused_of pos' ring
      → Stored regs regs' → spare_positions pos' ≡ spare_positions pos → (count_of pos' ≡ count_of pos → ⊥) → r ≡ word
      → Answers regs pos ring regs' pos' ring' r port word
  other_count {regs'} {pos'} {ring'} e k s p d a = record {
    answer = a;
    holds = e;
    unused_bytes_kept = k;
    spares_kept = (spare_stays s, p);
    unchanged_if_same_port =
        λ same. absurd
        (d (sym (waiting_length regs' pos' ring') ∙ ap (λ (p : Port). length p.waiting) (e ∙ same) ∙ waiting_length regs pos ring));
  }
