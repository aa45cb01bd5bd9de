-- What each answer of a write in the loop is in the definition.
use mathlib.Core.Path.{◌≡◌, ap, ◌∙◌}
use mathlib.Core.Bool.{Bool, not}
use mathlib.Core.List.{List, [], ◌∷◌}
use Prim.Native.Nat.{ℕ, ◌+◌, ◌*◌, ◌≤◌, ◌<◌}
use native.Mathlib.Omega.{arith}
use lib.Dec.{eqb}
use lib.ListN.{length, get_or, set, length-set}
use Rattle.serial.specs.Port.{Port, receives, emptied, write_loop}
use Rattle.serial.specs.Layout.{places, size_of, start_of, count_of, port_of}
use Rattle.common.specs.Answer.{looped_bit, dropped_bit, one_raise}
use Rattle.serial.specs.Calls.{Writes}
use Rattle.serial.specs.Inside.{Received, Emptied}
use Rattle.ring.specs.Ring.{Put}
use Rattle.serial.proofs.Sizes.{size_few, counts_itself}
use Rattle.serial.proofs.Registers.{Stored, one_stored}
use Rattle.serial.proofs.Answering.{registers_alone, other_count}
use Rattle.serial.proofs.Emptying.{in_memory, raised_emptied, holds_emptied}
use Rattle.serial.proofs.Receiving.{full, not_full, there, came, unused_kept, stored, moved, raised}

both : {regs regs₁ regs' : List ℕ} → Stored regs regs₁ → Stored regs₁ regs' → Stored regs regs'
both a b = record { long = b.long ∙ a.long; others = b.others ∙ a.others }

module _ (regs pos ring : List ℕ) (l : length regs ≡ 16) (n : ℕ) (here : n ≡ get_or pos 1 0) (v : ℕ) where
  abbrev waits : Bool
  waits = not (eqb (get_or pos 1 0) 0)

  abbrev regs₁ : List ℕ
  regs₁ = set regs 2 (in_memory regs pos ring).iir

  emptied_stored : Stored regs regs₁
  emptied_stored = one_stored regs 2 _ (omega arith)

  -- The receiver is full: the byte is lost.
  pub loop_drops : {regs' : List ℕ} {raises r : ℕ} → Emptied regs waits regs' raises → size_of regs ≤ n → r ≡ dropped_bit + one_raise * raises
      → Writes (λ q. write_loop q v) regs pos ring regs' pos ring r
  unfolding write_loop
  loop_drops a f e =
      rw (full regs pos ring (rw (← here) f), a.stored)
      (registers_alone l emptied_stored (holds_emptied regs pos ring l) (omega (arith, e, a.raised, raised_emptied regs pos ring)))

  -- The byte comes.
  module _ (m : length pos ≡ 4) {regs₂ regs' pos' ring' : List ℕ} {raises more : ℕ} (a : Emptied regs waits regs₂ raises) (d : n < size_of regs)
      (put : Put places ring (start_of pos) n (v ∷ []) ring' (n + 1)) (got : Received regs₂ pos (n + 1) regs' pos' more) where
    room : get_or pos 1 0 < size_of regs
    room = rw (← here) d

    c : n ≡ count_of pos
    c = here ∙ counts_itself regs pos room

    fits : n + 1 ≤ places
    fits = omega (arith, size_few regs)

    got₁ : Received regs₁ pos (n + 1) regs' pos' more
    got₁ = rw a.stored at got

    long₁ : length regs₁ ≡ 16
    long₁ = length-set regs 2 _ ∙ l

    holds : port_of regs' pos' ring' ≡ (receives (emptied (port_of regs pos ring)) (v ∷ [])).port
    holds = came regs₁ pos ring n c long₁ m (n + 1) fits put got₁
        ∙ ap (λ (p : Port). (receives p (v ∷ [])).port) (holds_emptied regs pos ring l)

    raised₁ : more ≡ (receives (emptied (port_of regs pos ring)) (v ∷ [])).raises
    raised₁ = raised regs₁ pos ring n c long₁ m (n + 1) fits put got₁
        ∙ ap (λ (p : Port). (receives p (v ∷ [])).raises) (holds_emptied regs pos ring l)

    longer : count_of pos' ≡ count_of pos → ⊥
    longer same = omega (arith, (there regs₁ pos ring n c long₁ m (n + 1) fits put got₁).1, ap count_of got₁.counted, same, c)

    pub loop_receives : {r : ℕ} → r ≡ looped_bit + one_raise * (raises + more) → Writes (λ q. write_loop q v) regs pos ring regs' pos' ring' r
    unfolding write_loop
    loop_receives e =
        rw (not_full regs pos ring room)
        (other_count holds (unused_kept regs₁ pos ring n c long₁ m (n + 1) fits put got₁)
        (both emptied_stored (stored regs₁ pos ring n c long₁ m (n + 1) fits put got₁))
        (moved regs₁ pos ring n c long₁ m (n + 1) fits put got₁) longer
        (omega (arith, e, a.raised, raised₁, raised_emptied regs pos ring)))
