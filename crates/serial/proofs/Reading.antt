-- What each answer of a read is in the definition.
use mathlib.Core.Path.{◌≡◌, refl, sym, ap, ◌∙◌}
use mathlib.Core.List.{List, [], ◌∷◌}
use Prim.Native.Nat.{ℕ, zero, suc, ◌+◌, ◌-◌, ◌%◌, ◌≤◌}
use native.Mathlib.Nat.{mod-mod}
use native.Mathlib.Omega.{arith}
use lib.ListN.{length, get_or, set}
use lib.Seq.{get_or-set_other, set-get_or, drop-set-lt}
use mathlib.Core.Bool.{Bool, true, false, not}
use lib.Dec.{eqb, ltb}
use borrow.Author.Tests.{lt-ltb, le-ltb}
use Rattle.common.specs.Lists.{some}
use Rattle.interrupts.specs.Interrupts.{is_high, identification, after_identification, after_data_read}
use Rattle.line_status.specs.LineStatus.{lsr_after_read}
use Rattle.serial.specs.Port.{Port, Register, is_open, addressed, replies, read_register, read_events, read_rbr, read_iir, read_of, line}
use Rattle.ring.specs.Ring.{queue}
use Rattle.serial.specs.Layout.{places, start_of, count_of, port_of, spare_positions}
use Rattle.serial.specs.Calls.{event_bits, Reads}
use Rattle.serial.specs.Inside.{WaitAfterRead, Taken}
use Rattle.ring.proofs.Laws.{queue_length, queue_round, queue_first}
use Rattle.serial.proofs.Leaves.{waits_is, some_left}
use Rattle.serial.proofs.Registers.{Stored, one_stored, then_stored, marks, receiver, placed}
use Rattle.serial.proofs.Answering.{as_it_was, registers_alone, other_count}

-- Bytes are left of k where k is more than 1.
more_left : (k : ℕ) (left : List ℕ) → (k ≡ 0 → ⊥) → length left ≡ k - 1 → ltb 1 k ≡ some left
more_left k [] z e = le-ltb 1 k (omega arith)
more_left k (x ∷ left) z e = lt-ltb 1 k (omega arith)

-- IIR and LSR are stored; the positions move on.
both_stored : (regs : List ℕ) (iir lsr : ℕ) → Stored regs (set (set regs 2 iir) 5 lsr)
both_stored regs iir lsr = then_stored 5 lsr (omega arith) (one_stored regs 2 iir (omega arith))

moved_spare : (pos : List ℕ) (i m : ℕ) → spare_positions (set (set pos 0 i) 1 m) ≡ spare_positions pos
moved_spare pos i m = drop-set-lt 2 (set pos 0 i) 1 m (omega arith) ∙ drop-set-lt 2 pos 0 i (omega arith)

module _ (regs pos ring : List ℕ) where
  abbrev p : Port
  p = port_of regs pos ring

  -- A register that a read leaves as it is.
  pub answers : (offset r : ℕ) {register : Register} {v : ℕ} → addressed (is_open p) offset ≡ register
      → read_register p register ≡ replies p v → r ≡ v
      → Reads (λ q. read_of q offset) regs pos ring regs pos r
  answers offset r a e b = rw (a, e) (as_it_was refl (rw b (omega arith)))

  -- The same at the offsets that DLAB does not touch: `refl` says which register lies at n.
  pub answers_at : (offset r n : ℕ) {v : ℕ} → offset ≡ n → read_register p (addressed (is_open p) n) ≡ replies p v → r ≡ v
      → Reads (λ q. read_of q offset) regs pos ring regs pos r
  answers_at offset r n k e b = rw k (answers n r refl e b)

  -- LCR, MCR and LSR, each at its offset.
  pub answers_kept : (offset r : ℕ) → 3 ≤ offset → offset ≤ 5 → r ≡ get_or regs offset 0
      → Reads (λ q. read_of q offset) regs pos ring regs pos r
  unfolding port_of addressed read_register
  answers_kept (suc (suc (suc zero))) r l h b = answers_at 3 r 3 refl refl b
  answers_kept (suc (suc (suc (suc zero)))) r l h b = answers_at 4 r 4 refl refl b
  answers_kept (suc (suc (suc (suc (suc zero))))) r l h b = answers_at 5 r 5 refl refl b
  answers_kept (suc (suc (suc (suc (suc (suc offset)))))) r l h b = absurd (omega arith)
  answers_kept (suc (suc zero)) r l h b = absurd (omega arith)
  answers_kept (suc zero) r l h b = absurd (omega arith)
  answers_kept zero r l h b = absurd (omega arith)

  -- The line.
  pub is_line : {r : Bool} → r ≡ is_high (get_or regs 1 0) (get_or regs 2 0) (not (eqb (get_or pos 1 0) 0)) → r ≡ line p
  unfolding port_of
  is_line e = rw (waits_is regs pos ring) e

  -- A read of a register by a call of its own.
  pub hands_on : (offset r : ℕ) {register : Register} {regs' pos' : List ℕ} → addressed (is_open p) offset ≡ register
      → Reads (λ q. read_register q register) regs pos ring regs' pos' r
      → Reads (λ q. read_of q offset) regs pos ring regs' pos' r
  hands_on offset r a h = rw a h

  module _ (n : length regs ≡ 16) where
    abbrev waits : Bool
    waits = not (eqb (get_or pos 1 0) 0)

    pub identifies : {iir r : ℕ} → iir ≡ after_identification (get_or regs 1 0) (get_or regs 2 0) waits
        → r ≡ identification (get_or regs 1 0) (get_or regs 2 0) waits
        → Reads read_iir regs pos ring (set regs 2 iir) pos r
    unfolding port_of
    identifies e b =
        rw (e, waits_is regs pos ring)
        (registers_alone n (one_stored regs 2 _ (omega arith)) (marks regs pos ring n _) (rw b (omega arith)))

    -- RBR: k bytes wait, u is IIR after the read
    module _ (k : ℕ) (c : k ≡ count_of pos) (u : ℕ) (w : u ≡ after_data_read p.settings.ier p.iir (ltb 1 k)) {regs' : List ℕ} where
      with_lsr : (m : ℕ) → WaitAfterRead (set regs 2 u) m regs' → (left : List ℕ) → length left ≡ m
          → regs' ≡ set (set regs 2 u) 5 (lsr_after_read (some left) p.lsr)
      unfolding port_of
      with_lsr m e left l = e left l ∙ rw (get_or-set_other regs 2 5 u 0 (λ x. omega arith))

      pub reads_none : k ≡ 0 → WaitAfterRead (set regs 2 u) 0 regs' → Reads read_rbr regs pos ring regs' pos (event_bits (read_events false false))
      unfolding port_of queue
      reads_none z e =
          let none : count_of pos ≡ 0 = sym c ∙ z in
          rw (with_lsr 0 e [] refl)
          (registers_alone n (both_stored regs u _) (receiver regs pos ring n u _ pos ring refl ∙ rw (none, w, z)) (rw none))

      pub reads_first : {pos' : List ℕ} (b r : ℕ) → Taken pos ring k pos' b → (k ≡ 0 → ⊥) → WaitAfterRead (set regs 2 u) (k - 1) regs'
          → r ≡ b + event_bits (read_events true (ltb 1 k)) → Reads read_rbr regs pos ring regs' pos' r
      unfolding port_of
      reads_first b r t z e said =
          let s : ℕ = t.start in
          let left : List ℕ = queue places ring s (k - 1) in
          let there = placed pos (k - 1) t.long (omega arith) s in
          let lies : queue places ring (start_of pos) (count_of pos) ≡ b ∷ left = rw (sym c, t.byte)
          (queue_first places ring (start_of pos) k z
          ∙ ap (λ (l : List ℕ). get_or ring (start_of pos % places) 0 ∷ l) (queue_round places ring ((start_of pos + 1) % places) s (k - 1) (rw t.on (mod-mod (start_of pos + 1) places)))) in
          let holds = receiver regs pos ring n u (lsr_after_read (some left) p.lsr) (set (set pos 0 s) 1 (k - 1)) ring {waiting = left}
          (rw (there.0, there.1)) in
          rw (t.moved, with_lsr (k - 1) e left (queue_length places ring s (k - 1))) (other_count (holds ∙ rw (lies, w, more_left k left z (queue_length places ring s (k - 1)))) refl (both_stored regs u _) (moved_spare pos s (k - 1)) (λ same. z (omega (arith, there.1))) (rw (said, lies, more_left k left z (queue_length places ring s (k - 1))) (omega arith)))

    -- RBR where several bytes wait: IIR and LSR stay
    pub reads_several : (k b r : ℕ) → k ≡ count_of pos → 2 ≤ k → {pos' : List ℕ} → Taken pos ring k pos' b
        → r ≡ b + event_bits (read_events true true) → Reads read_rbr regs pos ring regs pos' r
    unfolding port_of
    reads_several k b r c h t said =
        let several : ltb 1 k ≡ true = lt-ltb 1 k h in
        reads_first k c p.iir (rw several refl) b r t (λ z. omega arith)
        (rw (set-get_or regs 2 0) (some_left regs (k - 1) (λ z. omega arith))) (rw several said)

    -- RBR where one byte waits
    pub reads_last : 1 ≡ count_of pos → {u : ℕ} → u ≡ after_data_read p.settings.ier p.iir false → (b r : ℕ) {regs' pos' : List ℕ}
        → Taken pos ring 1 pos' b → WaitAfterRead (set regs 2 u) 0 regs' → r ≡ b + event_bits (read_events true false)
        → Reads read_rbr regs pos ring regs' pos' r
    unfolding port_of
    reads_last c {u} w b r t e said = reads_first 1 c u w b r t (λ z. omega arith) e said
