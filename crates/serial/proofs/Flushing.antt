-- What each answer of a write of FCR is in the definition.
use mathlib.Core.Path.{◌≡◌, refl, sym, ap, subst, ◌∙◌}
use mathlib.Core.Bool.{false}
use mathlib.Core.List.{List, []}
use Prim.Native.Nat.{ℕ, ◌+◌}
use native.Mathlib.Decide.{ℕ_discrete}
use native.Mathlib.Omega.{arith}
use lib.Bits.{bit_and}
use lib.ListN.{length, get_or, set, length-set}
use lib.Seq.{set-get_or, drop-set-lt}
use borrow.Author.Tests.{eq-eqb, ne_eqb}
use Rattle.common.specs.Answer.{flushed_bit}
use Rattle.interrupts.specs.Interrupts.{after_data_read}
use Rattle.line_status.specs.LineStatus.{lsr_after_read}
use Rattle.ring.specs.Ring.{queue}
use Rattle.serial.specs.Port.{Port, with_settings, put_fcr, fcr_stored, flushes, write_fcr}
use Rattle.serial.specs.Layout.{start_of, count_of, port_of}
use Rattle.serial.specs.Calls.{Answers, Writes, write_word}
use Rattle.serial.specs.Inside.{Flushed}
use Rattle.serial.proofs.Leaves.{lsr_stays}
use Rattle.serial.proofs.Registers.{Stored, one_stored, then_stored, setting, receiver, counted}
use Rattle.serial.proofs.Answering.{waiting_length, registers_alone, other_count}

pub flushed : (regs pos : List ℕ) {iir lsr r : ℕ} → iir ≡ after_data_read (get_or regs 1 0) (get_or regs 2 0) false
    → lsr ≡ lsr_after_read false (get_or (set regs 2 iir) 5 0) → r ≡ count_of pos + flushed_bit
    → Flushed regs pos (set (set regs 2 iir) 5 lsr) (set pos 1 0) r
flushed regs pos i l t = record { stored = rw (l, lsr_stays regs _, i) refl; counted = refl; told = t }

module _ (regs pos ring : List ℕ) (n : length regs ≡ 16) (v : ℕ) where
  abbrev p : Port
  p = port_of regs pos ring

  abbrev kept : Port
  kept = with_settings p (put_fcr p.settings (fcr_stored v))

  abbrev regs₁ : List ℕ
  regs₁ = set regs 9 (fcr_stored v)

  remembered : port_of regs₁ pos ring ≡ kept
  unfolding port_of
  remembered = setting regs pos ring n 9 put_fcr (fcr_stored v) (λ a b c d e f g h i j l. refl)

  -- Without 0x02 no byte leaves.
  pub keeps_bytes : bit_and v 0x02 ≡ 0 → Writes (λ q. write_fcr q v) regs pos ring regs₁ pos ring 0
  unfolding write_fcr
  keeps_bytes z = rw (eq-eqb _ _ z) (registers_alone n (one_stored regs 9 _ (omega arith)) remembered refl)

  module _ (m : length pos ≡ 4) {regs' pos' : List ℕ} {r : ℕ} (got : Flushed regs₁ pos regs' pos' r) where
    there : (start_of (set pos 1 0) ≡ start_of pos) × (count_of (set pos 1 0) ≡ 0)
    there = counted pos 0 m (omega arith)

    stored : Stored regs regs'
    stored =
        rw got.stored
        (then_stored 5 _ (omega arith) (then_stored 2 _ (omega arith) (one_stored regs 9 (fcr_stored v) (omega arith))))

    holds : port_of regs' pos' ring ≡ (flushes (port_of regs₁ pos ring)).port
    unfolding port_of queue
    holds =
        rw (got.stored, got.counted)
        (receiver regs₁ pos ring (length-set regs 9 _ ∙ n) _ _ (set pos 1 0) ring {waiting = []} (rw there.1 refl))

    abbrev Says : ℕ → Type 0
    Says w = w ≡ write_word (flushes (port_of regs₁ pos ring))

    says : Says r
    says = got.told ∙ rw (waiting_length regs₁ pos ring) (omega arith)

    answers : Answers regs pos ring regs' pos' ring r (flushes (port_of regs₁ pos ring)).port (write_word (flushes (port_of regs₁ pos ring)))
    answers = go (ℕ_discrete (count_of pos) 0)
      where
        go : Dec (count_of pos ≡ 0)
            → Answers regs pos ring regs' pos' ring r (flushes (port_of regs₁ pos ring)).port (write_word (flushes (port_of regs₁ pos ring)))
        go (yes z) =
            let none : get_or pos 1 0 ≡ 0 = omega arith in
            let same : pos' ≡ pos = got.counted ∙ ap (set pos 1) (sym none) ∙ set-get_or pos 1 0 in
            rw same (registers_alone n stored (rw same at holds) says)
        go (no d) =
            other_count holds refl stored (rw got.counted (drop-set-lt 2 pos 1 0 (omega arith)))
            (λ same. d (sym same ∙ ap count_of got.counted ∙ there.1)) says

    -- With it they all do.
    pub flushes_bytes : (bit_and v 0x02 ≡ 0 → ⊥) → Writes (λ q. write_fcr q v) regs pos ring regs' pos' ring r
    unfolding write_fcr
    flushes_bytes d =
        rw (ne_eqb _ _ d)
        (subst (λ (k : Port). Answers regs pos ring regs' pos' ring r (flushes k).port (write_word (flushes k))) remembered answers)
