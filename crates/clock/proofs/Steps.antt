-- What each answer of the entry points is in the definition: one lemma for each kind of return of a write.
use Rattle.std.proofs.Common.{◌≡◌, ℕ, ◌%◌, ◌^◌, List, ℤ, pos, ◌-ℤ◌, refl, ◌∙◌, eq-eqb, ne_eqb}
use Rattle.clock.specs.Registers.{Clock, Change, becomes, ignored, with_lr, write_of}
use Rattle.clock.specs.Layout.{signed, clock_of, refusal, Writes}
use Rattle.clock.proofs.Registers.{writes_lr, writes_cr}

-- ---- Writes

module _ {change : Change} {before : List ℕ} where
  pub changes : {c : Clock} {after : List ℕ} {r : ℕ} → change ≡ becomes c → Writes (becomes c) before after r → Writes change before after r
  changes e w = rw e w

  pub changes_nothing : change ≡ ignored → Writes change before before refusal
  changes_nothing e = rw e (record { clock = refl; spare = refl; answer = refl })

module _ (words : List ℕ) (time offset v : ℕ) where
  abbrev Wrote : List ℕ → ℕ → Type 0
  Wrote after r = Writes (write_of (clock_of words) time offset v) words after r

  module _ {after : List ℕ} {r : ℕ} where
    -- The load register.
    pub sets : offset ≡ 0x008 → {now : ℕ} {ahead : ℤ} → now ≡ time % 2 ^ 32 → ahead ≡ pos v -ℤ pos now
        → Writes (becomes (with_lr (clock_of words) v ahead)) words after r → Wrote after r
    sets e n d w = changes (writes_lr (clock_of words) time offset v e ∙ rw (← n, ← d)) w

    -- The control register.
    pub restarts : offset ≡ 0x00c → v ≡ 1 → Writes (becomes (with_lr (clock_of words) 0 (signed 0))) words after r → Wrote after r
    unfolding signed
    restarts e one w = changes (writes_cr (clock_of words) time offset v e ∙ rw (eq-eqb v 1 one)) w

  pub runs_on : offset ≡ 0x00c → (v ≡ 1 → ⊥) → Wrote words 0
  runs_on e other =
      changes (writes_cr (clock_of words) time offset v e ∙ rw (ne_eqb v 1 other)) (record { clock = refl; spare = refl; answer = refl })
