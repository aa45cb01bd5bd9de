-- Which register an offset names, and what the two accesses are there.
use Rattle.std.proofs.Common.{◌≡◌, ℕ, ◌-◌, ◌/◌, ◌%◌, ◌^◌, ◌≤◌, Bool, true, false, cond, ◌&&◌, eqb, leb, get_or, pos, ◌-ℤ◌, refl, arith, eqb-true, leb-false, leb-true}
use lib.Bits.{bit_and}
use Rattle.clock.specs.Registers.{Clock, Register, DR, MR, LR, CR, IMSC, RIS, MIS, ICR, ID, reserved, register_at, says, refused}
use Rattle.clock.specs.Registers.{becomes, ignored, ids, shown, without, with_mr, with_lr, with_imsc, with_ris, rule, read_of, write_of}
use Rattle.clock.specs.Layout.{clock_after}

-- ---- An offset names one register

both : (P : Register → Type 0) (t : Bool) {a b : Register} → (t ≡ true → P a) → P b → P (cond t a b)
both P true x y = x refl
both P false x y = y

-- What holds of each register at the offsets that name it holds of the register at any offset.
module _ (P : Register → Type 0) (offset : ℕ) where
  pub register_cases : (offset ≡ 0x000 → P DR) → (offset ≡ 0x004 → P MR) → (offset ≡ 0x008 → P LR) → (offset ≡ 0x00c → P CR)
      → (offset ≡ 0x010 → P IMSC) → (offset ≡ 0x014 → P RIS) → (offset ≡ 0x018 → P MIS) → (offset ≡ 0x01c → P ICR)
      → (0xfe0 ≤ offset → offset ≤ 0xfff → P (ID ((offset - 0xfe0) / 4)))
      → ((0xfe0 ≤ offset → offset ≤ 0xfff → ⊥) → P reserved) → P (register_at offset)
  unfolding register_at
  register_cases dr mr lr cr imsc ris mis icr id other =
      both P (eqb offset 0x000) (λ e. dr (eqb-true _ _ e))
      (both P (eqb offset 0x004) (λ e. mr (eqb-true _ _ e))
      (both P (eqb offset 0x008) (λ e. lr (eqb-true _ _ e))
      (both P (eqb offset 0x00c) (λ e. cr (eqb-true _ _ e))
      (both P (eqb offset 0x010) (λ e. imsc (eqb-true _ _ e))
      (both P (eqb offset 0x014) (λ e. ris (eqb-true _ _ e))
      (both P (eqb offset 0x018) (λ e. mis (eqb-true _ _ e))
      (both P (eqb offset 0x01c) (λ e. icr (eqb-true _ _ e))
      (inside (leb 0xfe0 offset) (leb offset 0xfff) refl refl))))))))
    where
      inside : (s t : Bool) → leb 0xfe0 offset ≡ s → leb offset 0xfff ≡ t → P (cond (s && t) (ID ((offset - 0xfe0) / 4)) reserved)
      inside true true a b = id (leb-true _ _ a) (leb-true _ _ b)
      inside true false a b = other (λ l h. absurd (omega (arith, leb-false offset 0xfff b)))
      inside false t a b = other (λ l h. absurd (omega (arith, leb-false 0xfe0 offset a)))

-- ---- The rules, at their offsets

module _ (c : Clock) (time offset : ℕ) where
  abbrev now : ℕ
  now = time % 2 ^ 32

  pub reads_dr : offset ≡ 0x000 → read_of c time offset ≡ says (shown now c.ahead)
  unfolding read_of register_at rule
  reads_dr e = rw e

  pub reads_mr : offset ≡ 0x004 → read_of c time offset ≡ says c.mr
  unfolding read_of register_at rule
  reads_mr e = rw e

  pub reads_lr : offset ≡ 0x008 → read_of c time offset ≡ says c.lr
  unfolding read_of register_at rule
  reads_lr e = rw e

  pub reads_cr : offset ≡ 0x00c → read_of c time offset ≡ says 1
  unfolding read_of register_at rule
  reads_cr e = rw e

  pub reads_imsc : offset ≡ 0x010 → read_of c time offset ≡ says c.imsc
  unfolding read_of register_at rule
  reads_imsc e = rw e

  pub reads_ris : offset ≡ 0x014 → read_of c time offset ≡ says c.ris
  unfolding read_of register_at rule
  reads_ris e = rw e

  pub reads_mis : offset ≡ 0x018 → read_of c time offset ≡ says (bit_and c.ris c.imsc)
  unfolding read_of register_at rule
  reads_mis e = rw e

  pub reads_id : 0xfe0 ≤ offset → offset ≤ 0xfff → read_of c time offset ≡ says (get_or ids ((offset - 0xfe0) / 4) 0)
  unfolding read_of rule
  reads_id l h =
      register_cases (λ r. (rule r c now).read ≡ says (get_or ids ((offset - 0xfe0) / 4) 0)) offset
      (λ e. absurd (omega arith)) (λ e. absurd (omega arith)) (λ e. absurd (omega arith)) (λ e. absurd (omega arith))
      (λ e. absurd (omega arith)) (λ e. absurd (omega arith)) (λ e. absurd (omega arith)) (λ e. absurd (omega arith))
      (λ a b. refl) (λ n. absurd (n l h))

  -- At any other offset a read is refused.
  pub reads_nothing : (offset ≡ 0x000 → ⊥) → (offset ≡ 0x004 → ⊥) → (offset ≡ 0x008 → ⊥) → (offset ≡ 0x00c → ⊥)
      → (offset ≡ 0x010 → ⊥) → (offset ≡ 0x014 → ⊥) → (offset ≡ 0x018 → ⊥) → (0xfe0 ≤ offset → offset ≤ 0xfff → ⊥)
      → read_of c time offset ≡ refused
  unfolding read_of rule
  reads_nothing dr mr lr cr imsc ris mis id =
      register_cases (λ r. (rule r c now).read ≡ refused) offset
      (λ e. absurd (dr e)) (λ e. absurd (mr e)) (λ e. absurd (lr e)) (λ e. absurd (cr e))
      (λ e. absurd (imsc e)) (λ e. absurd (ris e)) (λ e. absurd (mis e)) (λ _. refl)
      (λ a b. absurd (id a b)) (λ _. refl)

  module _ (v : ℕ) where
    pub writes_mr : offset ≡ 0x004 → write_of c time offset v ≡ becomes (with_mr c v)
    unfolding write_of register_at rule
    writes_mr e = rw e

    pub writes_lr : offset ≡ 0x008 → write_of c time offset v ≡ becomes (with_lr c v (pos v -ℤ pos now))
    unfolding write_of register_at rule
    writes_lr e = rw e

    pub writes_cr : offset ≡ 0x00c → write_of c time offset v ≡ becomes (cond (eqb v 1) (with_lr c 0 (pos 0)) c)
    unfolding write_of register_at rule
    writes_cr e = rw e

    pub writes_imsc : offset ≡ 0x010 → write_of c time offset v ≡ becomes (with_imsc c (v % 2))
    unfolding write_of register_at rule
    writes_imsc e = rw e

    pub writes_icr : offset ≡ 0x01c → write_of c time offset v ≡ becomes (with_ris c (without c.ris v))
    unfolding write_of register_at rule
    writes_icr e = rw e

    -- At any other offset a write is ignored.
    pub writes_nothing : (offset ≡ 0x004 → ⊥) → (offset ≡ 0x008 → ⊥) → (offset ≡ 0x00c → ⊥) → (offset ≡ 0x010 → ⊥)
        → (offset ≡ 0x01c → ⊥) → write_of c time offset v ≡ ignored
    unfolding write_of rule
    writes_nothing mr lr cr imsc icr =
        register_cases (λ r. (rule r c now).write v ≡ ignored) offset
        (λ _. refl) (λ e. absurd (mr e)) (λ e. absurd (lr e)) (λ e. absurd (cr e))
        (λ e. absurd (imsc e)) (λ _. refl) (λ _. refl) (λ e. absurd (icr e))
        (λ _ _. refl) (λ _. refl)

    -- What holds of each clock that a write can leave holds of the clock after any write.
    pub write_cases : (P : Clock → Type 0) → (offset ≡ 0x004 → P (with_mr c v)) → (offset ≡ 0x008 → P (with_lr c v (pos v -ℤ pos now)))
        → (offset ≡ 0x00c → v ≡ 1 → P (with_lr c 0 (pos 0))) → (offset ≡ 0x010 → P (with_imsc c (v % 2)))
        → (offset ≡ 0x01c → P (with_ris c (without c.ris v))) → P c → P (clock_after (write_of c time offset v) c)
    unfolding write_of rule
    write_cases P mr lr cr imsc icr same =
        register_cases (λ r. P (clock_after ((rule r c now).write v) c)) offset
        (λ _. same) mr lr (λ e. one (eqb v 1) refl (cr e)) imsc (λ _. same) (λ _. same) icr (λ _ _. same) (λ _. same)
      where
        one : (t : Bool) → eqb v 1 ≡ t → (v ≡ 1 → P (with_lr c 0 (pos 0))) → P (cond t (with_lr c 0 (pos 0)) c)
        one true e p = p (eqb-true v 1 e)
        one false e p = same
