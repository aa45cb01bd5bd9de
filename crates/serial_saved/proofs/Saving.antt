-- What a host may rely on, whatever the memory: a port comes back as it was, and so does what was saved. It follows from what the two calls
-- promise.
use mathlib.Core.Path.{◌≡◌, refl, sym, ap, subst, ◌∙◌}
use mathlib.Core.HLevel.{⊥_prop}
use mathlib.Core.Logic.{◌↔◌, ◌⊎◌, inl, inr, ∥∥₁_elim}
use mathlib.Core.Bool.{Bool, true, false, cond, false≢true}
use mathlib.Core.List.{List, [], ◌∷◌, ◌++◌, Nodup, Nodup-nil, Nodup-cons, not-mem-nil}
use mathlib.Core.List.Memᴰ
use mathlib.Core.List.{Memᴰ}
use Prim.Native.Nat.{ℕ, ◌/◌, ◌%◌, ◌≤◌, ◌<◌}
use native.Mathlib.Omega.{arith}
use lib.ListN.{length, take}
use Rattle.interrupts.specs.Interrupts.{Kind, received_data, transmitter_empty}
use Rattle.serial.specs.Port.{Port, is_size, active}
use Rattle.serial.specs.Layout.{size_of, port_of, spare_registers, fresh_spare_registers}
use Rattle.runs.specs.Reachable.{Reachable}
use Rattle.serial_saved.specs.Saved.{saved_of, if_active, raised_again, Restore, restore_of}
use Rattle.common.specs.Answer.{one_raise}
use Rattle.common.proofs.Words.{parts}
use Rattle.serial_saved.specs.Calls.{Saves, restore_word, ReachableSaved, Restores}
use Rattle.serial_saved.proofs.Raising.{at_most_two}
use Rattle.serial_saved.proofs.Bringing.{too_many, enough}

-- ---- The word of a restore, taken apart

pub restore_word_lem : (reachable : Bool) (o : Restore) → let word = restore_word reachable o in
    (word / 0x4_0000 % 2 ≡ cond reachable 1 0) × ((word / 0x1_0000 % 2 ≡ cond o.refused 1 0) × (word / one_raise ≡ o.raises))
restore_word_lem reachable o =
    let p = parts 0 o.refused false reachable false false false false false false o.raises (restore_word reachable o) (omega arith) (omega arith) in
    (p.reachable, (p.refused, p.raises))

one : (t : Bool) → (◌≡◌ {A = ℕ} (cond t 1 0) 1) ↔ (t ≡ true)
one true = (λ e. refl, λ e. refl)
one false = (λ e. absurd (omega arith), λ e. absurd (false≢true e))

module _ {regs pos ring saved waiting regs' pos' ring' : List ℕ} {r : ℕ} (b : Restores regs pos ring saved waiting regs' pos' ring' r) where
  abbrev o : Restore
  o = restore_of (port_of regs pos ring) (saved_of saved waiting)

  told_parts : (r / 0x4_0000 % 2 ≡ cond b.reachable 1 0) × ((r / 0x1_0000 % 2 ≡ cond o.refused 1 0) × (r / one_raise ≡ o.raises))
  told_parts = rw b.answer (restore_word_lem b.reachable o)

  -- The word says "reachable" exactly of the ports that runs from a fresh one reach, with the spare registers at 0 ..
  pub reachable_exactly : (r / 0x4_0000 % 2 ≡ 1) ↔ ReachableSaved saved waiting
  reachable_exactly =
      let t = one b.reachable in
      (λ e. b.exact.0 (t.0 (sym told_parts.0 ∙ e)), λ k. told_parts.0 ∙ t.1 (b.exact.1 k))

  -- .. and "refused" exactly where more bytes wait than there is room for. Then nothing is raised, and else each active kind.
  pub not_refused : length waiting ≤ size_of saved → (r / 0x1_0000 % 2 ≡ 0) × (r / one_raise ≡ length (raised_again (saved_of saved waiting)))
  not_refused h = rw (enough saved waiting (port_of regs pos ring) h) at told_parts.1

  pub refused : size_of saved < length waiting → (r / 0x1_0000 % 2 ≡ 1) × (r / one_raise ≡ 0)
  refused h = rw (too_many saved waiting (port_of regs pos ring) h) at told_parts.1

  -- Where it is not refused the memory holds what was saved.
  pub brought_back : length waiting ≤ size_of saved → port_of regs' pos' ring' ≡ saved_of saved waiting
  brought_back h = rw (enough saved waiting (port_of regs pos ring) h) at b.holds

  same_registers : length waiting ≤ size_of saved → regs' ≡ saved
  same_registers h = (b.restored (ap (λ (o : Restore). o.refused) (enough saved waiting (port_of regs pos ring) h))).0

-- ---- Save after restore: what was saved comes out again, register for register and byte for byte

saved_waiting : (saved waiting : List ℕ) → (saved_of saved waiting).waiting ≡ waiting
unfolding saved_of
saved_waiting saved waiting = refl

pub save_after_restore : {regs pos ring saved waiting regs' pos' ring' w saved' w' : List ℕ} {r n : ℕ} → length waiting ≤ size_of saved
    → Restores regs pos ring saved waiting regs' pos' ring' r → Saves regs' pos' ring' w saved' w' n
    → (saved' ≡ saved) × ((n ≡ length waiting) × (take n w' ≡ waiting))
save_after_restore {saved = saved} {waiting = waiting} h b s =
    let same : (port_of _ _ _).waiting ≡ waiting = ap (λ (p : Port). p.waiting) (brought_back b h) ∙ saved_waiting saved waiting in
    (s.registers ∙ same_registers b h, (s.number ∙ ap length same, s.bytes ∙ same))

-- ---- Restore after save: where the port holds no more than its size it is not refused, into whatever memory, and the port is the one that
-- was saved, of the same size

module _ {regs pos ring w saved w' : List ℕ} {n : ℕ} (s : Saves regs pos ring w saved w' n)
    (few : length (port_of regs pos ring).waiting ≤ (port_of regs pos ring).size) where
  fits : length (take n w') ≤ size_of saved
  unfolding port_of
  fits = rw (s.bytes, s.registers) few

  module _ {regs₁ pos₁ ring₁ regs' pos' ring' : List ℕ} {r : ℕ} (b : Restores regs₁ pos₁ ring₁ saved (take n w') regs' pos' ring' r) where
    same_port : port_of regs' pos' ring' ≡ port_of regs pos ring
    same_port = brought_back b fits ∙ s.holds

    pub restore_after_save : (r / 0x1_0000 % 2 ≡ 0) × (port_of regs' pos' ring' ≡ port_of regs pos ring)
    restore_after_save = ((not_refused b fits).0, same_port)

    -- A port that runs reach is one still, and the word says so.
    pub saved_reachable : is_size (size_of regs) ≡ true → Reachable (size_of regs) (port_of regs pos ring)
        → spare_registers regs ≡ fresh_spare_registers
        → (r / 0x4_0000 % 2 ≡ 1) × Reachable (size_of regs) (port_of regs' pos' ring')
    saved_reachable m k z =
        let same = s.registers in (
          (reachable_exactly b).1 (record { made = rw same m; port = rw (s.holds, same) k; spares_zero = ap spare_registers same ∙ z }),
          rw same_port k,
        )

-- ---- What is raised again

in_active : (on : Bool) (x s : Kind) → Memᴰ s (if_active on x) → (s ≡ x) × (on ≡ true)
in_active true x s m = (Memᴰ.eq_of_singleton m, refl)
in_active false x s m = absurd (Memᴰ.not-nil m)

active_in : (on : Bool) (x : Kind) → on ≡ true → Memᴰ x (if_active on x)
active_in true x e = Memᴰ.head refl
active_in false x e = absurd (false≢true e)

apart : transmitter_empty ≡ received_data → ⊥
apart e = let z : ◌≡◌ {A = ℕ} 0 1 = cc in omega arith

module _ (p : Port) where
  raised_active : (s : Kind) → Memᴰ s (raised_again p) → active p s ≡ true
  unfolding raised_again
  raised_active s m = go (Memᴰ.append_cases (if_active (active p transmitter_empty) transmitter_empty) m)
    where
      like : (x : Kind) → (s ≡ x) × (active p x ≡ true) → active p s ≡ true
      like x k = subst (λ (y : Kind). active p y ≡ true) (sym k.0) k.1

      go : Memᴰ s (if_active (active p transmitter_empty) transmitter_empty) ⊎ Memᴰ s (if_active (active p received_data) received_data)
          → active p s ≡ true
      go (inl m) = like transmitter_empty (in_active (active p transmitter_empty) transmitter_empty s m)
      go (inr m) = like received_data (in_active (active p received_data) received_data s m)

  active_raised : (s : Kind) → active p s ≡ true → Memᴰ s (raised_again p)
  unfolding raised_again
  active_raised transmitter_empty e =
      Memᴰ.append_left (if_active (active p received_data) received_data) (active_in (active p transmitter_empty) transmitter_empty e)
  active_raised received_data e =
      Memᴰ.append_right (if_active (active p transmitter_empty) transmitter_empty) (active_in (active p received_data) received_data e)

  none_twice : Nodup (raised_again p)
  unfolding raised_again
  none_twice = go (active p transmitter_empty) (active p received_data)
    where
      go : (a b : Bool) → Nodup (if_active a transmitter_empty ++ if_active b received_data)
      go true true =
          Nodup-cons.1 (λ m. ∥∥₁_elim m ⊥_prop (λ d. apart (Memᴰ.eq_of_singleton d)), Nodup-cons.1 (not-mem-nil, Nodup-nil))
      go true false = Nodup-cons.1 (not-mem-nil, Nodup-nil)
      go false true = Nodup-cons.1 (not-mem-nil, Nodup-nil)
      go false false = Nodup-nil

  -- A kind is raised again exactly if it is active, each at most once, and so two at most.
  pub raises_exactly_active : ((s : Kind) → Memᴰ s (raised_again p) ↔ (active p s ≡ true)) × (Nodup (raised_again p) × (length (raised_again p) ≤ 2))
  raises_exactly_active = (λ s. (raised_active s, active_raised s), (none_twice, at_most_two p))

  -- Where both are, the transmitter is the first.
  pub transmitter_first : active p transmitter_empty ≡ true → active p received_data ≡ true
      → raised_again p ≡ transmitter_empty ∷ received_data ∷ []
  unfolding raised_again
  transmitter_first t r = rw (t, r)
