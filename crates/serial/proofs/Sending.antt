-- What each answer of a write is in the definition, where no byte comes to the receiver.
use mathlib.Core.Path.{◌≡◌, refl}
use mathlib.Core.Bool.{true, false, not}
use mathlib.Core.List.{List, ◌∷◌}
use Prim.Native.Nat.{ℕ, ◌+◌, ◌*◌, ◌≤◌, ◌<◌}
use native.Mathlib.Omega.{arith}
use lib.Dec.{eqb}
use lib.ListN.{length, get_or, set}
use Rattle.serial.specs.Port.{Port, Settings, Register, RBR_THR, IER, IIR_FCR, LCR, MCR, SCR, is_open, in_loop, addressed, with_settings, stores}
use Rattle.serial.specs.Port.{put_lcr, put_mcr, put_scr, put_dll, put_dlm, write_ier, write_line, write_loop, write_thr, write_register}
use Rattle.serial.specs.Port.{write_fcr, write_of}
use Rattle.serial.specs.Layout.{port_of}
use Rattle.common.specs.Answer.{one_raise}
use Rattle.serial.specs.Calls.{Writes}
use Rattle.serial.specs.Inside.{Emptied}
use Rattle.serial.proofs.Registers.{one_stored, setting}
use Rattle.serial.proofs.Emptying.{holds_emptied, sent_line}
use Rattle.serial.proofs.Addressing.{at_dll, at_dlm, unwritten}
use Rattle.serial.proofs.Answering.{as_it_was, registers_alone}

module _ (regs pos ring : List ℕ) where
  abbrev p : Port
  p = port_of regs pos ring

  -- A byte goes out.
  pub sends : length regs ≡ 16 → (v : ℕ) {regs' : List ℕ} {raises r : ℕ} → in_loop p ≡ false
      → Emptied regs (not (eqb (get_or pos 1 0) 0)) regs' raises
      → r ≡ v + 0x2_0000 + one_raise * raises → Writes (λ q. write_thr q v) regs pos ring regs' pos ring r
  unfolding write_line
  sends n v o a e =
      rw (o, a.stored) (registers_alone n (one_stored regs 2 _ (omega arith)) (holds_emptied regs pos ring n) (rw (e, a.raised) (sent_line regs pos ring v)))

  -- A setting is stored at place k: the first `refl` says which register it is, the second that it lies there.
  module _ (n : length regs ≡ 16) (offset v : ℕ) where
    stored : (k : ℕ) → k < 10 → (put : Settings → ℕ → Settings) {register : Register} → addressed (is_open p) offset ≡ register
        → write_register p register v ≡ stores p (put p.settings v)
        → ((a b c d e f g h i j : ℕ) (rest : List ℕ) → let l = a ∷ b ∷ c ∷ d ∷ e ∷ f ∷ g ∷ h ∷ i ∷ j ∷ rest in port_of (set l k v) pos ring ≡ with_settings (port_of l pos ring) (put (port_of l pos ring).settings v))
        → Writes (λ q. write_of q offset v) regs pos ring (set regs k v) pos ring 0
    stored k h put a e t = rw (a, e) (registers_alone n (one_stored regs k v h) (setting regs pos ring n k put v t) refl)

    abbrev At : ℕ → Type 0
    At k = Writes (λ q. write_of q offset v) regs pos ring (set regs k v) pos ring 0

    pub stores_dll : is_open p ≡ true → offset ≡ 0 → At 0
    unfolding port_of write_register
    stores_dll o e = stored 0 (omega arith) put_dll (at_dll _ _ o e) refl (λ a b c d e f g h i j l. refl)

    pub stores_dlm : is_open p ≡ true → offset < 2 → (offset ≡ 0 → ⊥) → At 8
    unfolding port_of write_register
    stores_dlm o h e = stored 8 (omega arith) put_dlm (at_dlm _ _ o h e) refl (λ a b c d e f g h i j l. refl)

    pub stores_lcr : offset ≡ 3 → At 3
    unfolding port_of write_register addressed
    stores_lcr e = stored 3 (omega arith) put_lcr {register = LCR} (rw e) refl (λ a b c d e f g h i j l. refl)

    pub stores_mcr : offset ≡ 4 → At 4
    unfolding port_of write_register addressed
    stores_mcr e = stored 4 (omega arith) put_mcr {register = MCR} (rw e) refl (λ a b c d e f g h i j l. refl)

    pub stores_scr : offset ≡ 7 → At 7
    unfolding port_of write_register addressed
    stores_scr e = stored 7 (omega arith) put_scr {register = SCR} (rw e) refl (λ a b c d e f g h i j l. refl)

  pub stores_nothing : (offset v : ℕ) → 2 ≤ offset → (offset ≡ 2 → ⊥) → (offset ≡ 3 → ⊥) → (offset ≡ 4 → ⊥) → (offset ≡ 7 → ⊥)
      → Writes (λ q. write_of q offset v) regs pos ring regs pos ring 0
  stores_nothing offset v h i a b c = rw (unwritten (is_open p) offset p v h i a b c) (as_it_was refl refl)

  -- THR in the loop, by a call of its own.
  pub loops : (v r : ℕ) {regs' pos' ring' : List ℕ} → in_loop p ≡ true → Writes (λ q. write_loop q v) regs pos ring regs' pos' ring' r
      → Writes (λ q. write_thr q v) regs pos ring regs' pos' ring' r
  loops v r o h = rw o h

  -- THR, IER and FCR, by calls of their own.
  pub transmits : (offset v r : ℕ) {regs' pos' ring' : List ℕ} → addressed (is_open p) offset ≡ RBR_THR
      → Writes (λ q. write_thr q v) regs pos ring regs' pos' ring' r
      → Writes (λ q. write_of q offset v) regs pos ring regs' pos' ring' r
  unfolding write_register
  transmits offset v r a h = rw a h

  pub enables : (offset v r : ℕ) {regs' pos' ring' : List ℕ} → addressed (is_open p) offset ≡ IER
      → Writes (λ q. write_ier q v) regs pos ring regs' pos' ring' r
      → Writes (λ q. write_of q offset v) regs pos ring regs' pos' ring' r
  unfolding write_register
  enables offset v r a h = rw a h

  pub controls : (offset v r : ℕ) {regs' pos' ring' : List ℕ} → addressed (is_open p) offset ≡ IIR_FCR
      → Writes (λ q. write_fcr q v) regs pos ring regs' pos' ring' r
      → Writes (λ q. write_of q offset v) regs pos ring regs' pos' ring' r
  unfolding write_register
  controls offset v r a h = rw a h
