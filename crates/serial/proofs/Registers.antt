-- The lent memory taken apart: ten registers and two positions, and behind them what no access changes.
use mathlib.Core.Path.{◌≡◌, refl, sym, ap, ap₂, ◌∙◌}
use mathlib.Core.List.{List, [], ◌∷◌, ◌++◌}
use Prim.Native.Nat.{ℕ, ◌≤◌, ◌<◌}
use native.Mathlib.Omega.{arith}
use lib.ListN.{length, set, take, drop, length-set}
use lib.Seq.{drop-set-lt}
use Rattle.serial.specs.Port.{Port, Settings, with_settings, with_receiver, put_ier}
use Rattle.ring.specs.Ring.{queue}
use Rattle.serial.specs.Layout.{places, start_of, count_of, port_of, spare_registers}

ten : (P : List ℕ → Type 0) → ((a b c d e f g h i j : ℕ) (l : List ℕ) → P (a ∷ b ∷ c ∷ d ∷ e ∷ f ∷ g ∷ h ∷ i ∷ j ∷ l)) → (l : List ℕ)
    → length l ≡ 16 → P l
ten P t (a ∷ b ∷ c ∷ d ∷ e ∷ f ∷ g ∷ h ∷ i ∷ j ∷ l) n = t a b c d e f g h i j l
ten P t [] n = absurd (omega arith)
ten P t (a ∷ []) n = absurd (omega arith)
ten P t (a ∷ b ∷ []) n = absurd (omega arith)
ten P t (a ∷ b ∷ c ∷ []) n = absurd (omega arith)
ten P t (a ∷ b ∷ c ∷ d ∷ []) n = absurd (omega arith)
ten P t (a ∷ b ∷ c ∷ d ∷ e ∷ []) n = absurd (omega arith)
ten P t (a ∷ b ∷ c ∷ d ∷ e ∷ f ∷ []) n = absurd (omega arith)
ten P t (a ∷ b ∷ c ∷ d ∷ e ∷ f ∷ g ∷ []) n = absurd (omega arith)
ten P t (a ∷ b ∷ c ∷ d ∷ e ∷ f ∷ g ∷ h ∷ []) n = absurd (omega arith)
ten P t (a ∷ b ∷ c ∷ d ∷ e ∷ f ∷ g ∷ h ∷ i ∷ []) n = absurd (omega arith)

two : (P : List ℕ → Type 0) → ((a b : ℕ) (l : List ℕ) → P (a ∷ b ∷ l)) → (l : List ℕ) → length l ≡ 4 → P l
two P t (a ∷ b ∷ l) n = t a b l
two P t [] n = absurd (omega arith)
two P t (a ∷ []) n = absurd (omega arith)

-- ---- Registers are stored, and the others stay: the spare ones, and the one that tells the size

pub record Stored (regs regs' : List ℕ) : Type 0 where
  pub long : length regs' ≡ length regs
  pub others : drop 10 regs' ≡ drop 10 regs

pub spare_stays : {regs regs' : List ℕ} → Stored regs regs' → spare_registers regs' ≡ spare_registers regs
spare_stays s = ap (take 5) s.others

pub one_stored : (regs : List ℕ) (k v : ℕ) → k < 10 → Stored regs (set regs k v)
one_stored regs k v h = record { long = length-set regs k v; others = drop-set-lt 10 regs k v h }

pub then_stored : {regs regs₁ : List ℕ} (k v : ℕ) → k < 10 → Stored regs regs₁ → Stored regs (set regs₁ k v)
then_stored {regs} {regs₁} k v h s = let t = one_stored regs₁ k v h in record { long = t.long ∙ s.long; others = t.others ∙ s.others }

-- ---- The port knows every register

bytes : Port → List ℕ
bytes p =
    let s = p.settings in
    s.dll ∷ s.ier ∷ p.iir ∷ s.lcr ∷ s.mcr ∷ p.lsr ∷ p.msr ∷ s.scr ∷ s.dlm ∷ s.fcr ∷ []

bytes_of : (regs pos ring : List ℕ) → length regs ≡ 16 → bytes (port_of regs pos ring) ++ drop 10 regs ≡ regs
unfolding port_of bytes
bytes_of regs pos ring = ten (λ l. bytes (port_of l pos ring) ++ drop 10 l ≡ l) (λ a b c d e f g h i j l. refl) regs

pub same_registers : (regs pos ring regs' pos' ring' : List ℕ) → length regs ≡ 16 → Stored regs regs'
    → port_of regs' pos' ring' ≡ port_of regs pos ring → regs' ≡ regs
same_registers regs pos ring regs' pos' ring' n s e =
    sym (bytes_of regs' pos' ring' (s.long ∙ n)) ∙ ap₂ ◌++◌ (ap bytes e) s.others ∙ bytes_of regs pos ring n

-- ---- A store to a register is the port with that register

module _ (regs pos ring : List ℕ) (n : length regs ≡ 16) where
  abbrev p : Port
  p = port_of regs pos ring

  -- one of the settings, at place k
  pub setting : (k : ℕ) (put : Settings → ℕ → Settings) (v : ℕ)
      → ((a b c d e f g h i j : ℕ) (rest : List ℕ) → let l = a ∷ b ∷ c ∷ d ∷ e ∷ f ∷ g ∷ h ∷ i ∷ j ∷ rest in port_of (set l k v) pos ring ≡ with_settings (port_of l pos ring) (put (port_of l pos ring).settings v))
      → port_of (set regs k v) pos ring ≡ with_settings p (put p.settings v)
  setting k put v t =
      ten (λ l. port_of (set l k v) pos ring ≡ with_settings (port_of l pos ring) (put (port_of l pos ring).settings v)) t regs n

  pub marks : (iir : ℕ) → port_of (set regs 2 iir) pos ring ≡ with_receiver p iir p.lsr p.waiting
  unfolding port_of
  marks iir =
      ten (λ l. let q = port_of l pos ring in port_of (set l 2 iir) pos ring ≡ with_receiver q iir q.lsr q.waiting)
      (λ a b c d e f g h i j l. refl) regs n

  -- IER and the marks
  pub enabled : (ier iir : ℕ)
      → port_of (set (set regs 1 ier) 2 iir) pos ring ≡ with_receiver (with_settings p (put_ier p.settings ier)) iir p.lsr p.waiting
  unfolding port_of
  enabled ier iir =
      ten (λ l. let q = port_of l pos ring in port_of (set (set l 1 ier) 2 iir) pos ring ≡ with_receiver (with_settings q (put_ier q.settings ier)) iir q.lsr q.waiting)
      (λ a b c d e f g h i j l. refl) regs n

  pub receiver : (iir lsr : ℕ) (pos' ring' : List ℕ) {waiting : List ℕ} → queue places ring' (start_of pos') (count_of pos') ≡ waiting
      → port_of (set (set regs 2 iir) 5 lsr) pos' ring' ≡ with_receiver p iir lsr waiting
  unfolding port_of
  receiver iir lsr pos' ring' {waiting} e =
      ten (λ l. port_of (set (set l 2 iir) 5 lsr) pos' ring' ≡ with_receiver (port_of l pos ring) iir lsr waiting)
      (λ a b c d e' f g h i j l. rw e refl) regs n

-- ---- The positions

module _ (pos : List ℕ) (k : ℕ) (n : length pos ≡ 4) (h : k ≤ places) where
  pub counted : (start_of (set pos 1 k) ≡ start_of pos) × (count_of (set pos 1 k) ≡ k)
  counted = two (λ l. (start_of (set l 1 k) ≡ start_of l) × (count_of (set l 1 k) ≡ k)) (λ a b l. (refl, omega arith)) pos n

  pub placed : (i : ℕ) → (start_of (set (set pos 0 i) 1 k) ≡ i) × (count_of (set (set pos 0 i) 1 k) ≡ k)
  placed i = two (λ l. (start_of (set (set l 0 i) 1 k) ≡ i) × (count_of (set (set l 0 i) 1 k) ≡ k)) (λ a b l. (refl, omega arith)) pos n
