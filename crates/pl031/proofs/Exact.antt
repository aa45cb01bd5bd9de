-- The list of differences is exact: every call on a sound state agrees with the chip or is in a row, and no call in a row agrees.
use mathlib.Core.Path.{◌≡◌, refl, sym, ap, ◌∙◌}
use mathlib.Core.Logic.{◌⊎◌, inl, inr}
use mathlib.Core.Bool.{Bool, true, false, cond, ◌&&◌, true≢false, false≢true}
use Prim.Native.Nat.{ℕ, ◌-◌, ◌/◌, ◌%◌, ◌^◌, ◌<◌}
use native.Mathlib.Omega.{arith}
use native.Mathlib.Decide.{ℕ_discrete}
use lib.Bits.{and_zero_l}
use lib.Dec.{eqb, leb}
use lib.IntN.{pos}
use borrow.Author.Tests.{eq-eqb, ne_eqb}
use Rattle.sidebyside.specs.Answers.{silent, Fits}
use Rattle.clock.specs.Registers.{Clock, Register, DR, MR, LR, CR, IMSC, RIS, MIS, ICR, ID, reserved, register_at, refused, rule, with_lr}
use Rattle.clock.specs.Registers.{read_of, write_of}
use Rattle.clock.specs.Layout.{clock_after}
use Rattle.pl031.specs.Chip.{Chip, mis, ticks, Op, second, read, write, word, chip_does}
use Rattle.pl031.specs.Chip as chip
use Rattle.pl031.specs.Compare.{Timed, now, later, Done, answer_of, device_does, chip_of, Sound, Agrees, AgreesAt, Row, passes, writes}
use Rattle.pl031.specs.Compare.{in_range, RowAt, clock_out_of_range, clock_match_no_effect, clock_load_match, clock_restarts}
use Rattle.pl031.proofs.Seconds.{shown_goes_on, shown_leaps, loaded, follows}

-- ---- Offsets: both maps give one register, but between two registers of the identification

data Same : Register → chip.Register → Type 0 where
  dr : Same DR chip.DR
  mr : Same MR chip.MR
  lr : Same LR chip.LR
  cr : Same CR chip.CR
  imsc : Same IMSC chip.IMSC
  ris : Same RIS chip.RIS
  mis_reg : Same MIS chip.MIS
  icr : Same ICR chip.ICR
  id : {n : ℕ} → Same (ID n) (chip.ID n)
  between : {n : ℕ} → Same (ID n) chip.reserved
  none_there : Same reserved chip.reserved

pick : (t : Bool) {a b : Register} {x y : chip.Register} → Same a x → Same b y → Same (cond t a b) (cond t x y)
pick true p q = p
pick false p q = q

id_or_between : (t : Bool) (n : ℕ) → Same (ID n) (cond t (chip.ID n) chip.reserved)
id_or_between true n = id
id_or_between false n = between

same_map : (offset : ℕ) → Same (register_at offset) (chip.register_at offset)
unfolding register_at chip.register_at
same_map o =
    pick (eqb o 0x000) dr (pick (eqb o 0x004) mr (pick (eqb o 0x008) lr (pick (eqb o 0x00c) cr
    (pick (eqb o 0x010) imsc (pick (eqb o 0x014) ris (pick (eqb o 0x018) mis_reg (pick (eqb o 0x01c) icr
    (pick (leb 0xfe0 o && leb o 0xfff) (id_or_between (eqb (o % 4) 0) ((o - 0xfe0) / 4)) none_there))))))))

-- ---- Sound states stay sound

abbrev written : Timed → Register → ℕ → Timed
written t r v = record { clock = clock_after ((rule r t.clock (now t)).write v) t.clock; time = t.time }

restart_quiet : (c : Clock) (b : Bool) → c.ris ≡ 0 → (cond b (with_lr c 0 (pos 0)) c).ris ≡ 0
restart_quiet c true e = e
restart_quiet c false e = e

write_keeps : (t : Timed) → Sound t → (r : Register) (v : ℕ) → Sound (written t r v)
unfolding rule
write_keeps t k DR v = k
write_keeps t k MR v = record { quiet = k.quiet }
write_keeps t k LR v = record { quiet = k.quiet }
write_keeps t k CR v = record { quiet = restart_quiet t.clock (eqb v 1) k.quiet }
write_keeps t k IMSC v = record { quiet = k.quiet }
write_keeps t k RIS v = k
write_keeps t k MIS v = k
write_keeps t k ICR v = record { quiet = rw k.quiet (and_zero_l (2 ^ 32 - 1 - v)) }
write_keeps t k (ID n) v = k
write_keeps t k reserved v = k

pub keeps : (t : Timed) → Sound t → (o : Op) → Sound (device_does t o).timed
unfolding device_does write_of
keeps t k second = record { quiet = k.quiet }
keeps t k (read offset) = k
keeps t k (write offset v) = write_keeps t k (register_at offset) (word v)

-- ---- A call agrees if its answer and the chip after it do: no interrupt is pending in a sound state
agrees : {before : Chip} (d : Done) {c : chip.Out} → Sound d.timed → Fits d.reply c.reply → chip_of d.timed ≡ c.chip
    → Agrees before d c
unfolding chip_of
agrees d k reply next = record {
  alike = record { reply = reply; rise = λ _. sym (ap mis next) ∙ rw k.quiet (and_zero_l d.timed.clock.imsc) };
  next = next;
}

-- ---- Reads
read_fits : (t : Timed) {r : Register} {s : chip.Register} → Same r s
    → Fits (answer_of (rule r t.clock (now t)).read) (chip.read_register (chip_of t) s)
unfolding rule chip.read_register chip_of
read_fits t dr = refl
read_fits t mr = refl
read_fits t lr = refl
read_fits t cr = refl
read_fits t imsc = refl
read_fits t ris = refl
read_fits t mis_reg = refl
read_fits t icr = tt
read_fits t id = refl
read_fits t between = tt
read_fits t none_there = tt

-- Where the device refuses a read the manual is silent.
register_silent : (t : Timed) {r : Register} {s : chip.Register} → Same r s → (rule r t.clock (now t)).read ≡ refused
    → chip.read_register (chip_of t) s ≡ silent
unfolding rule chip.read_register
register_silent t dr e = cc
register_silent t mr e = cc
register_silent t lr e = cc
register_silent t cr e = cc
register_silent t imsc e = cc
register_silent t ris e = cc
register_silent t mis_reg e = cc
register_silent t icr e = refl
register_silent t id e = cc
register_silent t between e = refl
register_silent t none_there e = refl

pub refused_silent : (t : Timed) (offset : ℕ) → read_of t.clock t.time offset ≡ refused
    → (chip_does (chip_of t) (read offset)).reply ≡ silent
unfolding read_of chip_does
refused_silent t offset e = register_silent t (same_map offset) e

-- ---- Writes
cleared : (b : Bool) → ◌≡◌ {A = ℕ} (cond b 0 0) 0
cleared true = refl
cleared false = refl

module _ (t : Timed) (k : Sound t) (v : ℕ) (h : v < 2 ^ 32) where
  load : Dec (v ≡ t.clock.mr) → (chip_of (written t LR v) ≡ chip.write_lr (chip_of t) v) ⊎ Row t (writes LR v)
  unfolding chip_of rule
  load (yes e) = inr (clock_load_match e)
  load (no n) = inl (rw (ne_eqb v t.clock.mr n, loaded (now t) v h, k.quiet))

  start : Dec (v ≡ 1) → Dec (t.clock.lr ≡ 0) → Dec ((chip_of t).counter ≡ now t)
      → (chip_of (written t CR v) ≡ chip.write_cr (chip_of t) v) ⊎ Row t (writes CR v)
  unfolding chip_of rule
  start (no n) x y = inl (rw (ne_eqb v 1 n))
  start (yes e) (no x) y = inr (clock_restarts e (λ l c. x l))
  start (yes e) (yes x) (no y) = inr (clock_restarts e (λ l c. y c))
  start (yes e) (yes x) (yes y) = inl (rw (eq-eqb v 1 e, x, y, follows (now t) (omega arith)))

  write_next : {r : Register} {s : chip.Register} → Same r s
      → (chip_of (written t r v) ≡ chip.write_register (chip_of t) s v) ⊎ Row t (writes r v)
  unfolding chip_of rule chip.write_register
  write_next dr = inl refl
  write_next mr = inl refl
  write_next lr = load (ℕ_discrete v t.clock.mr)
  write_next cr = start (ℕ_discrete v 1) (ℕ_discrete t.clock.lr 0) (ℕ_discrete (chip_of t).counter (now t))
  write_next imsc = inl refl
  write_next ris = inl refl
  write_next mis_reg = inl refl
  write_next icr = inl (rw (k.quiet, and_zero_l (2 ^ 32 - 1 - v), cleared))
  write_next id = inl refl
  write_next between = inl refl
  write_next none_there = inl refl

-- ---- A second
second_next : (t : Timed) → Sound t → (f g : Bool) → in_range t ≡ f → in_range (later t) ≡ g → Dec ((ticks (chip_of t)).counter ≡ t.clock.mr)
    → (chip_of (later t) ≡ ticks (chip_of t)) ⊎ Row t passes
unfolding chip_of ticks
second_next t k f g a b (yes e) = inr (clock_match_no_effect e)
second_next t k true true a b (no n) = inl (rw (ne_eqb _ _ n, shown_goes_on t.time t.clock.ahead (a ∙ sym b), k.quiet))
second_next t k false false a b (no n) = inl (rw (ne_eqb _ _ n, shown_goes_on t.time t.clock.ahead (a ∙ sym b), k.quiet))
second_next t k true false a b (no n) = inr (clock_out_of_range (λ e. true≢false (sym a ∙ e ∙ b)))
second_next t k false true a b (no n) = inr (clock_out_of_range (λ e. false≢true (sym a ∙ e ∙ b)))

-- ---- Complete: a call agrees or is in a row
done : {before : Chip} {R : Type 0} (d : Done) {c : chip.Out} → Sound d.timed → Fits d.reply c.reply
    → (chip_of d.timed ≡ c.chip) ⊎ R → Agrees before d c ⊎ R
done d k reply (inl next) = inl (agrees d k reply next)
done d k reply (inr row) = inr row

pub complete : (t : Timed) → Sound t → (o : Op) → AgreesAt t o ⊎ RowAt t o
unfolding device_does chip_does read_of write_of
complete t k second = done _ (record { quiet = k.quiet }) tt (second_next t k _ _ refl refl (ℕ_discrete _ _))
complete t k (read offset) = inl (agrees _ k (read_fits t (same_map offset)) refl)
complete t k (write offset v) = done _ (write_keeps t k (register_at offset) (word v)) tt (write_next t k (word v) (omega arith) (same_map offset))

-- ---- Real: a call in a row does not agree
status_set : {ris : ℕ} (t : Timed) → Sound t → ris ≡ 1 → t.clock.ris ≡ ris → ⊥
status_set t k one e = let z : ◌≡◌ {A = ℕ} 0 1 = sym k.quiet ∙ e ∙ one in omega arith

second_real : (t : Timed) → Sound t → Row t passes → chip_of (later t) ≡ ticks (chip_of t) → ⊥
unfolding chip_of ticks
second_real t k (clock_match_no_effect e) next = status_set t k (rw (eq-eqb _ _ e)) (ap (λ (c : Chip). c.ris) next)
second_real t k (clock_out_of_range n) next = shown_leaps t.time t.clock.ahead n (ap (λ (c : Chip). c.counter) next)

write_real : (t : Timed) → Sound t → (v : ℕ) {r : Register} {s : chip.Register} → Same r s → Row t (writes r v)
    → chip_of (written t r v) ≡ chip.write_register (chip_of t) s v → ⊥
unfolding chip_of rule chip.write_register
write_real t k v dr row next = elim row [ ]
write_real t k v mr row next = elim row [ ]
write_real t k v lr (clock_load_match e) next = status_set t k (rw (eq-eqb _ _ e)) (ap (λ (c : Chip). c.ris) next)
write_real t k v cr (clock_restarts e n) next =
    let same : chip_of (record { clock = with_lr t.clock 0 (pos 0); time = t.time }) ≡ chip_of t = rw e at next in
    n (sym (ap (λ (c : Chip). c.lr) same)) (sym (ap (λ (c : Chip). c.counter) same) ∙ follows (now t) (omega arith))
write_real t k v imsc row next = elim row [ ]
write_real t k v ris row next = elim row [ ]
write_real t k v mis_reg row next = elim row [ ]
write_real t k v icr row next = elim row [ ]
write_real t k v id row next = elim row [ ]
write_real t k v between row next = elim row [ ]
write_real t k v none_there row next = elim row [ ]

pub real : (t : Timed) → Sound t → (o : Op) → RowAt t o → AgreesAt t o → ⊥
unfolding device_does chip_does write_of
real t k second row a = second_real t k row a.next
real t k (read offset) row a = elim row [ ]
real t k (write offset v) row a = write_real t k (word v) (same_map offset) row a.next
