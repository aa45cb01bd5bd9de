-- A serial port that was saved, written as bytes, read elsewhere and restored there goes on as it would have here.
use mathlib.Core.Path.{◌≡◌, refl, sym, ap, subst, ◌∙◌}
use mathlib.Core.Bool.{Bool, true}
use mathlib.Core.List.{List, [], ◌∷◌, ◌++◌}
use Prim.Native.Nat.{ℕ, suc, ◌/◌, ◌%◌, ◌≤◌}
use native.Mathlib.Omega.{arith}
use lib.ListN.{length, take}
use lib.Seq.{take-append_seam}
use Rattle.serial.specs.Port.{Port, is_size, fresh}
use Rattle.serial.specs.Layout.{size_of, port_of, spare_registers}
use Rattle.serial.specs.Calls.{MakesFresh}
use Rattle.runs.specs.Run.{Op, step, run}
use Rattle.runs.proofs.Conserved.{never_more, run_size}
use Rattle.runs.specs.Reachable.{Reachable}
use Rattle.play.specs.Play.{asks, decode, words, Calls, Plays}
use Rattle.play.proofs.Playing.{calls_run}
use Rattle.serial_saved.specs.Saved.{Restore}
use Rattle.serial_saved.specs.Calls.{Restores}
use Rattle.serial_saved.proofs.Bringing.{enough}
use Rattle.serial_saved.proofs.Saving.{restore_after_save, saved_reachable}
use Rattle.serial_form.specs.Calls.{written}
use Rattle.serial_form.proofs.RoundTrip.{there_and_back}
use Rattle.moved.specs.SerialPort.{HasForm, Leaves, Arrives, Same, SamePlayed}

size_told : (regs pos ring : List ℕ) → size_of regs ≡ (port_of regs pos ring).size
unfolding port_of
size_told regs pos ring = refl

module _ {regs pos ring form regs' pos' ring' : List ℕ} (f : HasForm regs pos ring) (l : Leaves regs pos ring form)
    (a : Arrives form regs' pos' ring') where
  few : length (take l.count l.waiting) ≤ size_of l.saved
  few = rw (l.saves.bytes, l.saves.registers, size_told regs pos ring) f.fits

  back : (a.count ≡ length (take l.count l.waiting)) × ((a.saved ≡ l.saved) × (a.waiting ≡ written (take l.count l.waiting) a.waiting₀))
  back =
      there_and_back (ap length l.saves.registers ∙ f.long) few (ap spare_registers l.saves.registers ∙ f.zero) l.encodes l.room
      (rw l.bytes at a.decodes)

  waiting_back : take a.count a.waiting ≡ take l.count l.waiting
  waiting_back = rw (back.0, back.1.1) (take-append_seam (take l.count l.waiting) _)

  -- the second host restores just what the first had saved
  restores : Restores a.regs a.pos a.ring l.saved (take l.count l.waiting) regs' pos' ring' a.word
  restores =
      subst (λ (saved : List ℕ). Restores a.regs a.pos a.ring saved (take l.count l.waiting) regs' pos' ring' a.word)
      back.1.0
      (subst (λ (waiting : List ℕ). Restores a.regs a.pos a.ring a.saved waiting regs' pos' ring' a.word) waiting_back a.restores)

  same : port_of regs' pos' ring' ≡ port_of regs pos ring
  same = (restore_after_save l.saves f.fits restores).1

  -- Saved, written, read and restored into any memory: nothing is refused, and every run is the one of the port that was saved.
  pub moved : Same regs pos ring form regs' pos' ring' a
  moved = record {
    read = back.0 ∙ ap length l.saves.bytes;
    restored = (restore_after_save l.saves f.fits restores).0;
    registers = (restores.restored (ap (λ (o : Restore). o.refused) (enough l.saved _ (port_of a.regs a.pos a.ring) few))).0 ∙ l.saves.registers;
    port = same;
    runs = λ os. ap (λ (p : Port). run p os) same;
  }

  -- A port that runs reach is one still, and the second host is told so.
  pub told : is_size (size_of regs) ≡ true → Reachable (size_of regs) (port_of regs pos ring) → a.word / 0x4_0000 % 2 ≡ 1
  told made k = (saved_reachable l.saves f.fits restores made k f.zero).0

-- ---- Both hosts play on, by one call

-- a word for each operation
one_each : (p : Port) (os : List Op) → length (words (run p os).answers) ≡ length os
unfolding run
one_each p [] = refl
one_each p (o ∷ os) = ap suc (one_each (step p o).port os)

first_are : (p : Port) (os : List Op) (rest : List ℕ) → take (length os) (words (run p os).answers ++ rest) ≡ words (run p os).answers
first_are p os rest = rw (← one_each p os) (take-append_seam (words (run p os).answers) rest)

-- The same run, played where the port was and where it is now, has the same answers and leaves the same port.
pub played_on : {regs pos ring form regs' pos' ring' : List ℕ} → HasForm regs pos ring → Leaves regs pos ring form
    → Arrives form regs' pos' ring'
    → {ops inputs : List ℕ} (os : List Op) → decode ops inputs ≡ asks os
    → {answers regs₁ pos₁ ring₁ answers₁ : List ℕ} {r : Bool} → length os ≤ length answers
    → Plays regs pos ring ops inputs answers regs₁ pos₁ ring₁ answers₁ r
    → {answers' regs₂ pos₂ ring₂ answers₂ : List ℕ} {r' : Bool} → length os ≤ length answers'
    → Plays regs' pos' ring' ops inputs answers' regs₂ pos₂ ring₂ answers₂ r'
    → SamePlayed (length os) regs₁ pos₁ ring₁ answers₁ r regs₂ pos₂ ring₂ answers₂ r'
played_on {regs} {pos} {ring} {regs' = regs'} {pos'} {ring'} f l a os e fits here fits' there =
    let m = moved f l a in
    let x = here.plays os e fits in
    let y = there.plays os e fits' in
    record {
      here = x.said;
      there = y.said;
      port = y.port ∙ ap (λ (p : Port). (run p os).port) m.port ∙ sym x.port;
      spares = there.spares_kept.0 ∙ ap spare_registers m.registers ∙ sym here.spares_kept.0;
      answered =
          ap (take (length os)) y.answered ∙ first_are (port_of regs' pos' ring') os _
          ∙ ap (λ (p : Port). words (run p os).answers) m.port
          ∙ sym (ap (take (length os)) x.answered ∙ first_are (port_of regs pos ring) os _);
    }

-- So it is by single calls, one after another.
pub called_on : {regs pos ring form regs' pos' ring' : List ℕ} → HasForm regs pos ring → Leaves regs pos ring form
    → Arrives form regs' pos' ring'
    → (os : List Op) {regs₁ pos₁ ring₁ rs : List ℕ} → Calls regs pos ring os regs₁ pos₁ ring₁ rs
    → {regs₂ pos₂ ring₂ ss : List ℕ} → Calls regs' pos' ring' os regs₂ pos₂ ring₂ ss
    → (ss ≡ rs) × (port_of regs₂ pos₂ ring₂ ≡ port_of regs₁ pos₁ ring₁)
called_on f l a os here there =
    let same = (moved f l a).port in
    let x = calls_run os here in
    let y = calls_run os there in (
      y.1 ∙ ap (λ (p : Port). words (run p os).answers) same ∙ sym x.1,
      y.0 ∙ ap (λ (p : Port). (run p os).port) same ∙ sym x.0,
    )

-- What a call of `play` makes of a fresh port, of whatever size, has a form: no more bytes wait than its size, and the spare registers stay 0.
pub movable : {size : ℕ} {regs₀ pos₀ ring₀ ops inputs answers regs pos ring answers' : List ℕ} {r : Bool} → MakesFresh size regs₀ pos₀
    → Plays regs₀ pos₀ ring₀ ops inputs answers regs pos ring answers' r
    → (os : List Op) → decode ops inputs ≡ asks os → length os ≤ length answers → length regs ≡ 16
    → HasForm regs pos ring
movable {size} {regs₀} {pos₀} {ring₀} {regs = regs} {pos} {ring} made played os e room long =
    let p = (played.plays os e room).port ∙ ap (λ (q : Port). (run q os).port) (made.holds ring₀) in
    record {
      long = long;
      zero = played.spares_kept.0 ∙ made.spares_zero;
      fits = rw (p, run_size (fresh size) os) (never_more (fresh size) os (omega arith));
    }
