-- The serial port's answers, one law for each place where the code answers a line.
use Prim.Native.Nat.{ℕ, zero, suc, ◌+◌, ◌%◌, ◌≤◌, ◌<◌, min}
use mathlib.Core.Path.{◌≡◌, refl, sym, ap, ◌∙◌}
use mathlib.Core.Bool.{false}
use mathlib.Core.List.{List, [], ◌∷◌, ◌++◌}
use Rattle.std.proofs.Common.{Some}
use native.Mathlib.Numerals.{add-one}
use native.Mathlib.Omega.{arith}
use lib.ListN.{length, get_or, take}
use lib.Seq.{take-suc}
use Rattle.serial.specs.Port.{line}
use Rattle.ring.specs.Ring.{queue}
use Rattle.serial.specs.Layout.{places, port_of, spare_registers}
use Rattle.ring.proofs.Laws.{queue_split}
use Rattle.serial_saved.specs.Saved.{saved_of}
use Rattle.serial_saved.specs.Calls.{Saves}
use Rattle.serial_saved.proofs.Bringing.{same_port}
use Rattle.serial_words.specs.Lines.{line_of}
use Rattle.serial_words.specs.Said.{port_says}
use Rattle.serial_words.specs.declared.line.Access.{Access}
use Rattle.serial_words.specs.declared.line.Line.{Line}
use Rattle.words.specs.Text.{text}
use Rattle.words.proofs.Saying.{both}
use Rattle.serial_lines.specs.declared.Held.{Held}
use Rattle.serial_lines.specs.declared.kept.Saved.{Saved}
use Rattle.serial_lines.specs.Answers.{Answers, asks, asks_by, asks_port, port_in, save}

-- ---- The port is saved

-- the first bytes, one by one, are those from the first place on
none_from : (waiting : List ℕ) → queue places waiting 0 0 ≡ []
unfolding queue
none_from waiting = refl

one_from : (waiting : List ℕ) (n : ℕ) → n < places → queue places waiting 0 (suc n) ≡ queue places waiting 0 n ++ (get_or waiting n 0 ∷ [])
unfolding queue
one_from waiting n h =
    let place : (0 + n) % places ≡ n = omega arith in
    ap (queue places waiting 0) (sym (add-one n)) ∙ queue_split places waiting 0 n 1 ∙
    ap (λ (i : ℕ). queue places waiting 0 n ++ (get_or waiting i 0 ∷ [])) place

from_first : (waiting : List ℕ) (n : ℕ) → n ≤ places → n ≤ length waiting → queue places waiting 0 n ≡ take n waiting
from_first waiting zero h l = none_from waiting
from_first waiting (suc n) h l =
    one_from waiting n (omega arith) ∙ rw (from_first waiting n (omega arith) (omega arith)) (sym (take-suc waiting n 0 (omega arith)))

module _ (held : Held) {out out' : List ℕ} where
  pub saves : (saved : Saved) {waiting o₁ : List ℕ}
      → Saves held.port.regs held.port.pos held.port.ring waiting saved.regs saved.waiting saved.count
      → length saved.waiting ≡ places → o₁ ≡ out ++ (text "save")
      → out' ≡ o₁ ++ (port_says (port_of saved.regs (0 ∷ saved.count ∷ []) saved.waiting)) → length out' ≤ length out + 4096
      → Answers save held out (record { port = held.port; kept = Some saved }) out'
  unfolding saved_of
  saves saved s l p q h =
      let few : saved.count ≤ places = saved.in_ring in
      let same : min saved.count places ≡ saved.count = omega arith in
      let bytes : queue places saved.waiting 0 (min saved.count places) ≡ take saved.count saved.waiting = rw same
      (from_first saved.waiting saved.count (omega arith) (omega (arith, l))) in
      let port : port_of saved.regs (0 ∷ saved.count ∷ []) saved.waiting ≡ port_in held = same_port saved.regs (0 ∷ saved.count ∷ []) saved.waiting
      (take saved.count saved.waiting) bytes ∙ s.holds in
      record { reached = false; tells = tt; said = rw (← port) (both out _ _ p q); port = refl; spare = refl; kept = (saved, refl, s.holds, ap spare_registers s.registers); short = h }

-- ---- One line

pub by_line : (line : List ℕ) (held : Held) {l : Line} {held' : Held} {out out' : List ℕ} {told : Line} → told ≡ line_of line
    → told ≡ l
    → Answers (asks_by l held line) held out held' out' → Answers (asks held line) held out held' out'
by_line line held e f a = rw (← e, f) a

pub by_access : (line : List ℕ) {access a : Access} {held held' : Held} {out out' : List ℕ} → access ≡ a
    → Answers (asks_port a line) held out held' out' → Answers (asks_port access line) held out held' out'
by_access line e a = rw e a
