-- A test of runs that is computed: a run that passes it meets no row.
use mathlib.Core.Path.{◌≡◌, refl, sym, ap, ◌∙◌}
use mathlib.Core.List.{List, [], ◌∷◌}
use mathlib.Core.Bool.{Bool, true, false, cond, not, ◌&&◌, ◌||◌, false≢true}
use Prim.Native.Nat.{ℕ, ◌<◌}
use native.Mathlib.Omega.{arith}
use lib.ListN.{get_or, drop}
use lib.Dec.{eqb, ltb, lit≤}
use borrow.Author.Tests.{eqb-true, ltb-true}
use Rattle.common.proofs.Booleans.{both_true}
use Rattle.sidebyside.specs.Answers.{Said, says, silent, none, Answer, answers, refuses, Fits}
use Rattle.sidebyside.specs.Runs.{RowFree}
use Rattle.serial.specs.Port.{Port}
use Rattle.pc16550d.specs.Chip.{Chip, Op, pin, chip_does, rises}
use Rattle.pc16550d.specs.Chip as chip
use Rattle.pc16550d.specs.Compare.{Done, device_does, chip_of, Sound, Agrees, pair}
use Rattle.pc16550d.specs.Runs.{begins}
use Rattle.pc16550d.proofs.Agreement.{pin_is}
use Rattle.pc16550d.proofs.Exact.{real}
use Rattle.pc16550d.proofs.Keeping.{keeps, fresh_sound}

-- ---- A chip as a list of numbers, and back
flag : Bool → ℕ
flag t = cond t 1 0

flag_is : (t : Bool) → eqb (flag t) 1 ≡ t
unfolding flag
flag_is true = refl
flag_is false = refl

written : Chip → List ℕ
written c =
    c.line.lcr ∷ c.line.dll ∷ c.line.dlm ∷ c.interrupts.ier ∷ flag c.interrupts.thre
    ∷ flag c.receiver.fifos ∷ c.receiver.trigger ∷ flag c.receiver.overrun
    ∷ c.modem.mcr ∷ c.modem.pins ∷ c.modem.changes ∷ c.scr ∷ c.receiver.waiting

read_back : List ℕ → Chip
read_back l = record {
  line = record { lcr = get_or l 0 0; dll = get_or l 1 0; dlm = get_or l 2 0 };
  interrupts = record { ier = get_or l 3 0; thre = eqb (get_or l 4 0) 1 };
  receiver = record { fifos = eqb (get_or l 5 0) 1; trigger = get_or l 6 0; overrun = eqb (get_or l 7 0) 1; waiting = drop 12 l };
  modem = record { mcr = get_or l 8 0; pins = get_or l 9 0; changes = get_or l 10 0 };
  scr = get_or l 11 0;
}

same_back : (c : Chip) → read_back (written c) ≡ c
unfolding written read_back
same_back c = rw (flag_is c.interrupts.thre, flag_is c.receiver.fifos, flag_is c.receiver.overrun)

-- ---- Tests of equality
same : List ℕ → List ℕ → Bool
same [] [] = true
same [] (y ∷ ys) = false
same (x ∷ xs) [] = false
same (x ∷ xs) (y ∷ ys) = eqb x y && same xs ys

same_is : (xs ys : List ℕ) → same xs ys ≡ true → xs ≡ ys
unfolding same
same_is [] [] e = refl
same_is [] (y ∷ ys) e = absurd (false≢true e)
same_is (x ∷ xs) [] e = absurd (false≢true e)
same_is (x ∷ xs) (y ∷ ys) e = let b = both_true (eqb x y) (same xs ys) e in rw (eqb-true x y b.0, same_is xs ys b.1)

same_chip : (c d : Chip) → same (written c) (written d) ≡ true → c ≡ d
same_chip c d e = sym (same_back c) ∙ ap read_back (same_is (written c) (written d) e) ∙ same_back d

fits : Answer → Said → Bool
fits (answers v) (says w) = eqb v w
fits refuses (says w) = false
fits a silent = true
fits a none = true

fits_is : (a : Answer) (s : Said) → fits a s ≡ true → Fits a s
unfolding fits
fits_is (answers v) (says w) e = eqb-true v w e
fits_is refuses (says w) e = absurd (false≢true e)
fits_is a silent e = tt
fits_is a none e = tt

-- ---- The signal
signals : Bool → Bool → ℕ → Bool
signals risen after raises = (not risen || ltb 0 raises) && (eqb raises 0 || after)

raises : (risen : Bool) (n : ℕ) → (not risen || ltb 0 n) ≡ true → risen ≡ true → 0 < n
raises true n e f = ltb-true 0 n e
raises false n e f = absurd (false≢true f)

is_high : (n : ℕ) (t after : Bool) → eqb n 0 ≡ t → (t || after) ≡ true → 0 < n → after ≡ true
is_high n true after z e h = absurd (omega (arith, eqb-true n 0 z))
is_high n false after z e h = e

-- ---- A call that passes its tests agrees; a run of which each call does meets no row
agrees_test : Chip → Done → chip.Out → Bool
agrees_test before d c =
    fits d.reply c.reply
    && (same d.sent c.sent
    && (same (written (chip_of d.port)) (written c.chip) && signals (rises before c) (pin c.chip) d.raises))

test_is : (before : Chip) (d : Done) (c : chip.Out) → agrees_test before d c ≡ true → Agrees before d c
unfolding agrees_test signals
test_is before d c e =
    let reply = both_true (fits d.reply c.reply) _ e in
    let sent = both_true (same d.sent c.sent) _ reply.1 in
    let next = both_true (same (written (chip_of d.port)) (written c.chip)) _ sent.1 in
    let signal = both_true (not (rises before c) || ltb 0 d.raises) _ next.1 in
    let after : chip_of d.port ≡ c.chip = same_chip _ _ next.0 in
    record {
      alike = record {
        reply = fits_is _ _ reply.0;
        sent = same_is _ _ sent.0;
        rise = raises _ _ signal.0;
        high = is_high d.raises _ _ refl signal.1;
        level = sym (pin_is d.port) ∙ ap pin after;
      };
      next = after;
    }

run_test : Port → List Op → Bool
run_test p [] = true
run_test p (o ∷ os) = agrees_test (chip_of p) (device_does p o) (chip_does (chip_of p) o) && run_test (device_does p o).port os

free : (p : Port) → Sound p → (os : List Op) → run_test p os ≡ true → RowFree pair p os
unfolding run_test
free p k [] e = tt
free p k (o ∷ os) e =
    let b = both_true (agrees_test (chip_of p) (device_does p o) (chip_does (chip_of p) o)) (run_test (device_does p o).port os) e in
    (λ row. real p o row (test_is _ _ _ b.0), free (device_does p o).port (keeps p k o) os b.1)

-- A run from the fresh device that passes the test meets no row.
unfoldable pub testing : List Op → Bool
unfolding flag written same fits signals agrees_test run_test
testing os = run_test begins os

pub passes : (os : List Op) → testing os ≡ true → RowFree pair begins os
unfolding testing
passes os e = free begins (fresh_sound 64 (lit≤ tt)) os e
