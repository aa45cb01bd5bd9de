-- What the parts of the code say, one law for each place where one answers.
use Prim.Native.Nat.{ℕ, ◌+◌, ◌*◌, ◌/◌, ◌%◌, ◌<◌}
use mathlib.Core.Path.{◌≡◌, refl, sym, ap, ◌∙◌}
use mathlib.Core.Logic.{◌↔◌}
use mathlib.Core.Bool.{Bool, true, false, cond}
use mathlib.Core.List.{List, ◌++◌}
use native.Mathlib.Decide.{dec_lt, ℕ_discrete}
use native.Mathlib.Omega.{arith}
use borrow.Author.Tests.{eq-eqb, ne_eqb}
use lib.Dec.{eqb}
use lib.ListN.{length}
use Rattle.serial.specs.Port.{Out, Port}
use Rattle.serial.specs.Layout.{size_of, port_of, spare_registers}
use Rattle.serial.proofs.Bounds.{read_word_lem}
use Rattle.serial_saved.specs.Saved.{Restore, saved_of, restore_of}
use Rattle.common.specs.Answer.{one_raise}
use Rattle.serial.specs.Calls.{read_word}
use Rattle.serial_saved.specs.Calls.{Restores}
use Rattle.serial_saved.proofs.Bringing.{too_many, enough}
use Rattle.serial_saved.proofs.Saving.{restore_word_lem}
use Rattle.words.specs.Hex.{digits_of}
use Rattle.words.specs.Text.{text}
use Rattle.words.proofs.Saying.{instead}
use Rattle.serial_words.specs.Inside.{brought_part}
use Rattle.serial_words.specs.Said.{raises_say}
use Rattle.serial_access.specs.Accesses.{read_says}
use Rattle.serial_access.specs.declared.Port as memory
use Rattle.serial_lines.specs.Answers.{Brought, Reached, restore_says}

-- A reply that is a byte is what a read says, and so are the raises.
pub read_plainly : (o : Out) → o.reply < 256 → read_says o ≡ text "r " ++ digits_of o.reply ++ raises_say o.raises
read_plainly o h =
    let parts = read_word_lem o (omega arith) in
    let low : read_word o % 256 ≡ o.reply = omega (arith, parts.number) in
    rw (low, parts.raises) refl

-- ---- A port is restored

module _ {port port' : memory.Port} {saved waiting : List ℕ} {word : ℕ}
    (b : Restores port.regs port.pos port.ring saved waiting port'.regs port'.pos port'.ring word) where
  abbrev p : Port
  p = port_of port.regs port.pos port.ring

  abbrev o : Restore
  o = restore_of p (saved_of saved waiting)

  refused : word ≡ 0x1_0000 → o.refused ≡ true
  refused e = go b.reachable o.refused o.raises (sym b.answer ∙ e)
    where
      go : (reachable refused : Bool) (raises : ℕ) → cond refused 0x1_0000 0 + cond reachable 0x4_0000 0 + one_raise * raises ≡ 0x1_0000
          → refused ≡ true
      go reachable true raises e = refl
      go true false raises e = absurd (omega (arith, e))
      go false false raises e = absurd (omega (arith, e))

  not_refused : (word ≡ 0x1_0000 → ⊥) → o.refused ≡ false
  unfolding saved_of
  not_refused h = go (dec_lt (size_of saved) (length waiting))
    where
      word_of : size_of saved < length waiting → (t : Bool) → b.reachable ≡ t → word ≡ 0x1_0000
      word_of l true e = absurd (omega (arith, (b.exact.0 e).port.fits))
      word_of l false e = b.answer ∙ rw (e, too_many saved waiting p l) refl

      go : Dec (size_of saved < length waiting) → o.refused ≡ false
      go (yes l) = absurd (h (word_of l b.reachable refl))
      go (no l) = ap (λ (o : Restore). o.refused) (enough saved waiting p (omega arith))

  odd : word / 0x4_0000 % 2 ≡ cond b.reachable 1 0
  odd = rw b.answer (restore_word_lem b.reachable o).0

  raises : word / one_raise ≡ o.raises
  raises = rw b.answer (restore_word_lem b.reachable o).1.1

  tells : (b.reachable ≡ true) ↔ Reached (saved_of saved waiting) (spare_registers saved)
  unfolding saved_of port_of
  tells = (
    λ e. let k = b.exact.0 e in (k.made, k.port, k.spares_zero),
    λ k. b.exact.1 (record { made = k.0; port = k.1; spares_zero = k.2 }),
  )

  said : brought_part word ≡ restore_says o b.reachable
  said = go (ℕ_discrete word 0x1_0000)
    where
      reach : (t : Bool)
          → cond (eqb (cond t 1 0) 1) (text " reached\n") (text " unreached\n") ≡ cond t (text " reached\n") (text " unreached\n")
      reach true = refl
      reach false = refl

      go : Dec (word ≡ 0x1_0000) → brought_part word ≡ restore_says o b.reachable
      go (yes e) = rw (eq-eqb word 0x1_0000 e, refused e) refl
      go (no h) = rw (ne_eqb word 0x1_0000 h, not_refused h, raises, odd, reach b.reachable) refl

  spare : spare_registers port'.regs ≡ cond o.refused (spare_registers port.regs) (spare_registers saved)
  spare = go o.refused refl
    where
      go : (t : Bool) → o.refused ≡ t → spare_registers port'.regs ≡ cond o.refused (spare_registers port.regs) (spare_registers saved)
      go true e = rw e (ap spare_registers (b.unchanged_if_refused e).0)
      go false e = rw e (ap spare_registers (b.restored e).0)

  pub brings : {out out' : List ℕ} → out' ≡ out ++ (brought_part word)
      → Brought (saved_of saved waiting) (spare_registers saved) port port' out out'
  brings {out} q = record { reached = b.reachable; tells = tells; did = record { says = instead out said q; holds = b.holds; spare = spare } }
