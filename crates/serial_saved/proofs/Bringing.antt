-- What each answer of the two calls is in the definition.
use mathlib.Core.Path.{◌≡◌, refl, sym, ap, ◌∙◌}
use mathlib.Core.Logic.{◌↔◌}
use mathlib.Core.Bool.{Bool, true, false, cond, false≢true, true≢false}
use mathlib.Core.List.{List, [], ◌∷◌}
use Prim.Native.Nat.{ℕ, ◌+◌, ◌*◌, ◌≤◌, ◌<◌}
use native.Mathlib.Nat.{zero-add}
use native.Mathlib.Omega.{arith}
use mir.Val.{bool_byte}
use lib.ListN.{length, set, take}
use lib.Seq.{take-length}
use borrow.Author.Tests.{le-leb, lt-leb}
use Rattle.serial.specs.Port.{Port}
use Rattle.ring.specs.Ring.{queue}
use Rattle.serial.specs.Layout.{places, size_of, start_of, count_of, port_of, spare_positions}
use Rattle.ring.specs.Ring.{Put, Unrolled}
use Rattle.serial.proofs.Sizes.{size_few}
use Rattle.serial.proofs.Answering.{waiting_length}
use Rattle.serial_saved.specs.Saved.{saved_of, raised_again, restore_of}
use Rattle.common.specs.Answer.{one_raise}
use Rattle.serial_saved.specs.Calls.{Saves, ReachableSaved, Restores}

-- Registers and waiting bytes are the whole port.
pub same_port : (regs pos ring waiting : List ℕ)
    → queue places ring (start_of pos) (count_of pos) ≡ waiting → port_of regs pos ring ≡ saved_of regs waiting
unfolding port_of saved_of
same_port regs pos ring waiting e = rw e refl

-- ---- Save

pub saves : (regs pos ring waiting saved' waiting' : List ℕ) (n : ℕ) → n ≡ count_of pos → saved' ≡ regs
    → Unrolled places ring (start_of pos) n waiting waiting'
    → Saves regs pos ring waiting saved' waiting' n
unfolding port_of
saves regs pos ring waiting saved' waiting' n e s u =
    let all : take n waiting' ≡ queue places ring (start_of pos) (count_of pos) = u.bytes
    ∙ ap (λ (k : ℕ). queue places ring (start_of pos) k) e in
    record {
      registers = s;
      number = e ∙ sym (waiting_length regs pos ring);
      bytes = all;
      others = u.others;
      holds = rw s (sym (same_port regs pos ring (take n waiting') (sym all)));
    }

-- ---- Restore

positions : (pos : List ℕ) (n : ℕ) → length pos ≡ 4 → set (set pos 0 0) 1 n ≡ 0 ∷ n ∷ spare_positions pos
positions (a ∷ b ∷ pos) n l = refl
positions [] n l = absurd (omega arith)
positions (a ∷ []) n l = absurd (omega arith)

-- a test as a number
pub as_number : (t : Bool) → (0x4_0000 * bool_byte t ≡ cond t 0x4_0000 0) × (bool_byte t ≤ 1)
as_number true = (refl, omega arith)
as_number false = (refl, omega arith)

module _ (saved waiting : List ℕ) where
  pub too_many : (p : Port) → size_of saved < length waiting → restore_of p (saved_of saved waiting) ≡ record { port = p; refused = true; raises = 0 }
  unfolding restore_of saved_of port_of
  too_many p h = rw (lt-leb (length waiting) (size_of saved) h)

  pub enough : (p : Port) → length waiting ≤ size_of saved
      → restore_of p (saved_of saved waiting) ≡ record { port = saved_of saved waiting; refused = false; raises = length (raised_again (saved_of saved waiting)) }
  unfolding restore_of saved_of port_of
  enough p h = rw (le-leb (length waiting) (size_of saved) h)

  -- too many bytes: nothing was done
  pub refuses : (regs pos ring : List ℕ) → size_of saved < length waiting → Restores regs pos ring saved waiting regs pos ring 0x1_0000
  unfolding saved_of
  refuses regs pos ring h =
      rw (too_many (port_of regs pos ring) h)
      (record {
        reachable = false;
        exact = (λ e. absurd (false≢true e), λ k. absurd (omega (arith, k.port.fits)));
        answer = refl;
        holds = refl;
        unused_bytes_kept = refl;
        spare_positions_kept = refl;
        restored = λ e. absurd (true≢false e);
        unchanged_if_refused = λ e. (refl, (refl, refl));
      })

  pub restores : (regs pos ring regs' ring' : List ℕ) (raises : ℕ) (reachable : Bool) → length waiting ≤ size_of saved → length pos ≡ 4
      → regs' ≡ saved
      → Put places ring 0 0 (take (length waiting) waiting) ring' (0 + length waiting) → (reachable ≡ true) ↔ ReachableSaved saved waiting
      → raises ≡ length (raised_again (saved_of saved waiting))
      → Restores regs pos ring saved waiting regs' (set (set pos 0 0) 1 (length waiting)) ring'
      (0x4_0000 * bool_byte reachable + one_raise * raises)
  unfolding queue
  restores regs pos ring regs' ring' raises reachable h l c put k e =
      let z : 0 + length waiting ≡ length waiting = zero-add (length waiting) in
      let n : count_of (0 ∷ length waiting ∷ spare_positions pos) ≡ length waiting = omega (arith, size_few saved) in
      rw (enough (port_of regs pos ring) h, positions pos (length waiting) l, c)
      (record {
        reachable = reachable;
        exact = k;
        answer = rw ((as_number reachable).0, e) (omega arith);
        holds =
            same_port saved (0 ∷ length waiting ∷ spare_positions pos) ring' waiting (rw n (rw z at put.behind ∙ take-length waiting));
        unused_bytes_kept = rw n (rw z at put.rest);
        spare_positions_kept = refl;
        restored = λ f. (refl, refl);
        unchanged_if_refused = λ f. absurd (false≢true f);
      })
