-- What a restored port does, over runs.
use Prim.Native.Nat.{ℕ, ◌/◌, ◌%◌, ◌≤◌}
use mathlib.Core.Path.{◌≡◌, ap}
use mathlib.Core.Bool.{true}
use mathlib.Core.List.{List}
use mathlib.Core.Logic.{◌↔◌}
use lib.ListN.{length, take}
use Rattle.serial.specs.Port.{Port, is_size}
use Rattle.serial.specs.Layout.{port_of, size_of, spare_registers, fresh_spare_registers}
use Rattle.runs.specs.Run.{Op, run}
use Rattle.runs.specs.Reached.{Reached}
use Rattle.runs.proofs.Exact.{exact}
use Rattle.serial_saved.specs.Saved.{saved_of}
use Rattle.serial_saved.specs.Calls.{Saves, Restores}
use Rattle.serial_saved.proofs.Saving.{restore_after_save, reachable_exactly}

-- Restore after save: every run from the restored port is the one from the saved port, answers and states. The saved one held no more than
-- its size.
pub same_runs : {regs pos ring w saved w' : List ℕ} {n : ℕ} (s : Saves regs pos ring w saved w' n)
    → length (port_of regs pos ring).waiting ≤ (port_of regs pos ring).size → {regs₁ pos₁ ring₁ regs' pos' ring' : List ℕ} {r : ℕ} (b : Restores regs₁ pos₁ ring₁ saved (take n w') regs' pos' ring' r)
    (os : List Op) → run (port_of regs' pos' ring') os ≡ run (port_of regs pos ring) os
same_runs s few b os = ap (λ (p : Port). run p os) (restore_after_save s few b).1

-- A restore says "reachable" of a state exactly if a port is made with its size, and some run of bytes from a fresh one of that size comes
-- to it, with spare registers as a fresh port has them.
pub reached_exactly : {regs pos ring saved waiting regs' pos' ring' : List ℕ} {r : ℕ} (b : Restores regs pos ring saved waiting regs' pos' ring' r)
    → (r / 0x4_0000 % 2 ≡ 1) ↔ ((is_size (size_of saved) ≡ true) × (Reached (size_of saved) (saved_of saved waiting) × (spare_registers saved ≡ fresh_spare_registers)))
reached_exactly {saved = saved} {waiting = waiting} b =
    let e = exact (size_of saved) (saved_of saved waiting) in (
      λ h. let k = (reachable_exactly b).0 h in (k.made, (e.0 k.port, k.spares_zero)),
      λ k. (reachable_exactly b).1 (record { made = k.0; port = e.1 k.1.0; spares_zero = k.1.1 }),
    )
