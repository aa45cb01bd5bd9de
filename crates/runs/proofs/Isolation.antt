-- A port's answers depend on its state and its operations alone, and of its memory on the registers and the bytes that wait.
use mathlib.Core.Path.{◌≡◌, refl, ap}
use mathlib.Core.List.{List}
use mathlib.Core.Logic.{◌≢◌}
use Prim.Native.Nat.{ℕ, zero, suc, ◌+◌, ◌%◌, ◌<◌, ◌≤◌}
use native.Mathlib.Nat.{add-zero}
use native.Mathlib.Omega.{arith}
use lib.ListN.{length, get_or, set}
use lib.Seq.{get_or-set_other}
use lib.Dec.{lit<}
use Rattle.serial.specs.Port.{Port}
use Rattle.ring.specs.Ring.{queue}
use Rattle.serial.specs.Layout.{places, start_of, count_of, port_of}
use Rattle.serial.proofs.Bounds.{memory_fits, size_fits}
use Rattle.runs.specs.Run.{Op, run}
use Rattle.runs.specs.Places.{place_of, Alike}
use Rattle.runs.proofs.Conserved.{bounded}

-- Two ports that agree and get the same operations answer the same.
pub same_answers : (p q : Port) (os : List Op) → p ≡ q → (run p os).answers ≡ (run q os).answers
same_answers p q os e = ap (λ (r : Port). (run r os).answers) e

-- ---- Memory

queue_alike : (places : ℕ) (ring ring' : List ℕ) (n start start' : ℕ)
    → ((k : ℕ) → k < n → get_or ring ((start + k) % places) 0 ≡ get_or ring' ((start' + k) % places) 0)
    → queue places ring start n ≡ queue places ring' start' n
unfolding queue
queue_alike places ring ring' zero start start' h = refl
queue_alike places ring ring' (suc n) start start' h =
    let first : get_or ring (start % places) 0 ≡ get_or ring' (start' % places) 0 = rw (add-zero start, add-zero start') at
    (h 0 (omega arith)) in
    let rest = queue_alike places ring ring' n (start + 1) (start' + 1)
    (λ k l. rw (next start k, next start' k) at (h (suc k) (omega arith))) in
    rw (first, rest)
  where
    next : (start k : ℕ) → start + suc k ≡ start + 1 + k
    next start k = omega arith

-- From any bytes: never more wait than the ring has places.
pub memory_never_more : (regs pos ring : List ℕ) (os : List Op) → length (run (port_of regs pos ring) os).port.waiting ≤ places
memory_never_more regs pos ring os =
    omega (arith, memory_fits regs pos ring, size_fits regs pos ring, bounded (port_of regs pos ring) os)

-- Memories with the same registers and the same bytes waiting are the same port, wherever the bytes lie and whatever lies elsewhere ..
pub alike : (regs pos ring regs' pos' ring' : List ℕ) → Alike regs pos ring regs' pos' ring'
    → port_of regs pos ring ≡ port_of regs' pos' ring'
unfolding port_of
alike regs pos ring regs' pos' ring' a =
    let r = a.registers in
    let q = queue_alike places ring ring' (count_of pos) (start_of pos) (start_of pos') a.bytes in
    rw (r 0 (lit< tt), r 1 (lit< tt), r 2 (lit< tt), r 3 (lit< tt), r 4 (lit< tt), r 5 (lit< tt), r 6 (lit< tt), r 7 (lit< tt), r 8 (lit< tt), r 9 (lit< tt), a.size, q, a.count)

-- .. so they answer every run alike ..
pub alike_answers : (regs pos ring regs' pos' ring' : List ℕ) (os : List Op) → Alike regs pos ring regs' pos' ring'
    → (run (port_of regs pos ring) os).answers ≡ (run (port_of regs' pos' ring') os).answers
alike_answers regs pos ring regs' pos' ring' os a = same_answers _ _ os (alike regs pos ring regs' pos' ring' a)

-- .. and what is stored where no byte waits shows in no answer.
pub spare : (regs pos ring : List ℕ) (i v : ℕ) → ((k : ℕ) → k < count_of pos → place_of pos k ≢ i)
    → port_of regs pos (set ring i v) ≡ port_of regs pos ring
spare regs pos ring i v h =
    alike regs pos (set ring i v) regs pos ring
    (record { registers = λ j l. refl; size = refl; count = refl; bytes = λ k l. get_or-set_other ring i (place_of pos k) v 0 (h k l) })
