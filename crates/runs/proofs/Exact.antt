-- Every port that is `Reachable` is reached by a run of bytes from a fresh one: the definition says neither too little nor too much.
use mathlib.Core.Path.{◌≡◌, refl, sym, ap, subst, ◌∙◌}
use mathlib.Core.Bool.{Bool, true, false, cond, ◌&&◌, false≢true}
use mathlib.Core.List.{List, [], ◌∷◌, ◌++◌}
use Prim.Native.Nat.{ℕ, suc, ◌-◌, ◌<◌, ◌≤◌, min}
use native.Mathlib.Nat.{mod-eq_of_lt}
use native.Mathlib.Omega.{arith}
use lib.Bits.{bit_or, bit_and, and_mask, and_le_r}
use lib.ListN.{length}
use lib.Seq.{take-length}
use lib.Dec.{eqb, ltb, lit<}
use borrow.Author.Tests.{lt-ltb, ne_eqb}
use Rattle.common.specs.Bytes.{Bytes}
use Rattle.common.proofs.EveryByte.{same_test}
use Rattle.common.specs.Lists.{some}
use Rattle.common.specs.Bits.{on}
use Rattle.interrupts.specs.Interrupts.{ier_stored, code, settled, after_identification}
use Rattle.interrupts.proofs.Laws.{set_pending}
use Rattle.line_status.specs.LineStatus.{lsr_ready}
use Rattle.modem.specs.Modem.{is_loop}
use Rattle.serial.specs.Port.{addressed, Settings, Port, fresh, read_register, receives, write_ier, fcr_stored, write_fcr, write_register, input_of}
use mathlib.Core.Logic.{◌↔◌}
use Rattle.runs.proofs.Effects.{run_on}
use Rattle.runs.proofs.Reachable.{all_reachable}
use Rattle.runs.specs.Run.{Op, read, write, input, step, run}
use Rattle.runs.specs.Reachable.{Written, Reachable}
use Rattle.runs.specs.Reached.{AllOfBytes, Reached}

-- ---- A run that goes on

more_bytes : (os more : List Op) → AllOfBytes os → AllOfBytes more → AllOfBytes (os ++ more)
more_bytes [] more b c = c
more_bytes (o ∷ os) more b c = (b.0, more_bytes os more b.1 c)

then : (size : ℕ) {p q : Port} → Reached size p → (more : List Op) → AllOfBytes more → (run p more).port ≡ q → Reached size q
then size r more b e = (
  r.0 ++ more,
  more_bytes r.0 more r.1 b,
  run_on (fresh size) r.0 more ∙ ap (λ (p : Port). (run p more).port) r.2 ∙ e,
)

-- ---- Operations on ports whose other settings are those of a fresh one

at : ℕ → ℕ → ℕ → List ℕ → Port
at size ier iir q = record {
  settings = record { ier = ier; lcr = 0x03; mcr = 0x08; scr = 0; dll = 0x0c; dlm = 0; fcr = 0 };
  iir = iir;
  lsr = cond (some q) 0x61 0x60;
  msr = 0xb0;
  waiting = q;
  size = size;
}

stored : (e : ℕ) → e < 16 → ier_stored e ≡ e
unfolding ier_stored
stored e h = and_mask e 4 ∙ mod-eq_of_lt h

-- Ways to a port, by IER, IIR and the bytes that wait: IER is written, IIR is read, bytes come where none waits.
data Way (size : ℕ) : ℕ → ℕ → List ℕ → Type 0 where
  begins : Way size 0 1 []
  enables : {e iir : ℕ} {q : List ℕ} → Way size e iir q → (v : ℕ) → v < 16 → Way size v (settled v (bit_or iir 0x02) (some q)) q
  identifies : {e iir : ℕ} {q : List ℕ} → Way size e iir q → Way size e (after_identification e iir (some q)) q
  fills : {e iir : ℕ} → Way size e iir [] → (q : List ℕ) → Bytes q → length q ≤ size → Way size e (cond (some q) (settled e iir true) iir) q

arrives : {size e iir : ℕ} {q : List ℕ} → Way size e iir q → Reached size (at size e iir q)
unfolding run step at addressed read_register write_register write_ier input_of receives lsr_ready is_loop
arrives begins = ([], tt, refl)
arrives {size} (enables w v h) = then size (arrives w) (write 1 v ∷ []) ((lit< tt, omega arith), tt) (rw (stored v h))
arrives {size} (identifies w) = then size (arrives w) (read 2 ∷ []) (lit< tt, tt) refl
arrives {size} (fills w [] b f) = then size (arrives w) (input [] ∷ []) (b, tt) refl
arrives {size} (fills w (x ∷ q) b f) =
    let some_come : eqb (suc (length q)) 0 ≡ false = ne_eqb (suc (length q)) 0 (λ z. omega arith) in
    let has_room : ltb 0 size ≡ true = lt-ltb 0 size (omega arith) in
    let all : min (size - 0) (suc (length q)) ≡ suc (length q) = omega arith in
    then size (arrives w) (input (x ∷ q) ∷ []) (b, tt) (rw (some_come, has_room, all, take-length q))

-- ---- The way to a port: the transmitter's interrupt is pending as it was just enabled, or IIR has shown it before the bytes came

-- what is stored goes by what is active
same_settled : (e i j : ℕ) (w : Bool) → (on e 0x02 && on i 0x02) ≡ (on e 0x02 && on j 0x02) → settled e i w ≡ settled e j w
unfolding settled
same_settled e i j w h = rw h

-- no byte waits: IIR shows the transmitter, and nothing is pending then
after_shown : (e : ℕ) → on e 0x02 ≡ true → after_identification e (settled e 3 false) false ≡ 1
unfolding settled code
after_shown e t = go (on e 0x01) (on e 0x02) t
  where
    go : (r s : Bool) → s ≡ true
        → let i : ℕ = cond (r && false) (cond (s && on 3 0x02) 0x06 0x04) (cond (s && on 3 0x02) 0x02 0x01) in
        cond (eqb (cond (r && false) 0x04 (cond (s && on i 0x02) 0x02 0x01)) 0x02) 0x01 i ≡ 1
    go true true k = refl
    go false true k = refl
    go r false k = absurd (false≢true k)

none_active : (e iir : ℕ) → on iir 0x02 ≡ false → settled e iir false ≡ 1
unfolding settled
none_active e iir n = rw n (go (on e 0x01) (on e 0x02))
  where
    go : (r s : Bool) → ◌≡◌ {A = ℕ} (cond (r && false) (cond (s && false) 0x06 0x04) (cond (s && false) 0x02 0x01)) 1
    go true true = refl
    go true false = refl
    go false true = refl
    go false false = refl

module _ (size e : ℕ) (h : e < 16) (q : List ℕ) (b : Bytes q) (f : length q ≤ size) where
  to : {iir iir' : ℕ} → iir ≡ iir' → Way size e iir q → Way size e iir' q
  to = subst (λ (i : ℕ). Way size e i q)

  -- it is enabled last
  pending : (iir : ℕ) → (on e 0x02 && on iir 0x02) ≡ on e 0x02 → Way size e (settled e iir (some q)) q
  pending iir a = to (same_settled e _ iir (some q) (go (on e 0x02) a)) (enables (fills begins q b f) e h)
    where
      go : (t : Bool) → (t && on iir 0x02) ≡ t → (t && on (bit_or (cond (some q) (settled 0 1 true) 1) 0x02) 0x02) ≡ (t && on iir 0x02)
      go true k = set_pending (cond (some q) (settled 0 1 true) 1) ∙ sym k
      go false k = refl

  -- IIR showed it last, and then the bytes came
  shown : (iir : ℕ) → on e 0x02 ≡ true → on iir 0x02 ≡ false → Way size e (settled e iir (some q)) q
  shown iir t n = to (came (some q)) (fills (subst (λ (i : ℕ). Way size e i []) (after_shown e t) (identifies (enables begins e h))) q b f)
    where
      came : (w : Bool) → cond w (settled e 1 true) 1 ≡ settled e iir w
      came true = same_settled e 1 iir true (rw n)
      came false = sym (none_active e iir n)

way : (size : ℕ) (p : Port) → Reachable size p → Way size p.settings.ier p.iir p.waiting
way size p k = to size e h q b f (sym k.iir) (go (on e 0x02) (on p.iir 0x02) refl refl)
  where
    e : ℕ
    e = p.settings.ier

    q : List ℕ
    q = p.waiting

    h : e < 16
    h = k.settings.ier

    b : Bytes q
    b = k.bytes

    f : length q ≤ size
    f = k.fits

    go : (t s : Bool) → on e 0x02 ≡ t → on p.iir 0x02 ≡ s → Way size e (settled e p.iir (some q)) q
    go false s t u = pending size e h q b f p.iir (rw t)
    go true true t u = pending size e h q b f p.iir (rw (t, u))
    go true false t u = shown size e h q b f p.iir t u

-- ---- Then the other settings

set : Settings → List Op
set s = write 7 s.scr ∷ write 3 0x80 ∷ write 0 s.dll ∷ write 1 s.dlm ∷ write 3 s.lcr ∷ write 2 s.fcr ∷ write 4 s.mcr ∷ []

-- what is remembered of FCR is a byte, and empties nothing
remembered_byte : (f : ℕ) → fcr_stored f ≡ f → f < 256
remembered_byte f e = omega (arith, and_le_r f 0xc9)

remembered_keeps : (f : ℕ) → fcr_stored f ≡ f → on f 0x02 ≡ false
remembered_keeps f e =
    ap (λ (g : ℕ). on g 0x02) (sym e) ∙ same_test (λ g. on (bit_and g 0xc9) 0x02) (λ g. false) tt f (remembered_byte f e)

set_bytes : (s : Settings) → Written s → AllOfBytes (set s)
unfolding set
set_bytes s w =
    ((lit< tt, w.scr), ((lit< tt, lit< tt), ((lit< tt, w.dll), ((lit< tt, w.dlm), ((lit< tt, w.lcr), ((lit< tt, remembered_byte s.fcr w.fcr), ((lit< tt, w.mcr), tt)))))))

target : ℕ → Settings → ℕ → List ℕ → Port
target size s iir q = record { settings = s; iir = iir; lsr = cond (some q) 0x61 0x60; msr = 0xb0; waiting = q; size = size }

sets : (size : ℕ) (s : Settings) (iir : ℕ) (q : List ℕ) → fcr_stored s.fcr ≡ s.fcr
    → (run (at size s.ier iir q) (set s)).port ≡ target size s iir q
unfolding run step set at target addressed write_register write_fcr
sets size s iir q f = rw (remembered_keeps s.fcr f, f) refl

is_target : (size : ℕ) (p : Port) → Reachable size p → target size p.settings p.iir p.waiting ≡ p
unfolding target
is_target size p k = go k.lsr k.msr k.sized
  where
    go : {lsr msr n : ℕ} → p.lsr ≡ lsr → p.msr ≡ msr → p.size ≡ n
        → ◌≡◌ {A = Port} (record { settings = p.settings; iir = p.iir; lsr = lsr; msr = msr; waiting = p.waiting; size = n }) p
    go a b c = rw (← a, ← b, ← c)

-- Every port that is reachable is reached ..
pub reached : (size : ℕ) (p : Port) → Reachable size p → Reached size p
reached size p k =
    then size (arrives (way size p k)) (set p.settings) (set_bytes p.settings k.settings)
    (sets size p.settings p.iir p.waiting k.settings.fcr ∙ is_target size p k)

-- .. so the two say the same.
pub exact : (size : ℕ) (p : Port) → Reachable size p ↔ Reached size p
exact size p = (reached size p, λ r. subst (λ (q : Port). Reachable size q) r.2 (all_reachable size r.0 r.1))
