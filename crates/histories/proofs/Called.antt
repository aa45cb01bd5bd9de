-- Calls one after another, each as its contract promises, do in memory what the host's deeds do to the port.
use mathlib.Core.Path.{◌≡◌, refl, sym, ap, subst, ◌∙◌}
use mathlib.Core.List.{List, [], ◌∷◌}
use Prim.Native.Nat.{ℕ, zero, suc, ◌<◌}
use native.Mathlib.Omega.{arith}
use lib.ListN.{length, get_or}
use Rattle.serial.specs.Port.{Port}
use Rattle.runs.specs.Run.{step}
use Rattle.play.specs.Play.{word}
use Rattle.serial_saved.specs.Saved.{Restore, restore_of}
use Rattle.serial_saved.proofs.Saving.{restore_word_lem}
use Rattle.histories.specs.History.{Deed, does, save, restore, bring, Standing, begins, back_to, Host, starts, next, after}
use Rattle.histories.specs.Calls.{Memory, SavedMemory, port_in, saved_in, Brought, Called, none, then, saves, restores, brings, Tells}
use Rattle.histories.specs.Calls.{Heard}
use Rattle.histories.proofs.Histories.{brings_back}

-- what was kept in memory is what the host keeps
data Same : List SavedMemory → List Standing → Type 0 where
  both_none : Same [] []
  both_one : {w : SavedMemory} {s : Standing} {ws : List SavedMemory} {ss : List Standing} → saved_in w ≡ s.port → Same ws ss
      → Same (w ∷ ws) (s ∷ ss)

same_one : {ws : List SavedMemory} {ss : List Standing} → Same ws ss → (n : ℕ) (w : SavedMemory) (s : Standing) → n < length ws
    → saved_in (get_or ws n w) ≡ (get_or ss n s).port
same_one both_none n w s h = absurd (omega arith)
same_one (both_one e k) zero w s h = e
same_one (both_one e k) (suc n) w s h = same_one k n w s (omega arith)

-- a restore in memory is one of the definition
module _ {m m' : Memory} {w : SavedMemory} {r : ℕ} (here saved : Standing) (e : port_in m ≡ here.port) (f : saved_in w ≡ saved.port) (b : Brought m w m' r) where
  same_restore : restore_of (port_in m) (saved_in w) ≡ restore_of here.port saved.port
  same_restore = rw (e, f)

  brought : port_in m' ≡ (back_to here saved).port
  brought = b.holds ∙ ap (λ (o : Restore). o.port) same_restore ∙ sym (brings_back here saved)

  told : Tells (restore_of here.port saved.port) r
  told =
      let k = restore_word_lem b.reachable (restore_of (port_in m) (saved_in w)) in
      let in_memory : Tells (restore_of (port_in m) (saved_in w)) r = rw b.answer (record { refusal = k.1.0; raises = k.1.1 }) in
      subst (λ (o : Restore). Tells o r) same_restore in_memory

-- The memory after the calls holds the port that the deeds leave, and the words are theirs.
record Follows (h : Host) (ds : List Deed) (m : Memory) (rs : List ℕ) : Type 0 where
  pub port : port_in m ≡ (after h ds).here.port
  pub heard : Heard h ds rs

follows : {m m' : Memory} {kept : List SavedMemory} (h : Host) {ds : List Deed} {rs : List ℕ} → port_in m ≡ h.here.port
    → Same kept h.kept
    → Called m kept ds m' rs → Follows h ds m' rs
unfolding after
follows h e k none = record { port = e; heard = refl }
follows h e k (then {o = o} d c) =
    let more = follows (next h (does o)) (d.port ∙ ap (λ (p : Port). (step p o).port) e) k c in
    record { port = more.port; heard = (d.answer ∙ ap (λ (p : Port). word (step p o).answer) e, more.heard) }
follows h e k (saves s c) =
    let more = follows (next h save) e (both_one (s.holds ∙ e) k) c in
    record { port = more.port; heard = (s.number ∙ ap (λ (p : Port). length p.waiting) e, more.heard) }
follows h e k (restores n w l b c) =
    let saved = get_or h.kept n h.here in
    let same = same_one k n w h.here l in
    let more = follows (next h (restore n)) (brought h.here saved e same b) k c in
    record { port = more.port; heard = (told h.here saved e same b, more.heard) }
follows h e k (brings w b c) =
    let saved = begins (saved_in w) in
    let more = follows (next h (bring (saved_in w))) (brought h.here saved e refl b) k c in
    record { port = more.port; heard = (told h.here saved e refl b, more.heard) }

-- From the first call on, from any memory: the port,
pub called_from : {m m' : Memory} {ds : List Deed} {rs : List ℕ} → Called m [] ds m' rs
    → port_in m' ≡ (after (starts (port_in m)) ds).here.port
called_from {m} c = (follows (starts (port_in m)) refl both_none c).port

-- and what the host heard: the answers of the operations, how many bytes were saved, and of each restore whether it was refused and how
-- often it raised.
pub heard_from : {m m' : Memory} {ds : List Deed} {rs : List ℕ} → Called m [] ds m' rs → Heard (starts (port_in m)) ds rs
heard_from {m} c = (follows (starts (port_in m)) refl both_none c).heard
