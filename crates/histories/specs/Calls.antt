-- The same in memory: the calls that a host makes one after another, each as its contract promises.
use Rattle.std.specs.Prelude.{ℕ, ◌/◌, ◌%◌, ◌<◌, ◌≡◌, cond, List, [], ◌∷◌, length, get_or, take}
use Rattle.serial.specs.Port.{Port}
use Rattle.serial.specs.Layout.{port_of}
use Rattle.common.specs.Answer.{refused_bit, one_raise}
use Rattle.runs.specs.Run.{Op, step}
use Rattle.play.specs.Play.{word, Does}
use Rattle.serial_saved.specs.Saved.{saved_of, Restore, restore_of}
use Rattle.serial_saved.specs.Calls.{Saves, Restores}
use Rattle.histories.specs.History.{Deed, does, save, restore, bring, Host, next}

-- A port's memory, and the memory of one that was saved.
pub record Memory : Type 0 where
  pub regs : List ℕ
  pub pos : List ℕ
  pub ring : List ℕ

pub record SavedMemory : Type 0 where
  pub regs : List ℕ
  pub waiting : List ℕ

abbrev pub port_in : Memory → Port
port_in m = port_of m.regs m.pos m.ring

abbrev pub saved_in : SavedMemory → Port
saved_in w = saved_of w.regs w.waiting

abbrev pub Brought : Memory → SavedMemory → Memory → ℕ → Type 0
Brought m w m' r = Restores m.regs m.pos m.ring w.regs w.waiting m'.regs m'.pos m'.ring r

-- From a memory and what was kept, the last first, to the memory after the deeds; and the word that each call answered. The host restores
-- only what it kept.
pub data Called : Memory → List SavedMemory → List Deed → Memory → List ℕ → Type 0 where
  none : {m : Memory} {kept : List SavedMemory} → Called m kept [] m []
  then : {m m' m'' : Memory} {kept : List SavedMemory} {ds : List Deed} {o : Op} {r : ℕ} {rs : List ℕ}
      → Does (port_in m) o (port_in m') r → Called m' kept ds m'' rs → Called m kept (does o ∷ ds) m'' (r ∷ rs)
  saves : {m m'' : Memory} {kept : List SavedMemory} {ds : List Deed} {waiting saved' waiting' : List ℕ} {r : ℕ} {rs : List ℕ}
      → Saves m.regs m.pos m.ring waiting saved' waiting' r
      → Called m (record { regs = saved'; waiting = take r waiting' } ∷ kept) ds m'' rs → Called m kept (save ∷ ds) m'' (r ∷ rs)
  restores : {m m' m'' : Memory} {kept : List SavedMemory} {ds : List Deed} {r : ℕ} {rs : List ℕ} (n : ℕ) (other : SavedMemory)
      → n < length kept → Brought m (get_or kept n other) m' r → Called m' kept ds m'' rs → Called m kept (restore n ∷ ds) m'' (r ∷ rs)
  brings : {m m' m'' : Memory} {kept : List SavedMemory} {ds : List Deed} {r : ℕ} {rs : List ℕ} (w : SavedMemory)
      → Brought m w m' r → Called m' kept ds m'' rs → Called m kept (bring (saved_in w) ∷ ds) m'' (r ∷ rs)

-- What a restore's word says of refusal and raises.
pub record Tells (o : Restore) (r : ℕ) : Type 0 where
  pub refusal : r / refused_bit % 2 ≡ cond o.refused 1 0
  pub raises : r / one_raise ≡ o.raises

-- The words of the deeds by the definition: an operation's is its answer's, that of saving is how many bytes wait.
abbrev pub Heard : Host → List Deed → List ℕ → Type 0
Heard h [] rs = rs ≡ []
Heard h (d ∷ ds) [] = ⊥
Heard h (does o ∷ ds) (r ∷ rs) = (r ≡ word (step h.here.port o).answer) × Heard (next h (does o)) ds rs
Heard h (save ∷ ds) (r ∷ rs) = (r ≡ length h.here.port.waiting) × Heard (next h save) ds rs
Heard h (restore n ∷ ds) (r ∷ rs) =
    Tells (restore_of h.here.port (get_or h.kept n h.here).port) r × Heard (next h (restore n)) ds rs
Heard h (bring p ∷ ds) (r ∷ rs) = Tells (restore_of h.here.port p) r × Heard (next h (bring p)) ds rs
