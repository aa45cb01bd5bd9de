-- A line is handed on: what is done is what is to be done with it.
use Prim.Native.Nat.{ℕ, ◌+◌, ◌≤◌}
use mathlib.Core.Path.{◌≡◌, sym, ap, subst, ◌∙◌}
use mathlib.Core.List.{List, ◌++◌}
use native.Mathlib.Omega.{arith}
use lib.ListN.{length, length-append}
use Rattle.lines.specs.Answering.{Does, Hands}
use Rattle.lines.specs.declared.devices.Devices.{Devices}
use Rattle.lines.specs.declared.devices.Task.{Task}

module _ {line : List ℕ} {r task done : Task} {w w' : Devices} {out said out' : List ℕ} (e : r ≡ task) (f : r ≡ done) (p : out' ≡ out ++ said)
    (d : Does line done w said w') where
  pub handed : length out' ≤ length out + 4096 → Hands line task w out w' out'
  handed h = record { said = said; puts = p; does = subst (λ (t : Task). Does line t w said w') (sym f ∙ e) d; short = h }

  pub handed_short : length said ≤ 4096 → Hands line task w out w' out'
  handed_short h = handed (let n = simp length-append at (ap length p) in omega arith)
