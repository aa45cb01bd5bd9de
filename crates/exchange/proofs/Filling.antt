-- What a read makes of what is held.
use Prim.Native.Nat.{ℕ, ◌+◌, ◌-◌, ◌≤◌}
use mathlib.Core.Path.{◌≡◌, refl, sym, ap, subst, ◌∙◌}
use mathlib.Core.List.{List, [], ◌∷◌, ◌++◌}
use native.Mathlib.Omega.{arith}
use lib.ListN.{length}
use lib.Seq.{take-add}
use Rattle.pieces.specs.Cutting.{bytes_from}
use Rattle.pieces.specs.Inside.{Settles, Closes}
use Rattle.pieces.specs.Pieces.{Fills, read, ended_here, came_of}
use Rattle.pieces.specs.declared.State.{State}
use Rattle.pieces.proofs.Lines.{length_part}
use Rattle.words.specs.Put.{Puts}
use Rattle.exchange.specs.Came.{ReadsAfter, Filled}

-- Bytes came.
pub filled : {held held' held'' : List ℕ} {s s' r : State} (count : ℕ) → Settles held s held' s' → ReadsAfter held' s'.end held''
    → s'.end + count ≤ length held'
    → length held' ≡ 65536
    → r ≡ came_of s' count
    → Filled held s held'' r
filled {held} {held'} {held''} {s} {s'} {r} count st a fits block e =
    let end = s'.end in
    let bytes = bytes_from end (end + count) held'' in
    let d : (end + count) - end ≡ count = omega arith in
    let b = a.block in
    let l : length bytes ≡ count = length_part end (end + count) held'' (omega arith) ∙ d in
    let p : Puts held' end bytes held'' (end + length bytes) =
    record { next = refl; bytes = rw (l, take-add end count held'', d, a.before) refl } in
    record { bytes = bytes; fills = subst (λ (x : State). Fills held s bytes held'' x) (ap (λ (n : ℕ). came_of s' n) l ∙ sym e) (read st block p) }

-- None came: the input has ended.
pub closed : {held held' held₁ held'' : List ℕ} {s s' r : State} → Settles held s held' s' → ReadsAfter held' s'.end held₁
    → length held' ≡ 65536
    → Closes held₁ s' held'' r
    → Filled held s held'' r
closed st a block b = record {
  bytes = [];
  fills = ended_here st block (record {
    line = record { next = b.line.next; bytes = b.line.bytes ∙ ap (λ (x : List ℕ). x ++ (0x0a ∷ [])) a.before };
    place = b.place;
  });
}
