-- Turns, line by line.
use Prim.Native.Nat.{ℕ, ◌-◌, ◌≤◌, ◌<◌}
use mathlib.Core.Path.{◌≡◌, refl, sym, ap, ◌∙◌}
use mathlib.Core.Bool.{Bool}
use mathlib.Core.List.{List, [], ◌++◌, append_assoc, append-nil}
use native.Mathlib.Omega.{arith}
use lib.ListN.{length}
use Rattle.pieces.specs.Cutting.{lines_in, rest_of, bytes_from, cut_of}
use Rattle.pieces.specs.Inside.{Cuts}
use Rattle.pieces.specs.declared.State.{State}
use Rattle.pieces.specs.declared.cut.Cut.{Cut}
use Rattle.pieces.proofs.Lines.{joined, lines_append, rest_append}
use Rattle.lines.specs.Handing.{task_of}
use Rattle.lines.specs.Answering.{Hands, Answers, none, next, told_of, Reads}
use Rattle.lines.specs.Inside.{Goes, Turns}
use Rattle.lines.specs.declared.devices.Devices.{Devices}
use Rattle.lines.proofs.Answering.{cut}

-- ---- One after another

pub answers_append : {w w' w'' : Devices} {ls ms : List (List ℕ)} {a b : List ℕ} → Answers w ls a w' → Answers w' ms b w''
    → Answers w (ls ++ ms) (a ++ b) w''
answers_append none k = k
answers_append {b = b} (next {said = said} {rest = rest} d h) k = rw (append_assoc said rest b) (next d (answers_append h k))

pub reads_none : (w : Devices) (line told : List ℕ) → Reads w line told [] [] w line told
unfolding lines_in rest_of
reads_none w line told = record { answers = []; answered = none; rest = refl; says = append-nil told }

pub reads_append : {w w' w'' : Devices} {line told xs a line' told' ys b line'' told'' : List ℕ} → Reads w line told xs a w' line' told'
    → Reads w' line' told' ys b w'' line'' told''
    → Reads w line told (xs ++ ys) (a ++ b) w'' line'' told''
reads_append {w} {w'} {w''} {line} {told} {xs} {a} {line'} {told'} {ys} {b} {line''} {told''} h k = record {
  answers = h.answers ++ k.answers;
  answered = rw (lines_append line xs ys) (answers_append h.answered (rw h.rest at k.answered));
  rest = k.rest ∙ ap (λ (l : List ℕ). rest_of l ys) h.rest ∙ sym (rest_append line xs ys);
  says = sym (append_assoc told a b) ∙ ap (λ (l : List ℕ). l ++ b) h.says ∙ append_assoc h.answers told' b ∙
      ap (λ (l : List ℕ). h.answers ++ l) k.says ∙ sym (append_assoc h.answers k.answers told'');
}

-- ---- A turn

pub turn_begins : (held : List ℕ) (s : State) (w : Devices) (out : List ℕ) → Turns held s w out out s w
turn_begins held s w out = record {
  said = [];
  puts = sym (append-nil out);
  goes = λ line h. record { line' = line; stands = h; reads = stays line };
  onward = omega arith;
  end = refl;
  ended = refl;
} where
  stays : (line : List ℕ) → Reads w line (told_of s.passes line) (bytes_from s.seen s.seen held) [] w line (told_of s.passes line)
  stays line = let z : s.seen - s.seen ≡ 0 = omega arith in rw z (reads_none w line (told_of s.passes line))

-- The place after a cut.
abbrev pub after : State → Cut → State
after s r = record { from = r.from; seen = r.seen; end = s.end; ended = s.ended; passes = r.passes; full = s.full }

-- The line that was cut off.
abbrev line_in : List ℕ → State → Cut → List ℕ
line_in held s r = bytes_from s.from r.stop held

pub turn_goes_on : {held : List ℕ} {s s' : State} {w w' w'' : Devices} {out out' out'' : List ℕ} {r : Cut}
    → Turns held s w out out' s' w'
    → s'.from ≤ s'.seen
    → s'.seen < s'.end
    → s'.end ≤ length held
    → Cuts s'.from s'.seen s'.end r
    → r ≡ cut_of held s'.from s'.seen s'.end s'.passes
    → Hands (line_in held s' r) (task_of (line_in held s' r) r.kind w'.device) w' out' w'' out''
    → Turns held s w out out'' (after s' r) w''
turn_goes_on {held} {s} {s'} {w} {w'} {w''} {out} {out'} {out''} {r} t started further fits c q d = record {
  said = t.said ++ d.said;
  puts = d.puts ∙ ap (λ (l : List ℕ). l ++ d.said) t.puts ∙ append_assoc out t.said d.said;
  goes = λ line h. goes_on line (t.goes line h);
  onward = let x = t.onward in let y = c.goes_on in omega arith;
  end = t.end;
  ended = t.ended;
} where
  goes_on : (line : List ℕ) → Goes held s w line t.said s' w' → Goes held s w line (t.said ++ d.said) (after s' r) w''
  goes_on line g =
      let step = cut held s'.from s'.seen s'.end started further fits w' s'.passes g.line' g.stands.whole g.stands.long r q c.stops d.said w'' d.does in
      let x = t.onward in
      let y = c.goes_on in
      record {
        line' = step.line';
        stands = record { whole = step.whole; long = step.long };
        reads = rw (joined held s.seen s'.seen r.seen x (omega arith)) (reads_append g.reads step.reads);
      }

-- The turn is over: what is left is told by one bit.
abbrev pub told : State → Bool → State
told s full = record { from = s.from; seen = s.seen; end = s.end; ended = s.ended; passes = s.passes; full = full }

pub turn_ends : {held : List ℕ} {s s' : State} {w w' : Devices} {out out' : List ℕ} (full : Bool) → Turns held s w out out' s' w'
    → Turns held s w out out' (told s' full) w'
turn_ends full t = record {
  said = t.said;
  puts = t.puts;
  goes = λ line h. let g = t.goes line h in
      record { line' = g.line'; stands = record { whole = g.stands.whole; long = g.stands.long }; reads = g.reads };
  onward = t.onward;
  end = t.end;
  ended = t.ended;
}
