-- Each cut, in the words of whole lines.
use Prim.Native.Nat.{ℕ, ◌+◌, ◌-◌, ◌≤◌, ◌<◌}
use mathlib.Core.Path.{◌≡◌, refl, sym, ap, subst, ◌∙◌}
use mathlib.Core.Bool.{Bool, true, false, true≢false, false≢true}
use mathlib.Core.List.{List, [], ◌++◌, append-nil}
use native.Mathlib.Omega.{arith}
use borrow.Author.Tests.{eqb-true, eqb-false, leb-true, leb-false, ltb-true, ltb-false}
use lib.Dec.{eqb, leb, ltb}
use lib.ListN.{length, get_or, length-append, get_or-append}
use Rattle.pieces.specs.Cutting.{longest, kind_of, bytes_from, stop_of, cut_of}
use Rattle.pieces.specs.declared.cut.Cut.{Cut}
use Rattle.pieces.specs.declared.cut.Kind.{Kind}
use Rattle.pieces.specs.declared.cut.Kind.TheVariants.{Silent, TooLong}
use Rattle.pieces.proofs.Cutting as cutting
use Rattle.pieces.proofs.Lines.{joined, line_ends, line_ended, no_line_ends, line_goes_on, length_part}
use Rattle.words.specs.Text.{text}
use Rattle.lines.specs.Handing.{task_of, passed, unknown}
use Rattle.lines.specs.Answering.{Does, clock, port, plain, AnswersLine, none, next, long_says, told_of, Reads}
use Rattle.lines.specs.declared.devices.Devices.{Devices}
use Rattle.lines.specs.declared.devices.Task.TheVariants.{Pass, Unknown}

-- ---- A line that is passed over or too long changes no device

module _ {line : List ℕ} {w : Devices} where
  passed_over : {said : List ℕ} {w' : Devices} → Does line Pass w said w' → (said ≡ []) × (w' ≡ w)
  passed_over (clock c) = elim c [ ]
  passed_over (port p) = elim p [ ]
  passed_over (plain _) = (refl, refl)

  refused : {said : List ℕ} {w' : Devices} → Does line Unknown w said w' → (said ≡ text "?\n") × (w' ≡ w)
  refused (clock c) = elim c [ ]
  refused (port p) = elim p [ ]
  refused (plain _) = (refl, refl)

  silently : Does line Pass w [] w
  silently = plain passed

  refusing : Does line Unknown w (text "?\n") w
  refusing = plain unknown

-- What kind a long line is: a comment, or too long.
module _ (line : List ℕ) (long : longest < length line) where
  some : length line ≡ 0 → ⊥
  some e = omega arith

  is_comment : get_or line 0 0 ≡ 0x23 → Silent ≡ kind_of line false
  is_comment e = cutting.is_comment line refl some e

  is_long : (get_or line 0 0 ≡ 0x23 → ⊥) → TooLong ≡ kind_of line false
  is_long n = cutting.is_too_long line refl some n long

  by_first : (P : Kind → List ℕ → Type 0) → P Silent [] → P TooLong (text "?\n") → P (kind_of line false) (long_says line)
  by_first P p q = cases (eqb (get_or line 0 0) 0x23) refl where
    cases : (b : Bool) → eqb (get_or line 0 0) 0x23 ≡ b → P (kind_of line false) (long_says line)
    cases true e = rw (← is_comment (eqb-true _ _ e), e) p
    cases false e = rw (← is_long (eqb-false _ _ e), e) q

  -- It is answered so, before all of it has come and when all has.
  long_answered : (w : Devices) → AnswersLine line w (long_says line) w
  long_answered w =
      by_first (λ (k : Kind) (s : List ℕ). Does line (task_of line k w.device) w s w) silently refusing

  long_said : {w w' : Devices} {said : List ℕ} → AnswersLine line w said w' → (said ≡ long_says line) × (w' ≡ w)
  long_said {w} {w'} {said} =
      by_first (λ (k : Kind) (s : List ℕ). Does line (task_of line k w.device) w said w' → (said ≡ s) × (w' ≡ w)) passed_over refused

-- What comes behind a long line says no more of it.
long_first : (line more : List ℕ) → longest < length line → long_says (line ++ more) ≡ long_says line
long_first line more h = rw (get_or-append line more 0 0 (omega arith)) refl

longer : (line more : List ℕ) → longest < length line → longest < length (line ++ more)
longer line more h = simp length-append (omega arith)

told_still : (passes : Bool) (line more : List ℕ) → (passes ≡ true → longest < length line)
    → told_of passes (line ++ more) ≡ told_of passes line
told_still true line more m = long_first line more (m refl)
told_still false line more m = refl

-- ---- One cut

-- Where a cut leaves the reading, and what was said.
pub record Step (held : List ℕ) (passes : Bool) (seen : ℕ) (w : Devices) (line said : List ℕ) (r : Cut) (w' : Devices) : Type 0 where
  pub line' : List ℕ
  pub whole : r.passes ≡ false → line' ≡ bytes_from r.from r.seen held
  pub long : r.passes ≡ true → longest < length line'
  pub reads : Reads w line (told_of passes line) (bytes_from seen r.seen held) said w' line' (told_of r.passes line')

module _ (held : List ℕ) (from seen end : ℕ) (started : from ≤ seen) (further : seen < end) (fits : end ≤ length held) where
  module _ {stop : ℕ} (e : stop ≡ stop_of held seen end) (w : Devices) where
    abbrev Handed : ℕ → Kind → List ℕ → Devices → Type 0
    Handed to kind said w' = Does (bytes_from from to held) (task_of (bytes_from from to held) kind w.device) w said w'

    abbrev Cutting : Bool → List ℕ → Cut → Type 0
    Cutting passes line r = (said : List ℕ) (w' : Devices) → Handed r.stop r.kind said w' → Step held passes seen w line said r w'

    nothing_left : [] ≡ bytes_from (stop + 1) (stop + 1) held
    nothing_left = let z : (stop + 1) - (stop + 1) ≡ 0 = omega arith in rw z refl

    ends_whole : (line : List ℕ) → line ≡ bytes_from from seen held → stop < end
        → Cutting false line (record { kind = kind_of (bytes_from from stop held) false; stop = stop; from = stop + 1; seen = stop + 1; passes = false })
    ends_whole line l h said w' d =
        let j : bytes_from from stop held ≡ line ++ bytes_from seen stop held = joined held from seen stop started (omega arith) ∙ rw l refl in
        let d' : AnswersLine (line ++ bytes_from seen stop held) w said w' = subst (λ (x : List ℕ). AnswersLine x w said w') j d in
        record {
          line' = [];
          whole = λ _. nothing_left;
          long = λ f. absurd (false≢true f);
          reads = record {
            answers = said ++ [];
            answered = rw (line_ends held seen end (omega arith) fits e h line) (next d' none);
            rest = sym (line_ended held seen end (omega arith) fits e h line);
            says = simp append-nil;
          };
        }

    -- A line that was too long is all here: its answer was given before.
    ends_long : (line : List ℕ) → longest < length line → stop < end
        → Cutting true line (record { kind = kind_of (bytes_from from stop held) true; stop = stop; from = stop + 1; seen = stop + 1; passes = false })
    ends_long line l h said w' d =
        let more = bytes_from seen stop held in
        let k = passed_over (rw (← cutting.is_rest (bytes_from from stop held) {passes = true} refl) at d) in
        let a : AnswersLine (line ++ more) w (long_says line) w =
        rw (long_first line more l) at (long_answered (line ++ more) (longer line more l) w) in
        record {
          line' = [];
          whole = λ _. nothing_left;
          long = λ f. absurd (false≢true f);
          reads = record {
            answers = long_says line ++ [];
            answered = rw (line_ends held seen end (omega arith) fits e h line, k.1) (next a none);
            rest = sym (line_ended held seen end (omega arith) fits e h line);
            says = rw k.0 (simp append-nil);
          };
        }

    -- The line goes on behind what is held.
    on : (passes : Bool) (line : List ℕ) → (passes ≡ false → line ≡ bytes_from from seen held) → (passes ≡ true → longest < length line)
        → end ≤ stop
        → Cutting passes line (record { kind = Silent; stop = stop; from = from; seen = end; passes = passes })
    on passes line l m h said w' d =
        let more = bytes_from seen end held in
        let k = passed_over d in
        record {
          line' = line ++ more;
          whole = λ f. ap (λ (x : List ℕ). x ++ more) (l f) ∙ sym (joined held from seen end started (omega arith));
          long = λ f. longer line more (m f);
          reads = record {
            answers = [];
            answered = rw (no_line_ends held seen end (omega arith) fits e h line, k.1) none;
            rest = sym (line_goes_on held seen end (omega arith) fits e h line);
            says = rw (k.0, append-nil) (sym (told_still passes line more m));
          };
        }

    over_whole : (line : List ℕ) → line ≡ bytes_from from seen held → end ≤ stop → stop ≤ end → longest < end - from
        → Cutting false line (record { kind = kind_of (bytes_from from end held) false; stop = stop; from = end; seen = end; passes = true })
    over_whole line l h t long said w' d =
        let z : stop ≡ end = omega arith in
        let j : bytes_from from end held ≡ line ++ bytes_from seen end held = joined held from seen end started (omega arith) ∙ rw l refl in
        let n : longest < length (bytes_from from end held) = let f = length_part from end held fits in omega arith in
        let k = long_said (bytes_from from end held) n (rw z at d) in
        record {
          line' = bytes_from from end held;
          whole = λ f. absurd (true≢false f);
          long = λ _. n;
          reads = record {
            answers = [];
            answered = rw (no_line_ends held seen end (omega arith) fits e h line, k.1) none;
            rest = j ∙ sym (line_goes_on held seen end (omega arith) fits e h line);
            says = k.0;
          };
        }

    over_long : (line : List ℕ) → longest < length line → end ≤ stop
        → Cutting true line (record { kind = kind_of (bytes_from from end held) true; stop = stop; from = end; seen = end; passes = true })
    over_long line l h said w' d =
        let more = bytes_from seen end held in
        let k = passed_over (rw (← cutting.is_rest (bytes_from from end held) {passes = true} refl) at d) in
        record {
          line' = line ++ more;
          whole = λ f. absurd (true≢false f);
          long = λ _. longer line more l;
          reads = record {
            answers = [];
            answered = rw (no_line_ends held seen end (omega arith) fits e h line, k.1) none;
            rest = sym (line_goes_on held seen end (omega arith) fits e h line);
            says = rw (k.0, append-nil) (sym (long_first line more l));
          };
        }

    ends : (passes : Bool) (line : List ℕ) → (passes ≡ false → line ≡ bytes_from from seen held) → (passes ≡ true
        → longest < length line) → stop < end
        → Cutting passes line (record { kind = kind_of (bytes_from from stop held) passes; stop = stop; from = stop + 1; seen = stop + 1; passes = false })
    ends true line l m h = ends_long line (m refl) h
    ends false line l m h = ends_whole line (l refl) h

    over : (passes : Bool) (line : List ℕ) → (passes ≡ false → line ≡ bytes_from from seen held) → (passes ≡ true
        → longest < length line) → end ≤ stop
        → stop ≤ end
        → longest < end - from
        → Cutting passes line (record { kind = kind_of (bytes_from from end held) passes; stop = stop; from = end; seen = end; passes = true })
    over true line l m h t n = over_long line (m refl) h
    over false line l m h t n = over_whole line (l refl) h t n

  pub cut : (w : Devices) (passes : Bool) (line : List ℕ) → (passes ≡ false → line ≡ bytes_from from seen held) → (passes ≡ true
      → longest < length line)
      → (r : Cut) → r ≡ cut_of held from seen end passes → r.stop ≤ end → Cutting refl w passes line r
  cut w passes line l m r q t = by_stop (ltb (stop_of held seen end) end) refl where
    stop : ℕ
    stop = stop_of held seen end

    by_length : end ≤ stop → (b : Bool) → leb (end - from) longest ≡ b → Cutting refl w passes line r
    by_length h true f =
        subst (λ (c : Cut). Cutting refl w passes line c) (cutting.goes_on held from seen end passes refl h (leb-true _ _ f) ∙ sym q)
        (on refl w passes line l m h)
    by_length h false f =
        let n = leb-false (end - from) longest f in
        let c = cutting.runs_over held from seen end passes refl h n refl ∙ sym q in
        let g : stop ≡ r.stop = ap (λ (c : Cut). c.stop) c in
        subst (λ (c : Cut). Cutting refl w passes line c) c (over refl w passes line l m h (omega arith) n)

    by_stop : (b : Bool) → ltb stop end ≡ b → Cutting refl w passes line r
    by_stop true f =
        let h = ltb-true stop end f in
        subst (λ (c : Cut). Cutting refl w passes line c) (cutting.ends_here held from seen end passes refl h refl ∙ sym q)
        (ends refl w passes line l m h)
    by_stop false f = by_length (ltb-false stop end f) (leb (end - from) longest) refl
