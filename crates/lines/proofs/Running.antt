-- All that a run has put out answers all that it has read.
use Prim.Native.Nat.{ℕ, ◌+◌, ◌-◌, ◌≤◌, ◌<◌}
use mathlib.Core.Path.{◌≡◌, refl, sym, ap, subst, ◌∙◌}
use mathlib.Core.Bool.{Bool, true, false, cond, false≢true}
use mathlib.Core.List.{List, [], ◌∷◌, ◌++◌, append_assoc, append-nil}
use native.Mathlib.Omega.{arith}
use lib.ListN.{length, take, drop}
use lib.Seq.{take-take, take_at, drop_at, length-take-le}
use Rattle.pieces.specs.Cutting.{longest, lines_in, rest_of, lines_of, bytes_from}
use Rattle.pieces.specs.Inside.{Settles, close_of}
use Rattle.pieces.specs.Pieces.{Stands, Sound, Answered, Fills, read, ended_here, start_of}
use Rattle.pieces.specs.declared.State.{State}
use Rattle.pieces.proofs.Lines.{joined, drop_take, lines_append, rest_append}
use Rattle.words.specs.Put.{Puts}
use Rattle.lines.specs.Answering.{First, AnswersInput, AnswersSoFar, told_of, Reads}
use Rattle.lines.specs.Runs.{Answering, Runs, begun, again, more}
use Rattle.lines.specs.declared.Turn.{Turn}
use Rattle.lines.specs.declared.devices.Devices.{Devices}
use Rattle.lines.proofs.Turning.{reads_none, reads_append}

-- ---- What stands behind a place of a block

module _ {l bytes l' : List ℕ} {at r : ℕ} (p : Puts l at bytes l' r) (fits : at ≤ length l) where
  pub untouched : take at l' ≡ take at l
  untouched =
      let n = p.next in
      sym (take-take at r l' (omega arith)) ∙ ap (λ (x : List ℕ). take at x) p.bytes ∙ take_at (take at l) bytes at (length-take-le at l fits)

  pub behind : bytes_from at r l' ≡ bytes
  behind = sym (drop_take at r l') ∙ ap (λ (x : List ℕ). drop at x) p.bytes ∙ drop_at (take at l) bytes at (length-take-le at l fits)

-- ---- What holds in a run

-- What was read, with the newline that closes it.
abbrev pub read_of : Bool → List ℕ → List ℕ
read_of ended input = cond ended (input ++ (0x0a ∷ [])) input

pub record Stays (input said held : List ℕ) (t : Turn) : Type 0 where
  pub first : Devices
  pub begins : First first
  pub line : List ℕ
  pub stands : Stands held t.state line
  pub searched : List ℕ
  pub all : read_of t.state.ended input ≡ searched ++ bytes_from t.state.seen t.state.end held
  pub reads : Reads first [] [] searched said t.devices line (told_of t.state.passes line)
  pub sound : Sound t.state
  pub answered : Answered t.state

-- A turn answers what was read but not searched.
turned : {first w : Devices} {input searched said held out' line : List ℕ} {s : State} {t : Turn} → First first → Stands held s line
    → read_of s.ended input ≡ searched ++ bytes_from s.seen s.end held
    → Reads first [] [] searched said w line (told_of s.passes line)
    → Answering held s w [] out' t
    → Stays input (said ++ out') held t
turned {first} {w} {input} {searched} {said} {held} {out'} {line} {s} {t} b h a r k =
    let m = k.turns in
    let g = m.goes line h in
    let o = m.onward in
    let n = k.sound.searched in
    let e = m.end in
    record {
      first = first;
      begins = b;
      line = g.line';
      stands = g.stands;
      searched = searched ++ bytes_from s.seen t.state.seen held;
      all = ap (λ (x : Bool). read_of x input) m.ended ∙ a ∙
          ap (λ (x : List ℕ). searched ++ x)
          (ap (λ (x : ℕ). bytes_from s.seen x held) (sym e) ∙ joined held s.seen t.state.seen t.state.end o n) ∙
          sym (append_assoc searched (bytes_from s.seen t.state.seen held) (bytes_from t.state.seen t.state.end held));
      reads = rw m.puts (reads_append r g.reads);
      sound = k.sound;
      answered = k.answered;
    }

-- Between two reads the current line stays what it was, and the bytes that come are the next ones.
module _ {held held' held'' bytes line : List ℕ} {s₀ s : State} {r : ℕ} (h : Stands held s₀ line) (all_seen : s₀.seen ≡ s₀.end)
    (st : Settles held s₀ held' s) (p : Puts held' s.end bytes held'' r) (fits : s.end ≤ length held') where
  passed : s.passes ≡ s₀.passes
  passed = ap (λ (x : State). x.passes) st.place

  in_front : bytes_from s.from s.seen held'' ≡ bytes_from s₀.from s₀.seen held
  in_front =
      let f : s.from ≡ 0 = ap (λ (x : State). x.from) st.place in
      let g : s.seen ≡ s.end = ap (λ (x : State). x.seen) st.place ∙ sym (ap (λ (x : State). x.end) st.place) in
      let e : s.end - 0 ≡ s.end = omega arith in
      rw (f, g, e, all_seen) (untouched p fits ∙ st.line)

  pub settled_whole : s.passes ≡ false → line ≡ bytes_from s.from s.seen held''
  settled_whole f = h.whole (sym passed ∙ f) ∙ sym in_front

  pub settled_long : s.passes ≡ true → longest < length line
  settled_long f = h.long (sym passed ∙ f)

  pub settled_bytes : bytes_from s.seen r held'' ≡ bytes
  settled_bytes =
      let g : s.seen ≡ s.end = ap (λ (x : State). x.seen) st.place ∙ sym (ap (λ (x : State). x.end) st.place) in
      rw g (behind p fits)

-- All that was read is searched.
searched_all : {input searched : List ℕ} (held : List ℕ) {seen end : ℕ} {ended : Bool} → ended ≡ false → seen ≡ end
    → read_of ended input ≡ searched ++ bytes_from seen end held
    → input ≡ searched
searched_all {input} {searched} held {seen} {end} f g a =
    let z : end - end ≡ 0 = omega arith in
    let b : input ≡ searched ++ bytes_from end end held = rw (f, g) at a in
    b ∙ rw z (append-nil searched)

started : (held : List ℕ) {w : Devices} → First w → Stays [] [] held (record { devices = w; state = start_of })
started held {w} b = record {
  first = w;
  begins = b;
  line = [];
  stands = record { whole = λ _. refl; long = λ f. absurd (false≢true f) };
  searched = [];
  all = refl;
  reads = reads_none w [] [];
  sound = record { started = omega arith; short = omega arith; searched = omega arith; held = omega arith };
  answered = record { all = λ _. refl };
}

-- What was read is the rest of what is held.
filled : (input said : List ℕ) {bytes held held' out' : List ℕ} {s : State} {t : Turn} (t' : Turn) → Stays input said held t
    → t.state.full ≡ false
    → t.state.ended ≡ false
    → Fills held t.state bytes held' s
    → Answering held' s t.devices [] out' t'
    → Stays (input ++ bytes) (said ++ out') held' t'
filled input said {t = t} t' i full ended (read {bytes = bytes} {held' = held'} {s' = s} st block p) k =
    let seen : t.state.seen ≡ t.state.end = i.answered.all full in
    let n = k.turns.end in
    let m = k.sound.held in
    let fits : s.end ≤ length held' = omega arith in
    let o : s.ended ≡ false = ap (λ (x : State). x.ended) st.place ∙ ended in
    let was : input ≡ i.searched = searched_all _ ended seen i.all in
    let new = settled_bytes i.stands seen st p fits in
    turned {searched = i.searched} {said = said}
    i.begins
    (record { whole = settled_whole i.stands seen st p fits; long = settled_long i.stands seen st p fits })
    (rw o (ap (λ (x : List ℕ). x ++ bytes) was ∙ ap (λ (x : List ℕ). i.searched ++ x) (sym new)))
    (rw (ap (λ (x : State). x.passes) st.place) i.reads)
    k
filled input said {out' = out'} {t = t} t' i full ended (ended_here {held' = held'} {held'' = held''} {s' = s} st block b) k =
    let seen : t.state.seen ≡ t.state.end = i.answered.all full in
    let k' : Answering held'' (close_of s) t.devices [] out' t' = subst (λ (x : State). Answering held'' x t.devices [] out' t') b.place k in
    let p : Puts held' s.end (0x0a ∷ []) held'' (s.end + 1) =
    subst (λ (x : State). Puts held' s.end (0x0a ∷ []) held'' x.end) b.place b.line in
    let n = k'.turns.end in
    let m = k'.sound.held in
    let fits : s.end ≤ length held' = omega arith in
    let was : input ≡ i.searched = searched_all _ ended seen i.all in
    let new = settled_bytes i.stands seen st p fits in
    rw (append-nil input) (turned {searched = i.searched} {said = said}
    i.begins
    (record { whole = settled_whole i.stands seen st p fits; long = settled_long i.stands seen st p fits })
    (ap (λ (x : List ℕ). x ++ (0x0a ∷ [])) was ∙ ap (λ (x : List ℕ). i.searched ++ x) (sym new))
    (rw (ap (λ (x : State). x.passes) st.place) i.reads)
    k')

pub stays : {input written held out : List ℕ} {t : Turn} → Runs input written held out t
    → Stays input (written ++ out) held t
stays (begun {held} {t} b e) =
    subst (λ (x : State). Stays [] [] held (record { devices = t.devices; state = x })) (sym e) (started held b)
stays (again {t = t} r f k) =
    let i = stays r in
    turned i.begins (record { whole = i.stands.whole; long = i.stands.long }) i.all i.reads k
stays (more {input = input} {written = written} {out = out} {t = t} {t' = t'} r full ended f k) =
    filled input (written ++ out) t' (stays r) full ended f k

-- ---- The whole input

ends_with : (line : List ℕ) → lines_in line (0x0a ∷ []) ≡ line ∷ []
unfolding lines_in
ends_with line = refl

ends_in : (line : List ℕ) → rest_of line (0x0a ∷ []) ≡ []
unfolding rest_of
ends_in line = refl

closed : (input : List ℕ) → lines_in [] (input ++ (0x0a ∷ [])) ≡ lines_of input
closed input = lines_append [] input (0x0a ∷ []) ∙ ap (λ (x : List (List ℕ)). lines_in [] input ++ x) (ends_with (rest_of [] input))

none_told : (passes : Bool) {line : List ℕ} → line ≡ [] → (passes ≡ true → longest < length line) → told_of passes line ≡ []
none_told true e h = let n = h refl in let m = ap length e in absurd (omega arith)
none_told false e h = refl

module _ {input said held : List ℕ} {t : Turn} (i : Stays input said held t) (full : t.state.full ≡ false) where
  all_searched : read_of t.state.ended input ≡ i.searched
  all_searched =
      let z : t.state.end - t.state.end ≡ 0 = omega arith in
      let e : t.state.seen ≡ t.state.end = i.answered.all full in
      i.all ∙ rw (e, z) (append-nil i.searched)

  whole_input : t.state.ended ≡ true → AnswersInput input said
  whole_input ended =
      let e : input ++ (0x0a ∷ []) ≡ i.searched = rw ended at all_searched in
      let empty : i.line ≡ [] =
      i.reads.rest ∙ ap (λ (x : List ℕ). rest_of [] x) (sym e) ∙ rest_append [] input (0x0a ∷ []) ∙ ends_in (rest_of [] input) in
      let s : said ≡ i.reads.answers =
      i.reads.says ∙ ap (λ (x : List ℕ). i.reads.answers ++ x) (none_told t.state.passes empty i.stands.long) ∙ append-nil i.reads.answers in
      record {
        first = i.first;
        last = t.devices;
        begins = i.begins;
        answers = rw (s, ← closed input, e) i.reads.answered;
      }

  -- Every line that has ended is answered.
  so_far : t.state.ended ≡ false → AnswersSoFar input said
  so_far ended =
      let e : input ≡ i.searched = rw ended at all_searched in
      record {
        first = i.first;
        last = t.devices;
        begins = i.begins;
        passes = t.state.passes;
        long = λ f. rw (e, ← i.reads.rest) (i.stands.long f);
        reads = rw (e, ← i.reads.rest) i.reads;
      }

module _ {input written held out : List ℕ} {t : Turn} (r : Runs input written held out t) (full : t.state.full ≡ false) where
  -- When the input has ended, all that is written and waits is its answer.
  pub answers_all : t.state.ended ≡ true → AnswersInput input (written ++ out)
  answers_all ended = whole_input (stays r) full ended

  -- Before more is read, each line that has ended is answered.
  pub answers_so_far : t.state.ended ≡ false → AnswersSoFar input (written ++ out)
  answers_so_far ended = so_far (stays r) full ended
