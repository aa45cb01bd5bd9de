-- Playing a run from bytes, one operation after the other.
use mathlib.Core.Path.{◌≡◌, refl, sym, ap, ap₂, subst, ◌∙◌}
use mathlib.Core.Bool.{true, false, cond, false≢true, true≢false}
use mathlib.Core.List.{List, [], ◌∷◌, ◌++◌, append_assoc, append-nil}
use Prim.Native.Nat.{ℕ, ◌+◌, ◌-◌, ◌*◌, ◌/◌, ◌<◌, ◌≤◌}
use native.Mathlib.Numerals.{add-one}
use native.Mathlib.Omega.{arith}
use native.Mathlib.Decide.{dec_le}
use lib.ListN.{length, get_or, take, drop, set, length-set, drop_of_length-le, take-append-drop}
use lib.Seq.{take-suc-set, drop-set-lt, drop-drop}
use Rattle.common.specs.Lists.{some}
use Rattle.serial.specs.Port.{Port}
use Rattle.serial.specs.Layout.{port_of}
use Rattle.serial.specs.Calls.{SparesKept}
use Rattle.runs.specs.Run.{Op, step, run}
use Rattle.play.specs.Play.{op_of, Decoded, malformed, asks, before, decode, is_run, word, words, Does, Answered, Calls, none, then, Stays, Played, Refused, Plays}
use Rattle.play.proofs.Decoding.{takes_at, op_at, decode_length, bad_kind_at, short_at, next_at, before_is_run}

-- the port after what was decoded, and its answers
pub port_after : Port → Decoded → Port
port_after p malformed = p
port_after p (asks os) = (run p os).port

pub words_after : Port → Decoded → List ℕ
words_after p malformed = []
words_after p (asks os) = words (run p os).answers

port_on : (p : Port) (o : Op) (d : Decoded) → is_run d ≡ true → port_after p (before o d) ≡ port_after (step p o).port d
unfolding port_after run
port_on p o malformed h = absurd (false≢true h)
port_on p o (asks os) h = refl

words_on : (p : Port) (o : Op) (d : Decoded) → is_run d ≡ true
    → words_after p (before o d) ≡ word (step p o).answer ∷ words_after (step p o).port d
unfolding words_after run
words_on p o malformed h = absurd (false≢true h)
words_on p o (asks os) h = refl

-- i operations have been played: the run is what they did and what is left does; the answers behind theirs are as they were
abbrev left : List ℕ → List ℕ → ℕ → ℕ → Decoded
left ops inputs i from = decode (drop (3 * i) ops) (drop from inputs)

pub record Playing (p : Port) (ops inputs answers : List ℕ) (p' : Port) (answers' : List ℕ) (i from : ℕ) : Type 0 where
  pub within : 3 * i ≤ length ops
  pub inside : from ≤ length inputs
  pub long : length answers' ≡ length answers
  pub good : is_run (left ops inputs i from) ≡ true
  pub port : port_after p (decode ops inputs) ≡ port_after p' (left ops inputs i from)
  pub done : words_after p (decode ops inputs) ≡ take i answers' ++ words_after p' (left ops inputs i from)
  pub rest : drop i answers' ≡ drop i answers

-- one word more is written
word_more : (a : List ℕ) (i w : ℕ) (ws : List ℕ) → i < length a → take i a ++ (w ∷ ws) ≡ take (i + 1) (set a i w) ++ ws
word_more a i w ws h = sym (rw (add-one i, take-suc-set a i w h) (append_assoc (take i a) (w ∷ []) ws))

rest_more : (a b : List ℕ) (i w : ℕ) → drop i a ≡ drop i b → drop (i + 1) (set a i w) ≡ drop (i + 1) b
rest_more a b i w e = drop-set-lt (i + 1) a i w (omega arith) ∙ sym (drop-drop 1 i a) ∙ ap (drop 1) e ∙ drop-drop 1 i b

pub playing_none : (p : Port) (ops inputs answers : List ℕ) → is_run (decode ops inputs) ≡ true → Playing p ops inputs answers p answers 0 0
playing_none p ops inputs answers h =
    record { within = omega arith; inside = omega arith; long = refl; good = h; port = refl; done = refl; rest = refl }

-- what calls for the operations that are left would leave, calls for the whole run leave
pub record Through (regs₀ pos₀ ring₀ ops inputs regs pos ring answers : List ℕ) (i from : ℕ) : Type 0 where
  pub goes_on : (os : List Op) → left ops inputs i from ≡ asks os → (regs' pos' ring' rs : List ℕ) → Calls regs pos ring os regs' pos' ring' rs
      → (all : List Op) → decode ops inputs ≡ asks all → Calls regs₀ pos₀ ring₀ all regs' pos' ring' (take i answers ++ rs)

pub through_none : (regs pos ring ops inputs answers : List ℕ) → Through regs pos ring ops inputs regs pos ring answers 0 0
through_none regs pos ring ops inputs answers = record {
  goes_on = λ os e regs' pos' ring' rs c all f.
      let same : os ≡ all = cc in subst (λ (l : List Op). Calls regs pos ring l regs' pos' ring' rs) same c;
}

module _ (p : Port) (ops inputs answers : List ℕ) (p' : Port) (answers' : List ℕ) (i from : ℕ) (s : Playing p ops inputs answers p' answers' i from)
    (whole : 3 * i + 3 ≤ length ops) where
  -- the next operation is of a kind that there is, and the inputs have its bytes
  pub next_kind : get_or ops (3 * i) 0 ≤ 3
  next_kind = go (dec_le (get_or ops (3 * i) 0) 3)
    where
      go : Dec (get_or ops (3 * i) 0 ≤ 3) → get_or ops (3 * i) 0 ≤ 3
      go (yes h) = h
      go (no h) = absurd (true≢false (sym s.good ∙ ap is_run (bad_kind_at ops inputs (3 * i) from whole (omega arith))))

  pub next_bytes : takes_at ops (3 * i) ≤ length inputs - from
  next_bytes = go (dec_le (takes_at ops (3 * i)) (length inputs - from))
    where
      go : Dec (takes_at ops (3 * i) ≤ length inputs - from) → takes_at ops (3 * i) ≤ length inputs - from
      go (yes h) = h
      go (no h) = absurd (true≢false (sym s.good ∙ ap is_run (short_at ops inputs (3 * i) from whole (omega arith))))

  onwards : left ops inputs i from ≡ before (op_at ops inputs (3 * i) from) (left ops inputs (i + 1) (from + takes_at ops (3 * i)))
  onwards =
      let e : 3 * i + 3 ≡ 3 * (i + 1) = omega arith in
      next_at ops inputs (3 * i) from whole next_kind next_bytes
      ∙ ap (λ (k : ℕ). before (op_at ops inputs (3 * i) from) (decode (drop k ops) (drop (from + takes_at ops (3 * i)) inputs))) e

  playing_more : (q : Port) (w : ℕ) → i < length answers → q ≡ (step p' (op_at ops inputs (3 * i) from)).port
      → w ≡ word (step p' (op_at ops inputs (3 * i) from)).answer
      → Playing p ops inputs answers q (set answers' i w) (i + 1) (from + takes_at ops (3 * i))
  playing_more q w h e f =
      let o = op_at ops inputs (3 * i) from in
      let d = left ops inputs (i + 1) (from + takes_at ops (3 * i)) in
      let g : is_run d ≡ true = sym (before_is_run o d) ∙ sym (ap is_run onwards) ∙ s.good in
      let l : i < length answers' = omega (arith, s.long) in
      record {
        within = omega arith;
        inside = omega (arith, next_bytes, s.inside);
        long = length-set answers' i w ∙ s.long;
        good = g;
        port = s.port ∙ ap (port_after p') onwards ∙ port_on p' o d g ∙ ap (λ (r : Port). port_after r d) (sym e);
        done = s.done ∙ ap (λ (x : Decoded). take i answers' ++ words_after p' x) onwards
            ∙ ap (λ (ws : List ℕ). take i answers' ++ ws) (words_on p' o d g)
            ∙ rw (← e, ← f) (word_more answers' i w (words_after q d) l);
        rest = rest_more answers' answers i w s.rest;
      }

  -- as the code has it: n bytes of the inputs are lent, from `from` to `from + n`
  pub playing_next : (q : Port) (w n : ℕ) → i < length answers → n ≡ takes_at ops (3 * i)
      → Does p' (op_of (get_or ops (3 * i) 0) (get_or ops (3 * i + 1) 0) (get_or ops (3 * i + 2) 0) (take (from + n - from) (drop from inputs))) q w
      → Playing p ops inputs answers q (set answers' i w) (i + 1) (from + n)
  playing_next q w n h e d =
      let m : from + n - from ≡ takes_at ops (3 * i) = omega arith in
      let d' : Does p' (op_at ops inputs (3 * i) from) q w =
      subst (λ (k : ℕ). Does p' (op_of (get_or ops (3 * i) 0) (get_or ops (3 * i + 1) 0) (get_or ops (3 * i + 2) 0) (take k (drop from inputs))) q w) m d in
      rw e (playing_more q w h d'.port d'.answer)

  through_more : {regs₀ pos₀ ring₀ regs pos ring regs₁ pos₁ ring₁ : List ℕ} (w : ℕ) → i < length answers
      → Through regs₀ pos₀ ring₀ ops inputs regs pos ring answers' i from
      → Answered (op_at ops inputs (3 * i) from) regs pos ring regs₁ pos₁ ring₁ w
      → Through regs₀ pos₀ ring₀ ops inputs regs₁ pos₁ ring₁ (set answers' i w) (i + 1) (from + takes_at ops (3 * i))
  through_more {regs₀} {pos₀} {ring₀} w h t a =
      let o = op_at ops inputs (3 * i) from in
      let l : i < length answers' = omega (arith, s.long) in
      record {
        goes_on = λ os e regs' pos' ring' rs c all f.
            subst (λ (ws : List ℕ). Calls regs₀ pos₀ ring₀ all regs' pos' ring' ws) (word_more answers' i w rs l)
            (t.goes_on (o ∷ os) (onwards ∙ ap (before o) e) regs' pos' ring' (w ∷ rs) (then a c) all f);
      }

  pub through_next : {regs₀ pos₀ ring₀ regs pos ring regs₁ pos₁ ring₁ : List ℕ} (w n : ℕ) → i < length answers → n ≡ takes_at ops (3 * i)
      → Through regs₀ pos₀ ring₀ ops inputs regs pos ring answers' i from
      → Answered (op_of (get_or ops (3 * i) 0) (get_or ops (3 * i + 1) 0) (get_or ops (3 * i + 2) 0) (take (from + n - from) (drop from inputs))) regs pos ring regs₁ pos₁ ring₁ w
      → Through regs₀ pos₀ ring₀ ops inputs regs₁ pos₁ ring₁ (set answers' i w) (i + 1) (from + n)
  through_next {regs = regs} {pos} {ring} {regs₁} {pos₁} {ring₁} w n h e t a =
      let m : from + n - from ≡ takes_at ops (3 * i) = omega arith in
      let a' : Answered (op_at ops inputs (3 * i) from) regs pos ring regs₁ pos₁ ring₁ w =
      subst (λ (k : ℕ). Answered (op_of (get_or ops (3 * i) 0) (get_or ops (3 * i + 1) 0) (get_or ops (3 * i + 2) 0) (take k (drop from inputs))) regs pos ring regs₁ pos₁ ring₁ w) m a in
      rw e (through_more w h t a')

-- all operations have been played: as many as were asked, and none is left
module _ (p : Port) (ops inputs answers : List ℕ) (p' : Port) (answers' : List ℕ) (i from : ℕ) (s : Playing p ops inputs answers p' answers' i from)
    (h : length ops < 3 * i + 3) (os : List Op) (e : decode ops inputs ≡ asks os) where
  as_many : i ≡ length os
  as_many = let n = decode_length ops inputs os e in omega (arith, s.within)

  none_left : left ops inputs i from ≡ asks []
  unfolding decode
  none_left =
      let n = decode_length ops inputs os e in
      let b : length ops ≤ 3 * i = omega (arith, s.within) in
      let z : drop (3 * i) ops ≡ [] = drop_of_length-le ops b in
      rw z (go (drop from inputs) (rw z at s.good))
    where
      go : (l : List ℕ) → is_run (cond (some l) malformed (asks [])) ≡ true → cond (some l) malformed (asks []) ≡ asks []
      go [] g = refl
      go (x ∷ l) g = absurd (false≢true g)

  pub playing_all : Played p os answers p' answers' true
  unfolding port_after words_after run
  playing_all = record {
    said = refl;
    port = sym (subst (λ (d : Decoded). port_after p d ≡ p') e (s.port ∙ ap (port_after p') none_left));
    answered =
        let w : words (run p os).answers ≡ take i answers' =
        subst (λ (d : Decoded). words_after p d ≡ take i answers') e (s.done ∙ ap (λ (d : Decoded). take i answers' ++ words_after p' d) none_left ∙ append-nil _) in
        sym (take-append-drop i answers') ∙ ap₂ ◌++◌ (sym w) (s.rest ∙ ap (λ (n : ℕ). drop n answers) as_many);
  }

  pub through_all : {regs₀ pos₀ ring₀ regs pos ring : List ℕ} → Through regs₀ pos₀ ring₀ ops inputs regs pos ring answers' i from
      → Calls regs₀ pos₀ ring₀ os regs pos ring (take (length os) answers')
  through_all {regs₀} {pos₀} {ring₀} {regs} {pos} {ring} t =
      subst (λ (n : ℕ). Calls regs₀ pos₀ ring₀ os regs pos ring (take n answers')) as_many
      (subst (λ (ws : List ℕ). Calls regs₀ pos₀ ring₀ os regs pos ring ws) (append-nil (take i answers')) (t.goes_on [] none_left regs pos ring [] none os e))

-- ---- Calls one after another

-- They leave the port of the run and answer its words,
pub calls_run : {regs pos ring regs' pos' ring' rs : List ℕ} (os : List Op) → Calls regs pos ring os regs' pos' ring' rs
    → let d = run (port_of regs pos ring) os in (port_of regs' pos' ring' ≡ d.port) × (rs ≡ words d.answers)
unfolding run
calls_run [] none = (refl, refl)
calls_run (o ∷ os) (then a more) =
    let k = calls_run os more in
    (k.0 ∙ ap (λ (p : Port). (run p os).port) a.holds, ap₂ ◌∷◌ a.answer (k.1 ∙ ap (λ (p : Port). words (run p os).answers) a.holds))

-- and keep what is spare;
pub calls_spares : {regs pos ring regs' pos' ring' rs : List ℕ} {os : List Op} → Calls regs pos ring os regs' pos' ring' rs
    → SparesKept regs pos regs' pos'
calls_spares none = (refl, refl)
calls_spares (then a more) = let k = calls_spares more in (k.0 ∙ a.spares_kept.0, k.1 ∙ a.spares_kept.1)

-- where no operation changes the port not a byte changes.
pub calls_same : {regs pos ring regs' pos' ring' rs : List ℕ} (os : List Op) → Calls regs pos ring os regs' pos' ring' rs
    → Stays (port_of regs pos ring) os
    → (regs' ≡ regs) × ((pos' ≡ pos) × (ring' ≡ ring))
calls_same [] none s = (refl, (refl, refl))
calls_same (o ∷ os) (then a more) s =
    let first = a.unchanged_if_same_port s.0 in
    let later = calls_same os more (subst (λ (q : Port). Stays q os) (sym (a.holds ∙ s.0)) s.1) in
    (later.0 ∙ first.0, (later.1.0 ∙ first.1.0, later.1.1 ∙ first.1.1))

-- ---- The three answers

module _ (regs pos ring ops inputs answers : List ℕ) where
  unchanged : Refused regs pos ring answers regs pos ring answers false
  unchanged = record { said = refl; regs_stay = refl; pos_stay = refl; ring_stay = refl; answers_stay = refl }

  pub refuses_no_run : is_run (decode ops inputs) ≡ false → Plays regs pos ring ops inputs answers regs pos ring answers false
  refuses_no_run h = record {
    plays = λ os e l. absurd (true≢false (sym (ap is_run e) ∙ h));
    by_calls = λ os e l. absurd (true≢false (sym (ap is_run e) ∙ h));
    too_many = λ os e l. unchanged;
    no_run = λ e. unchanged;
    spares_kept = (refl, refl);
    unchanged_if_same_port = λ os e k. (refl, (refl, refl));
  }

  pub refuses_too_many : length answers < length ops / 3 → Plays regs pos ring ops inputs answers regs pos ring answers false
  refuses_too_many h = record {
    plays = λ os e l. absurd (let n = decode_length ops inputs os e in omega arith);
    by_calls = λ os e l. absurd (let n = decode_length ops inputs os e in omega arith);
    too_many = λ os e l. unchanged;
    no_run = λ e. unchanged;
    spares_kept = (refl, refl);
    unchanged_if_same_port = λ os e k. (refl, (refl, refl));
  }

  module _ (g : is_run (decode ops inputs) ≡ true) (fits : length ops / 3 ≤ length answers) (regs' pos' ring' answers' : List ℕ) (i from : ℕ)
      (s : Playing (port_of regs pos ring) ops inputs answers (port_of regs' pos' ring') answers' i from)
      (t : Through regs pos ring ops inputs regs' pos' ring' answers' i from) (h : length ops / 3 ≤ i) where
    calls : (os : List Op) → decode ops inputs ≡ asks os → Calls regs pos ring os regs' pos' ring' (take (length os) answers')
    calls os e = through_all (port_of regs pos ring) ops inputs answers (port_of regs' pos' ring') answers' i from s (omega arith) os e t

    kept : (d : Decoded) → decode ops inputs ≡ d → is_run d ≡ true → SparesKept regs pos regs' pos'
    kept malformed e g = absurd (false≢true g)
    kept (asks os) e g = calls_spares (calls os e)

    pub plays_all : Plays regs pos ring ops inputs answers regs' pos' ring' answers' true
    plays_all = record {
      plays = λ os e l. playing_all (port_of regs pos ring) ops inputs answers (port_of regs' pos' ring') answers' i from s (omega arith) os e;
      by_calls = λ os e l. calls os e;
      too_many = λ os e l. absurd (let n = decode_length ops inputs os e in omega arith);
      no_run = λ e. absurd (false≢true (sym (ap is_run e) ∙ g));
      spares_kept = kept (decode ops inputs) refl g;
      unchanged_if_same_port = λ os e k. calls_same os (calls os e) k;
    }
