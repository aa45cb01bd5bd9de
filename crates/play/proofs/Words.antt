-- The words that the single calls answer are those of the run's answers.
use mathlib.Core.Path.{◌≡◌, refl, sym, ◌∙◌}
use mathlib.Core.Bool.{Bool, true, false}
use mathlib.Core.List.{List}
use Prim.Native.Nat.{ℕ}
use native.Mathlib.Omega.{arith}
use borrow.Author.Tests.{eq-eqb, ne_eqb}
use Rattle.serial.specs.Port.{Port, Input, read_of, write_of, input_of, takes_none, room_of}
use Rattle.serial.specs.Layout.{port_of}
use Rattle.serial.specs.Calls.{read_word, write_word, input_word, Answers}
use Rattle.runs.specs.Run.{Op, did_input, step}
use Rattle.play.specs.Play.{op_of, word, Does, Answered}
use Rattle.runs.proofs.Effects.{input_cases}

input_word_lem : (p : Port) (bytes : List ℕ) → input_word (input_of p bytes) ≡ word (did_input (input_of p bytes)).answer
input_word_lem p bytes =
    input_cases (λ (i : Input). input_word i ≡ word (did_input i).answer) p bytes none (λ s h. omega arith)
  where
    none : (f : Bool) → input_word (takes_none p f) ≡ word (did_input (takes_none p f)).answer
    none true = refl
    none false = refl

module _ (p : Port) (a b : ℕ) (bytes : List ℕ) (p' : Port) (r : ℕ) where
  does_read : (kind : ℕ) → kind ≡ 0 → p' ≡ (read_of p a).port → r ≡ read_word (read_of p a) → Does p (op_of kind a b bytes) p' r
  unfolding step
  does_read kind e h w = rw (eq-eqb kind 0 e) (record { port = h; answer = w })

  does_write : (kind : ℕ) → kind ≡ 1 → p' ≡ (write_of p a b).port → r ≡ write_word (write_of p a b) → Does p (op_of kind a b bytes) p' r
  unfolding step
  does_write kind e h w = rw e (record { port = h; answer = w })

  does_input : (kind : ℕ) → kind ≡ 2 → p' ≡ (input_of p bytes).port → r ≡ input_word (input_of p bytes) → Does p (op_of kind a b bytes) p' r
  unfolding step
  does_input kind e h w = rw e (record { port = h; answer = w ∙ input_word_lem p bytes })

  does_room : (kind : ℕ) → (kind ≡ 0 → ⊥) → (kind ≡ 1 → ⊥) → (kind ≡ 2 → ⊥) → p' ≡ p → r ≡ room_of p → Does p (op_of kind a b bytes) p' r
  unfolding step
  does_room kind e f g h w = rw (ne_eqb kind 0 e, ne_eqb kind 1 f, ne_eqb kind 2 g) (record { port = h; answer = w })

-- What the call of an access promises, it promises of the operation that is that access. What asks for room is lent nothing to change.
as_operation : {regs pos ring regs' pos' ring' : List ℕ} {r word : ℕ} {port : Port} {o : Op} → Answers regs pos ring regs' pos' ring' r port word
    → Does (port_of regs pos ring) o (port_of regs' pos' ring') r → Answered o regs pos ring regs' pos' ring' r
as_operation a d = record {
  answer = d.answer;
  holds = d.port;
  unused_bytes_kept = a.unused_bytes_kept;
  spares_kept = a.spares_kept;
  unchanged_if_same_port = λ e. a.unchanged_if_same_port (sym a.holds ∙ d.port ∙ e);
}

module _ {regs pos ring : List ℕ} {r : ℕ} (kind a b : ℕ) (bytes : List ℕ) where
  pub answers_read : {regs' pos' : List ℕ} → let p = port_of regs pos ring in kind ≡ 0
      → Answers regs pos ring regs' pos' ring r (read_of p a).port (read_word (read_of p a))
      → Answered (op_of kind a b bytes) regs pos ring regs' pos' ring r
  answers_read e w = as_operation w (does_read (port_of regs pos ring) a b bytes _ r kind e w.holds w.answer)

  pub answers_write : {regs' pos' ring' : List ℕ} → let p = port_of regs pos ring in kind ≡ 1
      → Answers regs pos ring regs' pos' ring' r (write_of p a b).port (write_word (write_of p a b))
      → Answered (op_of kind a b bytes) regs pos ring regs' pos' ring' r
  answers_write e w = as_operation w (does_write (port_of regs pos ring) a b bytes _ r kind e w.holds w.answer)

  pub answers_input : {regs' pos' ring' : List ℕ} → let p = port_of regs pos ring in kind ≡ 2
      → Answers regs pos ring regs' pos' ring' r (input_of p bytes).port (input_word (input_of p bytes))
      → Answered (op_of kind a b bytes) regs pos ring regs' pos' ring' r
  answers_input e w = as_operation w (does_input (port_of regs pos ring) a b bytes _ r kind e w.holds w.answer)

  pub answers_room : (kind ≡ 0 → ⊥) → (kind ≡ 1 → ⊥) → (kind ≡ 2 → ⊥) → r ≡ room_of (port_of regs pos ring)
      → Answered (op_of kind a b bytes) regs pos ring regs pos ring r
  answers_room e f g w =
      let p = port_of regs pos ring in
      let d = does_room p a b bytes p r kind e f g refl w in
      record { answer = d.answer; holds = d.port; unused_bytes_kept = refl; spares_kept = (refl, refl); unchanged_if_same_port = λ e. (refl, (refl, refl)) }
