-- One line has one answer: what the serial port says and what it comes to depends on the port, its spare registers, what is counted and what
-- is kept, and on nothing else of the memory.
use Prim.Native.Nat.{ℕ}
use mathlib.Core.Path.{◌≡◌, refl, sym, ap, ◌∙◌}
use mathlib.Core.Bool.{Bool, true, false, cond}
use mathlib.Core.List.{List}
use Rattle.std.proofs.Common.{None}
use Rattle.common.proofs.Booleans.{told_once}
use Rattle.counters.specs.Counters.{Serial, fresh_serial, serial_after, answered}
use Rattle.serial.specs.Calls.{MakesFresh}
use Rattle.serial.specs.Layout.{spare_registers}
use Rattle.serial.specs.Port.{Port}
use Rattle.serial_saved.specs.Saved.{restore_of}
use Rattle.serial_words.specs.Lines.{line_of}
use Rattle.serial_words.specs.declared.line.Line.{Line}
use Rattle.serial_words.specs.declared.line.Line.TheVariants.{Save, Kept, OfPort}
use Rattle.words.specs.Pattern.{fits_of}
use Rattle.words.specs.Text.{text}
use Rattle.serial_lines.specs.Answers.{Asks, Tells, Keeps, asks, asks_by, asks_kept, asks_saved, says, port_in, port_then, spares_then, is_save, word_then, restore_says, read, write, input, show_room, show_state, show_line, save, restore, nothing}
use Rattle.serial_lines.specs.Counted.{
  Asked,
  AnswersAsked,
  TellsAsked,
  HeldThen,
  asked_of,
  says_asked,
  counters_in,
  counters_say,
  counted_then,
  show_counters,
  lost,
  of_ports,
}
use Rattle.serial_lines.specs.declared.Held.{Held}
use Rattle.serial_lines.specs.declared.Ports.{Ports}

-- The same port, of two memories.
pub record SamePort (ports ports' : Ports) : Type 0 where
  pub port : port_in ports.held ≡ port_in ports'.held
  pub spare : spare_registers ports.held.port.regs ≡ spare_registers ports'.held.port.regs
  pub counted : counters_in ports ≡ counters_in ports'

-- The same is kept, or nothing is.
pub record SameKept (held held' : Held) : Type 0 where
  pub kept : asks_kept held ≡ asks_kept held'

-- ---- What is asked for, and what is said

asks_once : (line : List ℕ) {held held' : Held} → SameKept held held' → asks held line ≡ asks held' line
asks_once line {held} {held'} k = go (line_of line)
  where
    go : (l : Line) → asks_by l held line ≡ asks_by l held' line
    go Save = refl
    go Kept = k.kept
    go (OfPort access) = refl

pub asked_once : (line : List ℕ) {held held' : Held} → SameKept held held' → asked_of held line ≡ asked_of held' line
unfolding asked_of
asked_once line e =
    ap (λ (a : Asks). cond (fits_of (text "counters") line) show_counters (cond (fits_of (text "lost") line) lost (of_ports a))) (asks_once line e)

says_once : (asked : Asks) (a b : Bool) (p : Port) → Tells asked a → Tells asked b → says asked p a ≡ says asked p b
says_once (read offset) a b p s t = refl
says_once (write offset value) a b p s t = refl
says_once (input bytes) a b p s t = refl
says_once show_room a b p s t = refl
says_once show_state a b p s t = refl
says_once show_line a b p s t = refl
says_once save a b p s t = refl
says_once (restore saved spares) a b p s t = ap (λ (x : Bool). restore_says (restore_of p saved) x) (told_once a b s t)
says_once nothing a b p s t = refl

pub said_once : (asked : Asked) (a b : Bool) {ports ports' : Ports} → SamePort ports ports' → TellsAsked asked a → TellsAsked asked b
    → says_asked asked ports a ≡ says_asked asked ports' b
said_once show_counters a b s t u = ap (λ (c : Serial). counters_say c) s.counted
said_once lost a b s t u = refl
said_once (of_ports asked) a b {ports} {ports'} s t u =
    says_once asked a b (port_in ports.held) t u ∙ ap (λ (p : Port). says asked p b) s.port

-- ---- What it comes to

same_held : {held held' held₁ held₁' : Held} → held₁ ≡ held → held₁' ≡ held' → SameKept held held' → SameKept held₁ held₁'
same_held e f k = record { kept = ap (λ (h : Held). asks_kept h) e ∙ k.kept ∙ sym (ap (λ (h : Held). asks_kept h) f) }

kept_stays : (held held₁ : Held) → Keeps false held held₁ → asks_kept held₁ ≡ asks_kept held
kept_stays held held₁ k = ap asks_saved k

kept_now : (held held₁ : Held) → Keeps true held held₁ → asks_kept held₁ ≡ restore (port_in held) (spare_registers held.port.regs)
kept_now held held₁ k = ap asks_saved k.1 ∙ rw (k.2, k.3) refl

-- A port that is named leaves what is kept.
pub named_kept : {held held' : Held} (held₁ held₁' : Held) → SameKept held held' → Keeps false held held₁ → Keeps false held' held₁'
    → SameKept held₁ held₁'
named_kept {held} {held'} held₁ held₁' s k l = record { kept = kept_stays held held₁ k ∙ s.kept ∙ sym (kept_stays held' held₁' l) }

-- Nothing is kept.
pub none_kept : {held held' : Held} → held.kept ≡ None → held'.kept ≡ None → SameKept held held'
none_kept l m = record { kept = ap asks_saved l ∙ sym (ap asks_saved m) }

pub fresh_once : {size : ℕ} {ports ports' : Ports} → MakesFresh size ports.held.port.regs ports.held.port.pos
    → MakesFresh size ports'.held.port.regs ports'.held.port.pos → counters_in ports ≡ fresh_serial → counters_in ports' ≡ fresh_serial
    → SamePort ports ports'
fresh_once {ports = ports} {ports' = ports'} f g c d = record {
  port = f.holds ports.held.port.ring ∙ sym (g.holds ports'.held.port.ring);
  spare = f.spares_zero ∙ sym g.spares_zero;
  counted = c ∙ sym d;
}

module _ {ports ports' : Ports} (s : SamePort ports ports') (k : SameKept ports.held ports'.held) where
  kept_by : (b : Bool) (held₁ held₁' : Held) → Keeps b ports.held held₁ → Keeps b ports'.held held₁' → SameKept held₁ held₁'
  kept_by true held₁ held₁' l m =
      record { kept = kept_now ports.held held₁ l ∙ rw (s.port, s.spare) refl ∙ sym (kept_now ports'.held held₁' m) }
  kept_by false held₁ held₁' l m = named_kept held₁ held₁' k l m

  kept_then : (asked : Asked) (held₁ held₁' : Held) → HeldThen asked ports.held held₁ → HeldThen asked ports'.held held₁'
      → SameKept held₁ held₁'
  kept_then show_counters held₁ held₁' e f = same_held e f k
  kept_then lost held₁ held₁' e f = same_held e f k
  kept_then (of_ports asked) held₁ held₁' h l = kept_by (is_save asked) held₁ held₁' h.2 l.2

  port_then_lem : (asked : Asked) (held₁ held₁' : Held) → HeldThen asked ports.held held₁ → HeldThen asked ports'.held held₁'
      → (port_in held₁ ≡ port_in held₁') × (spare_registers held₁.port.regs ≡ spare_registers held₁'.port.regs)
  port_then_lem show_counters held₁ held₁' e f = (rw (e, f) s.port, rw (e, f) s.spare)
  port_then_lem lost held₁ held₁' e f = (rw (e, f) s.port, rw (e, f) s.spare)
  port_then_lem (of_ports asked) held₁ held₁' h l = (
    h.0 ∙ ap (λ (p : Port). port_then asked p) s.port ∙ sym l.0,
    h.1 ∙ ap (λ (p : Port). spares_then asked p (spare_registers ports.held.port.regs)) s.port ∙
        ap (λ (r : List ℕ). spares_then asked (port_in ports'.held) r) s.spare ∙ sym l.1,
  )

  counted_then_lem : (asked : Asked) → counted_then asked ports ≡ counted_then asked ports'
  counted_then_lem show_counters = s.counted
  counted_then_lem lost = rw s.counted refl
  counted_then_lem (of_ports asked) =
      ap (λ (c : Serial). serial_after c (answered (word_then asked (port_in ports.held)))) s.counted ∙
      ap (λ (p : Port). serial_after (counters_in ports') (answered (word_then asked p))) s.port

  module _ {asked : Asked} {ports₁ ports₁' : Ports} {out out₁ out' out₁' : List ℕ}
      (a : AnswersAsked asked ports out ports₁ out₁) (b : AnswersAsked asked ports' out' ports₁' out₁') where
    pub answers_said : says_asked asked ports a.reached ≡ says_asked asked ports' b.reached
    answers_said = said_once asked a.reached b.reached s a.tells b.tells

    pub answers_kept : SameKept ports₁.held ports₁'.held
    answers_kept = kept_then asked ports₁.held ports₁'.held a.held b.held

    pub answers_port : SamePort ports₁ ports₁'
    answers_port =
        let p = port_then_lem asked ports₁.held ports₁'.held a.held b.held in
        record { port = p.0; spare = p.1; counted = a.counted ∙ counted_then_lem asked ∙ sym b.counted }
