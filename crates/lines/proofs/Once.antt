-- One input has one answer: what is said depends on no more of the devices than `Same` compares, and that stays the same.
use Prim.Native.Nat.{ℕ}
use mathlib.Core.Path.{◌≡◌, refl, sym, ap, subst, ◌∙◌}
use mathlib.Core.Bool.{Bool, true, false, cond}
use mathlib.Core.List.{List, ◌++◌}
use Rattle.clock_lines.specs.Answers as clock-lines
use Rattle.clock_lines.specs.declared.Clocks as clock-memory
use Rattle.clock_lines.proofs.Once as clocks
use Rattle.pieces.specs.Cutting.{kind_of}
use Rattle.pieces.specs.declared.cut.Kind.{Kind}
use Rattle.pieces.specs.declared.cut.Kind.TheVariants.{Silent, TooLong, Whole}
use Rattle.serial_lines.specs.Counted as serial-lines
use Rattle.serial_lines.specs.declared.Ports as serial-memory
use Rattle.serial_lines.proofs.Once as ports
use Rattle.std.specs.Prelude.{Option, Some, None}
use Rattle.words.specs.Pattern.{fits_of}
use Rattle.words.specs.Text.{text}
use Rattle.lines.specs.Handing.{named_by, named_task, names_serial, size_named, task_of, current_after, Plain, passed, unknown, names_reset, asks_reset}
use Rattle.lines.specs.Answering.{ClockSays, clock_named, clock_asked, PortSays, port_named, port_asked, Does, clock, port, plain, AnswersLine, Answers, none, next, First, AnswersInput}
use Rattle.lines.specs.declared.devices.Device.{Device}
use Rattle.lines.specs.declared.devices.Device.TheVariants.{Reset, Clock, Serial}
use Rattle.lines.specs.declared.devices.Devices.{Devices}
use Rattle.lines.specs.declared.devices.Task.{Task}
use Rattle.lines.specs.declared.devices.Task.TheVariants.{NamesReset, NamesClock, Asks}
use Rattle.lines.proofs.Handing.{said_once}

-- The same devices. Of a device that is not the current one only what it keeps is compared: it is fresh when it is named again.
record Same (w v : Devices) : Type 0 where
  device : w.device ≡ v.device
  clock_kept : clocks.SameKept w.clocks v.clocks
  port_kept : ports.SameKept w.ports.held v.ports.held
  clock : w.device ≡ Some Clock → clocks.SameClock w.clocks v.clocks
  port : w.device ≡ Some Serial → ports.SamePort w.ports v.ports

-- ---- A line that asks goes to the current device

-- No line that names a device asks.
named_asks : (resets clocks : Bool) (size : Option ℕ) (current : Option Device) (d : Device)
    → named_task (cond resets (Some NamesReset) (cond clocks (Some NamesClock) (names_serial size))) current ≡ Asks d → current ≡ Some d
named_asks true clocks size current d e = cc
named_asks false true size current d e = cc
named_asks false false (Some size) current d e = cc
named_asks false false None (Some x) d e = cc
named_asks false false None None d e = cc

asks : (line : List ℕ) (kind : Kind) (current : Option Device) (d : Device) → task_of line kind current ≡ Asks d → current ≡ Some d
unfolding named_by
asks line Silent current d e = cc
asks line TooLong current d e = cc
asks line Whole current d e = named_asks (fits_of (text "i8042") line) (fits_of (text "clock") line) (size_named line) current d e

-- ---- One line

record ClockOnce (said said' : List ℕ) (c c' : clock-memory.Clocks) : Type 0 where
  says : said ≡ said'
  kept : clocks.SameKept c c'
  same : clocks.SameClock c c'

record PortOnce (said said' : List ℕ) (p p' : serial-memory.Ports) : Type 0 where
  says : said ≡ said'
  kept : ports.SameKept p.held p'.held
  same : ports.SamePort p p'

module _ {line : List ℕ} {c c' : clock-memory.Clocks} (k : clocks.SameKept c c') where
  clock_once : {t : Task} {said said' : List ℕ} {c₁ c₁' : clock-memory.Clocks} → (t ≡ Asks Clock → clocks.SameClock c c')
      → ClockSays line c t said c₁ → ClockSays line c' t said' c₁' → ClockOnce said said' c₁ c₁'
  clock_once {c₁ = c₁} {c₁' = c₁'} s (clock_named x u) (clock_named y v) = record {
    says = refl;
    kept = clocks.named_kept c₁ c₁' k x.kept y.kept;
    same = clocks.fresh_once u v x.fresh y.fresh x.time y.time x.counted y.counted;
  }
  clock_once {c₁' = c₁'} s (clock_asked p x u) (clock_asked {out = out} {out' = out'} q b v) =
      let y : clock-lines.Answers (clock-lines.asks c line) c' out c₁' out' =
      subst (λ (a : clock-lines.Asks). clock-lines.Answers a c' out c₁' out') (sym (clocks.asks_once line k)) b in
      record {
        says = said_once _ p x.said ∙ clocks.answers_said (s refl) x y ∙ sym (said_once _ q y.said);
        kept = clocks.answers_kept (s refl) x y k;
        same = clocks.answers_clock (s refl) x y u v;
      }

module _ {line : List ℕ} {p p' : serial-memory.Ports} (k : ports.SameKept p.held p'.held) where
  port_once : {t : Task} {said said' : List ℕ} {p₁ p₁' : serial-memory.Ports} → (t ≡ Asks Serial → ports.SamePort p p')
      → PortSays line p t said p₁ → PortSays line p' t said' p₁' → PortOnce said said' p₁ p₁'
  port_once {p₁ = p₁} {p₁' = p₁'} s (port_named x) (port_named y) = record {
    says = refl;
    kept = ports.named_kept p₁.held p₁'.held k x.kept y.kept;
    same = ports.fresh_once x.fresh y.fresh x.counted y.counted;
  }
  port_once {p₁' = p₁'} s (port_asked r x) (port_asked {out = out} {out' = out'} q b) =
      let y : serial-lines.AnswersAsked (serial-lines.asked_of p.held line) p' out p₁' out' =
      subst (λ (a : serial-lines.Asked). serial-lines.AnswersAsked a p' out p₁' out') (sym (ports.asked_once line k)) b in
      record {
        says = said_once _ r x.said ∙ ports.answers_said (s refl) k x y ∙ sym (said_once _ q y.said);
        kept = ports.answers_kept (s refl) k x y;
        same = ports.answers_port (s refl) k x y;
      }

-- What was said, and the devices after it.
record Once (said said' : List ℕ) (w v : Devices) : Type 0 where
  says : said ≡ said'
  same : Same w v

-- A device that does not answer is the current one only where it was.
clock_leaves : {line : List ℕ} {d : Option Device} {t : Task} {c c' : clock-memory.Clocks} {said : List ℕ} → ClockSays line c t said c'
    → current_after t d ≡ Some Serial → d ≡ Some Serial
clock_leaves (clock_named x u) h = cc
clock_leaves (clock_asked p x u) h = h

port_leaves : {line : List ℕ} {d : Option Device} {t : Task} {p p' : serial-memory.Ports} {said : List ℕ} → PortSays line p t said p'
    → current_after t d ≡ Some Clock → d ≡ Some Clock
port_leaves (port_named x) h = cc
port_leaves (port_asked p x) h = h

plain_leaves : {d : Option Device} {t : Task} (x : Device) → (x ≡ Reset → ⊥) → Plain t → current_after t d ≡ Some x → d ≡ Some x
plain_leaves x n passed h = h
plain_leaves x n unknown h = h
plain_leaves x n names_reset h = absurd (n cc)
plain_leaves x n asks_reset h = h

-- One task is done in one way.
clock_not_plain : {line : List ℕ} {t : Task} {said : List ℕ} {c c' : clock-memory.Clocks} → ClockSays line c t said c' → Plain t → ⊥
clock_not_plain (clock_named x u) p = elim p [ ]
clock_not_plain (clock_asked q x u) p = elim p [ ]

port_not_plain : {line : List ℕ} {t : Task} {said : List ℕ} {p p' : serial-memory.Ports} → PortSays line p t said p' → Plain t → ⊥
port_not_plain (port_named x) p = elim p [ ]
port_not_plain (port_asked q x) p = elim p [ ]

clock_no_port : {line : List ℕ} {t : Task} {said said' : List ℕ} {c c' : clock-memory.Clocks} {p p' : serial-memory.Ports}
    → ClockSays line c t said c' → PortSays line p t said' p' → ⊥
clock_no_port (clock_named x u) p = elim p [ ]
clock_no_port (clock_asked q x u) p = elim p [ ]

module _ {w v : Devices} (s : Same w v) {t : Task} (current : (d : Device) → t ≡ Asks d → w.device ≡ Some d) where
  after : current_after t w.device ≡ current_after t v.device
  after = ap (λ (d : Option Device). current_after t d) s.device

  does_once : {line said said' : List ℕ} {w' v' : Devices} → Does line t w said w' → Does line t v said' v' → Once said said' w' v'
  does_once (clock a) (clock b) =
      let o = clock_once s.clock_kept (λ e. s.clock (current Clock e)) a b in
      record {
        says = o.says;
        same = record {
          device = after;
          clock_kept = o.kept;
          port_kept = s.port_kept;
          clock = λ _. o.same;
          port = λ h. s.port (clock_leaves a h);
        };
      }
  does_once (port a) (port b) =
      let o = port_once s.port_kept (λ e. s.port (current Serial e)) a b in
      record {
        says = o.says;
        same = record {
          device = after;
          clock_kept = s.clock_kept;
          port_kept = o.kept;
          clock = λ h. s.clock (port_leaves a h);
          port = λ _. o.same;
        };
      }
  does_once (plain a) (plain b) =
      record {
        says = refl;
        same = record {
          device = after;
          clock_kept = s.clock_kept;
          port_kept = s.port_kept;
          clock = λ h. s.clock (plain_leaves Clock (λ e. cc) a h);
          port = λ h. s.port (plain_leaves Serial (λ e. cc) a h);
        };
      }
  does_once (clock a) (port b) = absurd (clock_no_port a b)
  does_once (port a) (clock b) = absurd (clock_no_port b a)
  does_once (clock a) (plain b) = absurd (clock_not_plain a b)
  does_once (plain a) (clock b) = absurd (clock_not_plain b a)
  does_once (port a) (plain b) = absurd (port_not_plain a b)
  does_once (plain a) (port b) = absurd (port_not_plain b a)

line_once : {line said said' : List ℕ} {w v w' v' : Devices} → Same w v → AnswersLine line w said w' → AnswersLine line v said' v'
    → Once said said' w' v'
line_once {line} {said} {said'} {w} {v} {w'} {v'} s a b =
    does_once s (asks line (kind_of line false) w.device) a
    (subst (λ (d : Option Device). Does line (task_of line (kind_of line false) d) v said' v') (sym s.device) b)

-- ---- All lines

lines_once : {lines : List (List ℕ)} {a b : List ℕ} {w v w' v' : Devices} → Same w v → Answers w lines a w' → Answers v lines b v' → a ≡ b
lines_once s none none = refl
lines_once s (next {rest = x} d h) (next {said = said} {rest = y} e k) =
    let o = line_once s d e in
    ap (λ (l : List ℕ). l ++ x) o.says ∙ ap (λ (l : List ℕ). said ++ l) (lines_once o.same h k)

first_same : {w v : Devices} → First w → First v → Same w v
first_same f g = record {
  device = f.device ∙ sym g.device;
  clock_kept = clocks.none_kept f.clocks g.clocks;
  port_kept = ports.none_kept f.ports g.ports;
  clock = λ h. let d = f.device in cc;
  port = λ h. let d = f.device in cc;
}

pub one_answer : {input said said' : List ℕ} → AnswersInput input said → AnswersInput input said' → said ≡ said'
one_answer a b = lines_once (first_same a.begins b.begins) a.answers b.answers
