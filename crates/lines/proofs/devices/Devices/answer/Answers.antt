-- Each task is done.
use mathlib.Core.List.{List, ◌++◌, append-nil, append_assoc}
use Prim.Native.Nat.{ℕ}
use mathlib.Core.Path.{◌≡◌, sym, ap, ◌∙◌}
use native.Mathlib.Omega.{arith}
use Rattle.words.specs.Text.{text}
use Rattle.lines.specs.Answering.{clock, port, plain, clock_named, clock_asked, port_named, port_asked}
use Rattle.lines.specs.Handing.{passed, unknown, names_reset, asks_reset}
use Rattle.lines.proofs.Handed.{handed, handed_short}
use Rattle.lines.proofs.Handing.{names_size}
use Rattle.lines.proofs.devices.Devices.answer.Goals as goal

pub begin-requires-in-NamesSerial : goal.begin-requires-in-NamesSerial
begin-requires-in-NamesSerial c = (names_size _ c.args.kind c.args.self.now.device (sym c.in-NamesSerial.is ∙ c.task_of.ensures)).made

pub put-requires-in-NamesSerial : goal.put-requires-in-NamesSerial
put-requires-in-NamesSerial c =
    let n = names_size _ c.args.kind c.args.self.now.device (sym c.in-NamesSerial.is ∙ c.task_of.ensures) in omega (arith, n.short)

pub put-requires-in-NamesSerial-2 : goal.put-requires-in-NamesSerial-2
put-requires-in-NamesSerial-2 c =
    let n = names_size _ c.args.kind c.args.self.now.device (sym c.in-NamesSerial.is ∙ c.task_of.ensures) in
    omega (arith, n.short, c.put-in-NamesSerial.ensures.len)

pub returns-in-Pass : goal.returns-in-Pass
returns-in-Pass c = handed_short c.task_of.ensures c.in-Pass.is (sym (append-nil _)) (plain passed) (omega arith)

pub returns-in-Unknown : goal.returns-in-Unknown
returns-in-Unknown c = handed_short c.task_of.ensures c.in-Unknown.is c.unknown.ensures (plain unknown) (omega arith)

pub returns-in-NamesReset : goal.returns-in-NamesReset
returns-in-NamesReset c = handed_short c.task_of.ensures c.in-NamesReset.is c.put.ensures.says (plain names_reset) (omega arith)

pub returns-in-NamesClock : goal.returns-in-NamesClock
returns-in-NamesClock c =
    let b = c.begin.ensures in
    handed_short c.task_of.ensures c.in-NamesClock.is c.put-in-NamesClock.ensures.says
    (clock (clock_named (record { fresh = b.inits.0; time = b.inits.1; kept = b.kept_value; counted = b.counters_value }) c.eight_words.ensures))
    (omega arith)

pub returns-in-NamesSerial : goal.returns-in-NamesSerial
returns-in-NamesSerial c =
    let n = names_size _ c.args.kind c.args.self.now.device (sym c.in-NamesSerial.is ∙ c.task_of.ensures) in
    let b = c.begin-in-NamesSerial.ensures in
    let said : c.put-in-NamesSerial-2.new.self ≡ c.args.out.now ++ (c.args.line.now ++ text "\n") =
    c.put-in-NamesSerial-2.ensures.says ∙ ap (λ (l : List ℕ). l ++ text "\n") c.put-in-NamesSerial.ensures.says ∙
    append_assoc c.args.out.now c.args.line.now (text "\n") in
    handed {said = c.args.line.now ++ text "\n"} c.task_of.ensures c.in-NamesSerial.is said
    (port (port_named (record { fresh = b.makes_fresh; kept = b.keeps; counted = b.counters_value })))
    (omega (arith, n.short, c.put-in-NamesSerial.ensures.len, c.put-in-NamesSerial-2.ensures.len))

pub returns-in-Asks-Reset : goal.returns-in-Asks-Reset
returns-in-Asks-Reset c =
    handed c.task_of.ensures (rw c.in-Asks-Reset.field-0-is at c.in-Asks-Reset.is) c.answer.ensures.says (plain asks_reset) c.answer.ensures.upper_bound

pub returns-in-Asks-Clock : goal.returns-in-Asks-Clock
returns-in-Asks-Clock c =
    let a = c.answer-in-Asks-Clock.ensures in
    handed c.task_of.ensures (rw c.in-Asks-Clock.field-0-is at c.in-Asks-Clock.is) a.said (clock (clock_asked a.said a c.eight_words-in-Asks-Clock.ensures)) a.short

pub returns-in-Asks-Serial : goal.returns-in-Asks-Serial
returns-in-Asks-Serial c =
    let a = c.answer-in-Asks-Serial.ensures in
    handed c.task_of.ensures (rw c.in-Asks-Serial.field-0-is at c.in-Asks-Serial.is) a.said (port (port_asked a.said a)) a.short
