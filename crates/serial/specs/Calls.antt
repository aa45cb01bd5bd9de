-- What a call promises of the memory that it was lent, and of the word that it answers.
use Rattle.std.specs.Prelude.{ℕ, ◌+◌, ◌*◌, ◌≡◌, List, [], ◌∷◌, Bool, cond, length}
use Rattle.common.specs.Answer.{refused_bit, sent_bit, data_read_bit, delivered_bit, none_left_bit, looped_bit, dropped_bit, flushed_bit, one_raise}
use Rattle.serial.specs.Port.{Port, Events, Out, Input, is_size, fresh, room_of, line}
use Rattle.serial.specs.Layout.{port_of, unused_of, spare_registers, spare_positions, fresh_spare_registers, fresh_spare_positions}

-- ---- The words: `common`'s Answer lays them out

-- What happened, as bits; and behind them the raises.
abbrev pub event_bits : Events → ℕ
event_bits e =
    cond e.data_read data_read_bit 0 +
    (cond e.delivered delivered_bit 0 +
    (cond e.none_left none_left_bit 0 + (cond e.looped looped_bit 0 + (cond e.dropped dropped_bit 0 + cond e.flushed flushed_bit 0))))

abbrev pub tells : Events → ℕ → ℕ
tells events raises = event_bits events + one_raise * raises

-- After a read: the reply.
abbrev pub read_word : Out → ℕ
read_word o = o.reply + tells o.events o.raises

-- After a write: the byte sent, where one is sent; how many bytes were thrown away.
abbrev pub sent_word : List ℕ → ℕ
sent_word [] = 0
sent_word (byte ∷ rest) = byte + sent_bit

abbrev pub write_word : Out → ℕ
write_word o = sent_word o.sent + length o.events.discarded + tells o.events o.raises

-- After an input: how many bytes are taken; refused is "full".
abbrev pub input_word : Input → ℕ
input_word i = i.taken + cond i.full refused_bit 0 + one_raise * i.raises

-- ---- The memory

abbrev pub SparesKept : List ℕ → List ℕ → List ℕ → List ℕ → Type 0
SparesKept regs pos regs' pos' = (spare_registers regs' ≡ spare_registers regs) × (spare_positions pos' ≡ spare_positions pos)

-- The call answers the word, and the memory holds the port. The bytes of the ring that do not wait are as they were, and so are the spare
-- registers and positions. Where the port stays what it was (an input refused, a read without effect, a write to nowhere) not a byte of the
-- memory changes.
pub record Answers (regs pos ring regs' pos' ring' : List ℕ) (r : ℕ) (port : Port) (word : ℕ) : Type 0 where
  pub answer : r ≡ word
  pub holds : port_of regs' pos' ring' ≡ port
  pub unused_bytes_kept : unused_of pos' ring' ≡ unused_of pos' ring
  pub spares_kept : SparesKept regs pos regs' pos'
  pub unchanged_if_same_port : port ≡ port_of regs pos ring → (regs' ≡ regs) × ((pos' ≡ pos) × (ring' ≡ ring))

-- A call is an access of the definition. A read is not lent the ring to change it.
abbrev pub Reads : (Port → Out) → List ℕ → List ℕ → List ℕ → List ℕ → List ℕ → ℕ → Type 0
Reads access regs pos ring regs' pos' r =
    let o = access (port_of regs pos ring) in Answers regs pos ring regs' pos' ring r o.port (read_word o)

abbrev pub Writes : (Port → Out) → List ℕ → List ℕ → List ℕ → List ℕ → List ℕ → List ℕ → ℕ → Type 0
Writes access regs pos ring regs' pos' ring' r =
    let o = access (port_of regs pos ring) in Answers regs pos ring regs' pos' ring' r o.port (write_word o)

abbrev pub TakesInput : (Port → Input) → List ℕ → List ℕ → List ℕ → List ℕ → List ℕ → List ℕ → ℕ → Type 0
TakesInput access regs pos ring regs' pos' ring' r =
    let i = access (port_of regs pos ring) in Answers regs pos ring regs' pos' ring' r i.port (input_word i)

-- A fresh port of a size, whatever the ring holds; it starts at the ring's first place. What is spare is 0.
pub record MakesFresh (size : ℕ) (regs' pos' : List ℕ) : Type 0 where
  pub holds : (ring : List ℕ) → port_of regs' pos' ring ≡ fresh size
  pub placed : pos' ≡ 0 ∷ 0 ∷ fresh_spare_positions
  pub spares_zero : spare_registers regs' ≡ fresh_spare_registers

-- A size with which no port is made is refused, and nothing changes.
abbrev pub Makes : ℕ → List ℕ → List ℕ → List ℕ → List ℕ → ℕ → Type 0
Makes size regs pos regs' pos' r =
    cond (is_size size) ((r ≡ 0) × MakesFresh size regs' pos') ((r ≡ refused_bit) × ((regs' ≡ regs) × (pos' ≡ pos)))

-- The size, whatever the positions and the ring hold; the room left, whatever the ring holds.
abbrev pub HasSize : List ℕ → ℕ → Type 0
HasSize regs r = (pos ring : List ℕ) → r ≡ (port_of regs pos ring).size

abbrev pub HasRoom : List ℕ → List ℕ → ℕ → Type 0
HasRoom regs pos r = (ring : List ℕ) → r ≡ room_of (port_of regs pos ring)

-- Whether the interrupt line is high, whatever the ring holds.
abbrev pub IsHigh : List ℕ → List ℕ → Bool → Type 0
IsHigh regs pos r = (ring : List ℕ) → r ≡ line (port_of regs pos ring)
