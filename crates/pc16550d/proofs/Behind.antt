-- Behind a first row: where the driver is careful, device and chip look alike at every call, for ever; and Linux's start is such a run.
use mathlib.Core.Path.{◌≡◌, refl, sym, ap, subst, ◌∙◌}
use mathlib.Core.Logic.{◌⊎◌, inl, inr}
use mathlib.Core.List.{List, [], ◌∷◌, ◌++◌, append_assoc, append-nil}
use mathlib.Core.Bool.{Bool, true, false, cond, not, ◌&&◌, ◌||◌, true≢false, false≢true}
use Prim.Native.Nat.{ℕ, ◌+◌, ◌*◌, ◌/◌, ◌%◌, ◌≤◌, ◌<◌}
use native.Mathlib.Omega.{arith}
use lib.ListN.{length, length-append}
use lib.Bits.{bit_and, bit_or, bit_xor, or_mod, and_le_r}
use lib.Dec.{eqb, ltb, lit≤, lit<}
use borrow.Author.Tests.{eqb-true, ltb-false, lt-ltb}
use Rattle.common.proofs.Booleans.{both_true}
use Rattle.common.specs.Bits.{on}
use Rattle.sidebyside.specs.Answers.{Said, says, silent, none, Answer, answers, refuses, Fits}
use Rattle.sidebyside.specs.Runs.{Meets, device_after, chip_after}
use Rattle.interrupts.specs.Interrupts.{received_data, transmitter_empty, ier_stored, is_high}
use Rattle.serial.specs.Port.{Port, Register, addressed, is_open, in_loop, active, line, read_register, write_register, RBR_THR, IER, IIR_FCR}
use Rattle.serial.specs.Port.{LCR, MCR, LSR, MSR, SCR, DLL, DLM, reserved, input_of}
use Rattle.serial.specs.Port as device
use Rattle.pc16550d.specs.Chip.{Chip, Receiver, pin, modem_status, depth, holding, arrives, arrive_all, from_line, after_iir, write_ier}
use Rattle.pc16550d.specs.Chip.{write_fcr, loads, transmits}
use Rattle.pc16550d.specs.Chip.{write_mcr, changed, write_thr, rising, Op, read, write, input, chip_does}
use Rattle.pc16550d.specs.Chip as chip
use Rattle.pc16550d.specs.Compare.{Done, accessed, device_does, chip_of, enables, Sound, Agrees, Row, reads, writes, serial_wide_mcr}
use Rattle.pc16550d.specs.Compare.{receives, fed, pair, serial_transmitter_again, serial_line_overrun}
use Rattle.pc16550d.specs.Runs.{begins}
use Rattle.pc16550d.specs.Behind.{tuned, Follows, holds, careful_write, careful, careful_run, compared, compared_at, FitsBy, AlikeBehind}
use Rattle.pc16550d.specs.Behind.{AlikeRun, linux_boots}
use Rattle.pc16550d.proofs.Agreement.{named, same_map, pin_is, Signal, calm, each_raised}
use Rattle.pc16550d.proofs.Reading.{ReadAgrees, read_complete, loop_kept}
use Rattle.pc16550d.proofs.Writing.{WriteAgrees, fcr_written}
use Rattle.pc16550d.proofs.Transmitting.{data_after, written, thr_next, same_sent}
use Rattle.pc16550d.proofs.Enabling.{ier_write}
use Rattle.pc16550d.proofs.OnLine.{InputAgrees, input_complete}
use Rattle.pc16550d.proofs.Keeping.{keeps, fresh_sound}
use Rattle.pc16550d.proofs.Alongside.{runs}
use Rattle.pc16550d.proofs.Computing.{computing}
use Rattle.pc16550d.proofs.Following.{follows_itself}

-- ---- A call: it looks alike, and the chip follows on
record Goes (before : Chip) (bits : ℕ → ℕ) (d : Done) (c : chip.Out) : Type 0 where
  alike : AlikeBehind before bits d c
  next : Follows d.port c.chip

-- FIFO control does not reach the pin, nor do changes at the modem that are not signalled.
pin_tuned : (p : Port) (f : Bool) (t m : ℕ) → modem_status (tuned f t m (chip_of p)) ≡ false → pin (tuned f t m (chip_of p)) ≡ line p
unfolding pin chip_of
pin_tuned p f t m q = rw q (pin_is p)

-- A pin that is low before a call and high after it rises at some moment of it.
rises_between : (c : Chip) (ms : List Chip) (c' : Chip) → pin c ≡ false → pin c' ≡ true → rising c ms c' ≡ true
unfolding rising
rises_between c [] c' low high = rw (low, high)
rises_between c (m ∷ ms) c' low high = go (pin m) refl (rises_between m ms c')
  where
    go : (t : Bool) → pin m ≡ t → (pin m ≡ false → pin c' ≡ true → rising m ms c' ≡ true) → (not (pin c) && pin m || rising m ms c') ≡ true
    go true e rest = rw (low, e)
    go false e rest = rw (low, e) (rest e high)

-- ---- Answers
fits_by : (bits : ℕ → ℕ) (a : Answer) (s : Said) → Fits a s → FitsBy bits a s
fits_by bits (answers v) (says w) e = ap bits e
fits_by bits refuses (says w) e = e
fits_by bits a silent e = tt
fits_by bits a none e = tt

-- IIR. r, t: received data and the transmitter's interrupt; low: fewer bytes wait than the trigger level; f: the FIFOs are on.
abbrev shown : Bool → Bool → Bool → ℕ
shown r low t = cond r (cond low 0x0c 0x04) (cond t 0x02 0x01)

shown_part : (r low t f : Bool) → bit_and (shown r low t + cond f 0xc0 0) 0x37 ≡ cond r 0x04 (cond t 0x02 0x01)
shown_part true true t true = refl
shown_part true true t false = refl
shown_part true false t true = refl
shown_part true false t false = refl
shown_part false low true true = refl
shown_part false low true false = refl
shown_part false low false true = refl
shown_part false low false false = refl

shows_transmitter : (r low t : Bool) → eqb (shown r low t) 0x02 ≡ cond r false t
shows_transmitter true true t = refl
shows_transmitter true false t = refl
shows_transmitter false low true = refl
shows_transmitter false low false = refl

high_half : (x m : ℕ) → m < 0x10 → (x * 0x10 + 0) / 0x10 ≡ (x * 0x10 + m) / 0x10
high_half x m h = omega arith

-- ---- What a careful driver does not do
-- z: no modem input has changed; e: IER 0x08.
none_signalled : (z e : Bool) → (not e || z) ≡ true → (not z && e) ≡ false
none_signalled true e h = refl
none_signalled false true h = absurd (false≢true h)
none_signalled false false h = refl

not_again : (e n t : Bool) → (not n || (not e || t)) ≡ true → e ≡ true → n ≡ true → t ≡ false → ⊥
not_again e n t h a b d = false≢true (rw (a, b, d) at h)

-- chip, device: it empties the receiver.
same_left : (chip device : Bool) (w : List ℕ) → eqb (length (cond chip [] w)) (cond device 0 (length w)) ≡ true
    → cond chip [] w ≡ cond device [] w
same_left true true w h = refl
same_left false false w h = refl
same_left true false [] h = refl
same_left true false (x ∷ xs) h = absurd (omega (arith, eqb-true 0 (length (x ∷ xs)) h))
same_left false true [] h = refl
same_left false true (x ∷ xs) h = absurd (omega (arith, eqb-true (length (x ∷ xs)) 0 h))

-- Changes at four inputs are four bits.
or_small : (a b : ℕ) → a < 0x10 → b < 0x10 → bit_or a b < 0x10
or_small a b h g =
    let left : a % 0x10 ≡ a = omega arith in
    let right : b % 0x10 ≡ b = omega arith in
    let same : bit_or a b % 0x10 ≡ bit_or a b = or_mod a b 4 ∙ ap (λ (x : ℕ). bit_or x (b % 0x10)) left ∙ ap (bit_or a) right in
    omega arith

changed_small : (before after : ℕ) → changed before after < 0x10
unfolding changed
changed_small before after = go _ _ refl refl (and_le_r (bit_xor before after) 0x0b)
  where
    go : (x y : Bool) → on before 0x04 ≡ x → on after 0x04 ≡ y → bit_and (bit_xor before after) 0x0b ≤ 0x0b → changed before after < 0x10
    go true true e f h = simp (e, f) (omega arith)
    go true false e f h = simp (e, f) (omega arith)
    go false true e f h = simp (e, f) (omega arith)
    go false false e f h = simp (e, f) (omega arith)

-- ---- Bytes that the receiver holds
in_case : (a b : Bool) → a ≡ true → (not a || b) ≡ true → b ≡ true
in_case true b e h = h
in_case false b e h = absurd (false≢true e)

unless : (a b : Bool) → a ≡ false → (a || b) ≡ true → b ≡ true
unless true b e h = absurd (true≢false e)
unless false b e h = h

not_above : (a b : ℕ) → not (ltb b a) ≡ true → a ≤ b
not_above a b h = go (ltb b a) refl h
  where
    go : (t : Bool) → ltb b a ≡ t → not t ≡ true → a ≤ b
    go true e h = absurd (false≢true h)
    go false e h = ltb-false b a e

depth_below : (f : Bool) → cond f 16 1 ≤ 16
depth_below true = lit≤ tt
depth_below false = lit≤ tt

one_fits : (r : Receiver) (x : ℕ) → length r.waiting < depth r → arrives r x ≡ holding r (r.waiting ++ (x ∷ [])) r.overrun
unfolding arrives
one_fits r x h = rw (lt-ltb (length r.waiting) (depth r) h)

all_fit : (r : Receiver) (xs : List ℕ) → length r.waiting + length xs ≤ depth r → arrive_all r xs ≡ holding r (r.waiting ++ xs) r.overrun
unfolding arrive_all
all_fit r [] h = ap (λ (w : List ℕ). holding r w r.overrun) (sym (append-nil r.waiting))
all_fit r (x ∷ xs) h =
    let next : Receiver = holding r (r.waiting ++ (x ∷ [])) r.overrun in
    ap (λ (s : Receiver). arrive_all s xs) (one_fits r x (omega arith))
    ∙ all_fit next xs (simp length-append (omega arith))
    ∙ ap (λ (w : List ℕ). holding r w r.overrun) (append_assoc r.waiting (x ∷ []) xs)

-- ---- How a call comes to go
module _ (p : Port) (f : Bool) (t m : ℕ) (small : m < 0x10) (quiet : modem_status (tuned f t m (chip_of p)) ≡ false) where
  abbrev c : Chip
  c = tuned f t m (chip_of p)

  goes : {bits : ℕ → ℕ} {d : Done} {o : chip.Out} (f' : Bool) (t' m' : ℕ) → o.chip ≡ tuned f' t' m' (chip_of d.port) → m' < 0x10
      → modem_status o.chip ≡ false → FitsBy bits d.reply o.reply → d.sent ≡ o.sent → Signal (line p) (line d.port) d.raises
      → Goes c bits d o
  goes {bits} {d} {o} f' t' m' e small' quiet' reply sent signal =
      let level : line d.port ≡ pin o.chip =
      sym (ap pin e ∙ pin_tuned d.port f' t' m' (sym (ap (λ (x : Chip). modem_status x) e) ∙ quiet')) in
      record {
        alike = record {
          reply = reply;
          sent = sent;
          rise = λ low high. signal.rise (sym (pin_tuned p f t m quiet) ∙ low) (level ∙ high);
          high = λ h. sym level ∙ signal.high h;
          level = level;
        };
        next = record {
          same = subst (λ (x : Chip). x ≡ tuned x.receiver.fifos x.receiver.trigger x.modem.changes (chip_of d.port)) (sym e) refl;
          four = subst (λ (x : Chip). x.modem.changes < 0x10) (sym e) small';
          quiet = quiet';
        };
      }

  -- By agreement with the chip that the port is.
  signal_of : {d : Done} {o : chip.Out} → Agrees (chip_of p) d o → Signal (line p) (line d.port) d.raises
  signal_of {d} {o} a = record {
    rise = λ low high. a.alike.rise (rises_between (chip_of p) o.between o.chip (pin_is p ∙ low) (sym a.alike.level ∙ high));
    high = λ h. a.alike.level ∙ a.alike.high h;
  }

  by_agreement : {bits : ℕ → ℕ} {d : Done} {o o' : chip.Out} → Agrees (chip_of p) d o → (m' : ℕ) → o'.chip ≡ tuned f t m' o.chip → m' < 0x10
      → modem_status o'.chip ≡ false → FitsBy bits d.reply o'.reply → o.sent ≡ o'.sent → Goes c bits d o'
  by_agreement {bits} {d} {o} {o'} a m' e small' quiet' reply sent =
      goes f t m' (e ∙ ap (tuned f t m') (sym a.next)) small' quiet' reply (a.alike.sent ∙ sent) (signal_of a)

  -- ---- Reads
  abbrev ReadGoes : Register → Type 0
  ReadGoes r = Goes c (compared (named r)) (accessed (read_register p r)) (chip.read_register c (named r))

  code_is : chip.code c ≡ shown (chip.received_data c) (f && ltb (length p.waiting) t) (chip.transmitter_empty c)
  unfolding chip.code chip_of
  code_is = rw quiet

  code_of : chip.code (chip_of p) ≡ shown (chip.received_data c) (ltb (length p.waiting) 1) (chip.transmitter_empty c)
  unfolding chip.code chip_of
  code_of = refl

  same_code : eqb (chip.code c) 0x02 ≡ eqb (chip.code (chip_of p)) 0x02
  same_code =
      rw (code_is, code_of)
      (shows_transmitter (chip.received_data c) (f && ltb (length p.waiting) t) (chip.transmitter_empty c)
      ∙ sym (shows_transmitter (chip.received_data c) (ltb (length p.waiting) 1) (chip.transmitter_empty c)))

  iir_part : bit_and (chip.code (chip_of p) + 0xc0) 0x37 ≡ bit_and (chip.code c + cond f 0xc0 0) 0x37
  iir_part =
      rw (code_of, code_is)
      (shown_part (chip.received_data c) (ltb (length p.waiting) 1) (chip.transmitter_empty c) true
      ∙ sym (shown_part (chip.received_data c) (f && ltb (length p.waiting) t) (chip.transmitter_empty c) f))

  iir_next : chip.with_interrupts c (after_iir c) ≡ tuned f t m (chip.with_interrupts (chip_of p) (after_iir (chip_of p)))
  unfolding after_iir
  iir_next = ap (λ (b : Bool). chip.with_interrupts c (record { ier = c.interrupts.ier; thre = c.interrupts.thre && not b })) same_code

  mcr_goes : ReadGoes MCR
  unfolding chip_of read_register chip.read_register
  mcr_goes = goes f t m refl small quiet (omega arith) refl (calm (λ b. b))

  agreed_goes : (r : Register) → ReadAgrees p r → ReadGoes r
  unfolding chip_of read_register chip.read_register after_iir
  agreed_goes MCR a = mcr_goes
  agreed_goes RBR_THR a =
      let ours : Answer = (accessed (read_register p RBR_THR)).reply in
      let theirs : Said = (chip.read_register (chip_of p) chip.RBR_THR).reply in
      by_agreement a m refl small quiet (fits_by (compared chip.RBR_THR) ours theirs a.alike.reply) refl
  agreed_goes IER a = by_agreement a m refl small quiet refl refl
  agreed_goes LCR a = by_agreement a m refl small quiet refl refl
  agreed_goes LSR a = by_agreement a m refl small quiet (ap (compared chip.LSR) a.alike.reply) refl
  agreed_goes SCR a = by_agreement a m refl small quiet refl refl
  agreed_goes DLL a = by_agreement a m refl small quiet refl refl
  agreed_goes DLM a = by_agreement a m refl small quiet refl refl
  agreed_goes reserved a = by_agreement a m refl small quiet tt refl
  agreed_goes MSR a = by_agreement a 0 refl (lit< tt) refl (ap (λ (v : ℕ). v / 0x10) a.alike.reply ∙ high_half _ m small) refl
  agreed_goes IIR_FCR a = by_agreement a m iir_next small quiet (ap (λ (v : ℕ). bit_and v 0x37) a.alike.reply ∙ iir_part) refl

  read_goes : (r : Register) → ReadAgrees p r ⊎ Row p (reads r) → ReadGoes r
  read_goes r (inl a) = agreed_goes r a
  read_goes _ (inr (serial_wide_mcr h)) = mcr_goes

  -- ---- Writes
  abbrev WriteGoes : Register → ℕ → Type 0
  WriteGoes r v = Goes c (λ n. n) (accessed (write_register p r v)) (chip.write_register c (named r) v)

  abbrev Careful : Register → ℕ → Type 0
  Careful r v = careful_write c (named r) v ≡ true

  -- ---- FCR
  fcr_goes : (v : ℕ) → Careful IIR_FCR v → (b : Bool) → on v 0x01 ≡ b → WriteGoes IIR_FCR v
  unfolding chip_of write_register chip.write_register write_fcr careful_write
  fcr_goes v e true b =
      let level = chip.trigger_level v in
      let ours = fcr_written p v _ refl in
      let waits : List ℕ → Chip = λ w. tuned true level m (chip.with_receiver (chip_of p) (holding (chip_of p).receiver w false)) in
      goes true level m
      (rw b (ap waits (same_left (on v 0x02 || not f) (on v 0x02) p.waiting (rw b at e))) ∙ ap (tuned true level m) (sym ours.next))
      small quiet tt ours.sent ours.signal
  fcr_goes v e false b =
      let ours = fcr_written p v _ refl in
      let waits : List ℕ → Chip = λ w. tuned false t m (chip.with_receiver (chip_of p) (holding (chip_of p).receiver w false)) in
      goes false t m
      (rw b (ap waits (same_left f (on v 0x02) p.waiting (rw b at e))) ∙ ap (tuned false t m) (sym ours.next))
      small quiet tt ours.sent ours.signal

  -- ---- MCR
  mcr_written : (v : ℕ) → Careful MCR v → WriteGoes MCR v
  unfolding chip_of write_register chip.write_register write_mcr careful_write
  mcr_written v e =
      goes f t (write_mcr c.modem v).changes refl (or_small m _ small (changed_small _ _))
      (none_signalled (eqb (write_mcr c.modem v).changes 0) (on p.settings.ier 0x08) e) tt refl (calm (λ x. x))

  -- ---- IER
  not_row : (v : ℕ) → (not (on (bit_and v 0x0f) 0x02) || (not (enables p transmitter_empty) || active p transmitter_empty)) ≡ true
      → Row p (writes IER v) → ⊥
  unfolding ier_stored
  not_row v h (serial_transmitter_again before now idle) =
      not_again (enables p transmitter_empty) (on (bit_and v 0x0f) 0x02) (active p transmitter_empty) h before now idle

  ier_goes : (v : ℕ) → Careful IER v → WriteAgrees p IER v ⊎ Row p (writes IER v) → WriteGoes IER v
  unfolding chip_of write_register chip.write_register write_ier careful_write ier_stored
  ier_goes v e a =
      let ier = bit_and v 0x0f in
      let waits : Bool = not (enables p transmitter_empty) || active p transmitter_empty in
      let both = both_true (not (on ier 0x02) || waits) (not (on ier 0x08) || eqb m 0) e in
      elim a [
        | inl a ↦ by_agreement a m refl small (none_signalled (eqb m 0) (on ier 0x08) both.1) tt refl
        | inr row ↦ absurd (not_row v both.0 row)
      ]

  -- ---- THR
  loop_room : (v : ℕ) → Careful RBR_THR v → in_loop p ≡ true → length p.waiting + 1 ≤ cond f 16 1
  unfolding chip_of careful_write
  loop_room v e l = not_above (length p.waiting + 1) (cond f 16 1) (in_case (chip.in_loop c) _ (loop_kept p.settings.mcr ∙ l) e)

  thr_tuned : (v : ℕ) → Careful RBR_THR v → (l : Bool) → in_loop p ≡ l → (write_thr c v).chip ≡ tuned f t m (write_thr (chip_of p) v).chip
  unfolding chip_of write_thr
  thr_tuned v e false l = rw (loop_kept, l)
  thr_tuned v e true l =
      let room = loop_room v e l in
      let below = depth_below f in
      rw (loop_kept, l, one_fits c.receiver v (omega arith), one_fits (chip_of p).receiver v (omega arith))

  thr_quiet : (v : ℕ) (l : Bool) → in_loop p ≡ l → modem_status (write_thr c v).chip ≡ false
  unfolding chip_of write_thr loads transmits
  thr_quiet v true l = rw (loop_kept, l) quiet
  thr_quiet v false l = rw (loop_kept, l) quiet

  thr_signal : (v : ℕ) → Signal (line p) (line (device.write_thr p v).port) (device.write_thr p v).raises
  unfolding is_high
  thr_signal v =
      let w = written p v _ _ refl refl in
      let r = active p received_data in
      let r' = data_after p in
      let b = active p transmitter_empty in
      let b' = enables p transmitter_empty in
      rw (w.level, w.raised) (subst (Signal (r || b) (r' || b')) (omega arith) (each_raised r' b' r b))

  thr_sent : (v : ℕ) (l : Bool) → in_loop p ≡ l → (device.write_thr p v).sent ≡ (write_thr c v).sent
  unfolding chip_of write_thr
  thr_sent v l e = same_sent p v l e

  thr_goes : Sound p → (v : ℕ) → Careful RBR_THR v → WriteGoes RBR_THR v
  unfolding write_register chip.write_register write_thr
  thr_goes k v e =
      let few : in_loop p ≡ true → length p.waiting < 16 = λ l. omega (arith, loop_room v e l, depth_below f) in
      goes f t m (thr_tuned v e _ refl ∙ ap (tuned f t m) (sym (thr_next p v k _ refl few))) small (thr_quiet v _ refl) tt
      (thr_sent v _ refl) (thr_signal v)

  -- ---- All registers
  write_goes : Sound p → (r : Register) (v : ℕ) → Careful r v → WriteGoes r v
  unfolding chip_of write_register chip.write_register
  write_goes k RBR_THR v e = thr_goes k v e
  write_goes k IER v e = ier_goes v e (ier_write p v)
  write_goes k IIR_FCR v e = fcr_goes v e _ refl
  write_goes k MCR v e = mcr_written v e
  write_goes k LCR v e = goes f t m refl small quiet tt refl (calm (λ x. x))
  write_goes k LSR v e = goes f t m refl small quiet tt refl (calm (λ x. x))
  write_goes k MSR v e = goes f t m refl small quiet tt refl (calm (λ x. x))
  write_goes k SCR v e = goes f t m refl small quiet tt refl (calm (λ x. x))
  write_goes k DLL v e = goes f t m refl small quiet tt refl (calm (λ x. x))
  write_goes k DLM v e = goes f t m refl small quiet tt refl (calm (λ x. x))
  write_goes k reserved v e = goes f t m refl small quiet tt refl (calm (λ x. x))

  -- ---- Input
  abbrev CarefulInput : List ℕ → Type 0
  CarefulInput bytes = (chip.in_loop c || holds c (length bytes)) ≡ true

  line_room : (bytes : List ℕ) → CarefulInput bytes → in_loop p ≡ false → length p.waiting + length bytes ≤ cond f 16 1
  unfolding chip_of
  line_room bytes e l =
      not_above (length p.waiting + length bytes) (cond f 16 1) (unless (chip.in_loop c) _ (loop_kept p.settings.mcr ∙ l) e)

  -- The same on both chips.
  record SameLine (bytes : List ℕ) : Type 0 where
    next : (from_line c bytes).chip ≡ tuned f t m (from_line (chip_of p) bytes).chip
    reply : (from_line c bytes).reply ≡ (from_line (chip_of p) bytes).reply
    sent : (from_line (chip_of p) bytes).sent ≡ (from_line c bytes).sent
    calmly : modem_status (from_line c bytes).chip ≡ false

  same_line : (bytes : List ℕ) → CarefulInput bytes → (l : Bool) → in_loop p ≡ l → SameLine bytes
  unfolding chip_of from_line
  same_line bytes e true l =
      record { next = rw (loop_kept, l); reply = rw (loop_kept, l); sent = rw (loop_kept, l); calmly = rw (loop_kept, l) quiet }
  same_line bytes e false l =
      let room = line_room bytes e l in
      let below = depth_below f in
      record {
        next = rw (loop_kept, l, all_fit c.receiver bytes room, all_fit (chip_of p).receiver bytes (omega arith));
        reply = rw (loop_kept, l);
        sent = rw (loop_kept, l);
        calmly = rw (loop_kept, l) quiet;
      }

  not_overrun : (bytes : List ℕ) → CarefulInput bytes → Row p (receives bytes) → ⊥
  not_overrun bytes e (serial_line_overrun l s h) = let room = line_room bytes e l in let below = depth_below f in omega arith

  input_goes : (bytes : List ℕ) → CarefulInput bytes → InputAgrees p bytes ⊎ Row p (receives bytes)
      → Goes c (λ n. n) (fed (input_of p bytes)) (from_line c bytes)
  input_goes bytes e (inr row) = absurd (not_overrun bytes e row)
  input_goes bytes e (inl a) =
      let s = same_line bytes e _ refl in
      by_agreement a m s.next small s.calmly
      (rw s.reply (fits_by (λ v. v) (fed (input_of p bytes)).reply (from_line (chip_of p) bytes).reply a.alike.reply)) s.sent

  -- ---- Each operation
  one_goes : Sound p → (o : Op) → careful c o ≡ true → Goes c (compared_at c o) (device_does p o) (chip_does c o)
  unfolding device_does chip_does chip_of careful
  one_goes k (read address) e =
      let r = addressed (is_open p) address in
      subst (λ (x : chip.Register). Goes c (compared x) (accessed (read_register p r)) (chip.read_register c x)) (sym (same_map (is_open p) address))
      (read_goes r (read_complete p k r))
  one_goes k (write address v) e = rw same_map (write_goes k (addressed (is_open p) address) v (rw same_map at e))
  one_goes k (input bytes) e = input_goes bytes e (input_complete p k bytes)

-- ---- Runs
goes_on : (p : Port) → Sound p → (c : Chip) → Follows p c → (o : Op) → careful c o ≡ true
    → Goes c (compared_at c o) (device_does p o) (chip_does c o)
goes_on p k c w o =
    let f = c.receiver.fifos in
    let t = c.receiver.trigger in
    let m = c.modem.changes in
    subst (λ (x : Chip). modem_status x ≡ false → careful x o ≡ true → Goes x (compared_at x o) (device_does p o) (chip_does x o)) (sym w.same)
    (λ quiet. one_goes p f t m w.four quiet k o) w.quiet

-- Over every careful run device and chip look alike at every call, whatever rows of FIFO control, of the modem or of the burst it meets.
pub behind : (p : Port) → Sound p → (c : Chip) → Follows p c → (os : List Op) → careful_run c os ≡ true → AlikeRun p c os
unfolding careful_run
behind p k c w [] e = tt
behind p k c w (o ∷ os) e =
    let b = both_true (careful c o) (careful_run (chip_does c o).chip os) e in
    let g = goes_on p k c w o b.0 in
    (g.alike, behind (device_does p o).port (keeps p k o) (chip_does c o).chip g.next os b.1)

-- After it the chip still follows.
pub follows_on : (p : Port) → Sound p → (c : Chip) → Follows p c → (os : List Op) → careful_run c os ≡ true
    → Follows (device_after pair p os) (chip_after pair c os)
unfolding careful_run
follows_on p k c w [] e = w
follows_on p k c w (o ∷ os) e =
    let b = both_true (careful c o) (careful_run (chip_does c o).chip os) e in
    let g = goes_on p k c w o b.0 in
    follows_on (device_does p o).port (keeps p k o) (chip_does c o).chip g.next os b.1

-- The chip that a port is follows it.
pub follows_first : (p : Port) → Follows p (chip_of p)
unfolding chip_of
follows_first p = record { same = refl; four = lit< tt; quiet = refl }

-- ---- What is asked of the driver is needed

-- From the fresh device, a run that does not look alike.
abbrev Differs : List Op → Type 0
Differs os = AlikeRun begins (chip_of begins) os → ⊥

-- In this order: two bytes over the line and in the loop while the FIFOs are off; with a byte waiting, the FIFOs turned off, 0x02 while they
-- are off, and the FIFOs turned on; IER 0x02 again, IER 0x08 after and before a change at a modem input.
pub each_needed : Differs (write 2 0x00 ∷ input (0x41 ∷ 0x42 ∷ []) ∷ read 0 ∷ [])
    × Differs (write 2 0x00 ∷ write 4 0x1b ∷ write 0 0x41 ∷ write 0 0x42 ∷ read 5 ∷ [])
    × Differs (input (0x41 ∷ []) ∷ write 2 0x00 ∷ read 5 ∷ [])
    × Differs (write 2 0x00 ∷ input (0x41 ∷ []) ∷ write 2 0x02 ∷ read 5 ∷ [])
    × Differs (write 2 0x00 ∷ input (0x41 ∷ []) ∷ write 2 0x01 ∷ read 5 ∷ [])
    × Differs (write 1 0x02 ∷ read 2 ∷ write 1 0x02 ∷ [])
    × Differs (write 4 0x1a ∷ write 1 0x08 ∷ [])
    × Differs (write 1 0x08 ∷ write 4 0x1a ∷ [])
unfolding computing
each_needed = (
  λ r. (let z : ◌≡◌ {A = ℕ} 0x41 0x42 = r.1.1.0.reply in omega arith),
  λ r. (let z : ◌≡◌ {A = ℕ} 0x61 0x63 = r.1.1.1.1.0.reply in omega arith),
  λ r. (let z : ◌≡◌ {A = ℕ} 0x61 0x60 = r.1.1.0.reply in omega arith),
  λ r. (let z : ◌≡◌ {A = ℕ} 0x60 0x61 = r.1.1.1.0.reply in omega arith),
  λ r. (let z : ◌≡◌ {A = ℕ} 0x61 0x60 = r.1.1.1.0.reply in omega arith),
  λ r. true≢false r.1.1.0.level,
  λ r. false≢true r.1.0.level,
  λ r. false≢true r.1.0.level,
)

-- ---- Linux, from the fresh device
begins_sound : Sound begins
begins_sound = fresh_sound 64 (lit≤ tt)

-- It meets a row in its first steps.
pub linux_meets : Meets pair begins (chip_of begins) linux_boots
unfolding computing
linux_meets =
    elim (runs begins begins_sound linux_boots) [
      | inl same ↦ let z : ◌≡◌ {A = ℕ} 0x90 0x92 = same.1.1.1.1.1.1.0.reply in absurd (omega arith)
      | inr meets ↦ meets
    ]

-- It is careful, and so looks alike throughout.
pub linux_careful : careful_run (chip_of begins) linux_boots ≡ true
unfolding computing careful_write careful careful_run
linux_careful = refl

pub linux_alike : AlikeRun begins (chip_of begins) linux_boots
linux_alike = behind begins begins_sound (chip_of begins) (follows_itself begins) linux_boots linux_careful

-- Also where bytes were typed before: as it starts it empties the receiver, on both.
pub linux_typed_before : AlikeRun begins (chip_of begins) (input (0x41 ∷ 0x42 ∷ []) ∷ linux_boots)
unfolding computing careful_write careful careful_run
linux_typed_before = behind begins begins_sound (chip_of begins) (follows_itself begins) (input (0x41 ∷ 0x42 ∷ []) ∷ linux_boots) refl
