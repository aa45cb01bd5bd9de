-- Conservation by the words that a host hears.
use mathlib.Core.Path.{◌≡◌, refl, sym, ap, ap₂, ◌∙◌}
use mathlib.Core.Bool.{Bool, true, false, cond, true≢false}
use mathlib.Core.Logic.{◌⊎◌, inl, inr}
use mathlib.Core.List.{List, [], ◌∷◌, ◌++◌}
use Prim.Native.Nat.{ℕ, ◌+◌, ◌*◌, ◌/◌, ◌%◌, ◌<◌}
use native.Mathlib.Omega.{arith}
use lib.Dec.{eqb}
use lib.ListN.{length}
use Rattle.common.specs.Answer.{refused_bit, sent_bit, delivered_bit, looped_bit, flushed_bit, one_raise}
use Rattle.common.specs.Lists.{some, first_or0}
use Rattle.common.proofs.Words.{Parts, parts, one}
use Rattle.serial.specs.Port.{Port, Events, Out, Input, addressed, is_open, read_of, write_of, input_of, room_of}
use Rattle.serial.specs.Calls.{tells, sent_word}
use Rattle.runs.specs.Run.{Op, read, write, input, room, Answer, replied, sent, took, full, has_room, did_input, step, run}
use Rattle.runs.specs.Accepted.{accepted, delivered, gone, all_accepted, all_gone, events_of}
use Rattle.runs.proofs.Conserved.{conserved}
use Rattle.runs.proofs.Effects.{read_cases}
use Rattle.runs.proofs.Telling.{Wrote, wrote}
use Rattle.play.specs.Play.{word, words}
use Rattle.play.specs.Accounted.{accepted_by, delivered_by, discarded_by, all_accepted_by, GoneBy, Fits, AllFit}

-- A bit that is told picks what is said.
picks : (x : ℕ) (t : Bool) (l m : List ℕ) → x ≡ one t → l ≡ m → cond (eqb x 1) l [] ≡ cond t m []
picks x true l m e f = rw e f
picks x false l m e f = rw e refl

-- The word of each kind of answer.
module _ (n : ℕ) (e : Events) where
  abbrev Told : ℕ → Bool → ℕ → Type 0
  Told number sends w =
      Parts number false sends false e.data_read e.delivered e.none_left e.looped e.dropped e.flushed n w

  told : (number : ℕ) (sends : Bool) (w : ℕ) → w ≡ number + cond sends sent_bit 0 + tells e n → number < 0x1_0000 → Told number sends w
  told number sends w same h =
      parts number false sends false e.data_read e.delivered e.none_left e.looped e.dropped e.flushed n w (same ∙ omega arith) h

  -- a byte is sent, or bytes were thrown away
  sent_parts : (s : List ℕ) → first_or0 s < 256 → length e.discarded < 0x1_0000 → (s ≡ []) ⊎ (e.discarded ≡ [])
      → Told (first_or0 s + length e.discarded) (some s) (sent_word s + length e.discarded + tells e n)
  sent_parts [] h d x = told (0 + length e.discarded) false _ (omega arith) (omega arith)
  sent_parts (byte ∷ rest) h d (inl x) = absurd (true≢false (ap some x))
  sent_parts (byte ∷ rest) h d (inr x) = told (byte + length e.discarded) true _ (omega arith) (rw x (omega arith))

bare_parts : (number raises w : ℕ) (refused : Bool) → number < 0x1_0000
    → w ≡ number + cond refused refused_bit 0 + one_raise * raises
    → Parts number refused false false false false false false false false raises w
bare_parts number raises w refused h e = parts number refused false false false false false false false false raises w (e ∙ omega arith) h

-- ---- One operation

-- What an answer to an operation says, its word says.
pub record Says (o : Op) (a : Answer) : Type 0 where
  pub accepts : accepted_by o (word a) ≡ accepted o a
  pub delivers : delivered_by (word a) ≡ delivered a
  pub discards : discarded_by (word a) ≡ length (events_of a).discarded

none_delivered : (w : ℕ) → w / delivered_bit % 2 ≡ 0 → delivered_by w ≡ []
unfolding delivered_by
none_delivered w e = picks (w / delivered_bit % 2) false (w % 256 ∷ []) (w % 256 ∷ []) e refl

-- a number that is told
picks_number : (x : ℕ) (t : Bool) (l m : ℕ) → x ≡ one t → l ≡ m → cond (eqb x 1) l 0 ≡ cond t m 0
picks_number x true l m e f = rw e f
picks_number x false l m e f = rw e refl

none_discarded : (w : ℕ) → w / flushed_bit % 2 ≡ 0 → discarded_by w ≡ 0
unfolding discarded_by
none_discarded w e = picks_number (w / flushed_bit % 2) false (w % 0x1_0000) (w % 0x1_0000) e refl

told_thrown : (w n : ℕ) → w % 0x1_0000 ≡ n → w / flushed_bit % 2 ≡ 1 → discarded_by w ≡ n
unfolding discarded_by
told_thrown w n m f = picks_number (w / flushed_bit % 2) true (w % 0x1_0000) n f m

-- A read throws nothing away.
read_says : (offset v n : ℕ) (e : Events) → v < 256 → e.flushed ≡ false → e.discarded ≡ [] → Says (read offset) (replied v e n)
unfolding accepted_by accepted delivered_by delivered
read_says offset v n e h f d =
    let w = v + tells e n in
    let p = told n e v false w (omega arith) (omega arith) in
    let low : w % 256 ≡ v = omega (arith, p.number) in
    record {
      accepts = refl;
      delivers = picks (w / delivered_bit % 2) e.delivered (w % 256 ∷ []) (v ∷ []) p.delivered (ap (λ (b : ℕ). b ∷ []) low);
      discards = none_discarded w (p.flushed ∙ ap one f) ∙ rw d refl;
    }

module _ (offset value : ℕ) (o : Out) where
  abbrev word_of : ℕ
  word_of = sent_word o.sent + length o.events.discarded + tells o.events o.raises

  abbrev number : ℕ
  number = first_or0 o.sent + length o.events.discarded

  abbrev WriteSays : Type 0
  WriteSays = Says (write offset value) (sent o.sent o.events o.raises)

  told_so : o.events.delivered ≡ false → Told o.raises o.events number (some o.sent) word_of
      → discarded_by word_of ≡ length o.events.discarded → WriteSays
  unfolding accepted_by accepted delivered
  told_so n p d = record {
    accepts = picks (word_of / looped_bit % 2) o.events.looped (value ∷ []) (value ∷ []) p.looped refl;
    delivers = none_delivered word_of (p.delivered ∙ ap one n) ∙ rw n refl;
    discards = d;
  }

  write_says : Wrote o → Fits (sent o.sent o.events o.raises) → WriteSays
  write_says x h = go x.either
    where
      go : ((o.sent ≡ []) × (o.events.flushed ≡ true)) ⊎ ((o.events.discarded ≡ []) × (o.events.flushed ≡ false)) → WriteSays
      go (inl k) =
          let p = sent_parts o.raises o.events o.sent h.0 h.1 (inl k.0) in
          let alone : number ≡ length o.events.discarded = rw k.0 (omega arith) in
          told_so x.none p (told_thrown word_of (length o.events.discarded) (p.number ∙ alone) (p.flushed ∙ ap one k.1))
      go (inr k) =
          let p = sent_parts o.raises o.events o.sent h.0 h.1 (inr k.0) in
          told_so x.none p (none_discarded word_of (p.flushed ∙ ap one k.1) ∙ rw k.0 refl)

input_says : (bytes : List ℕ) (i : Input) → Fits (did_input i).answer → Says (input bytes) (did_input i).answer
unfolding accepted_by accepted delivered
input_says bytes i = go i.full
  where
    go : (f : Bool) → let a = cond f (full i.raises) (took i.taken i.raises) in Fits a → Says (input bytes) a
    go true h =
        let w = word (full i.raises) in
        let p = bare_parts 0 i.raises w true (omega arith) (omega arith) in
        record { accepts = rw p.number refl; delivers = none_delivered w p.delivered; discards = none_discarded w p.flushed }
    go false h =
        let w = word (took i.taken i.raises) in
        let p = bare_parts i.taken i.raises w false h (omega arith) in
        record { accepts = rw p.number refl; delivers = none_delivered w p.delivered; discards = none_discarded w p.flushed }

room_says : (r : ℕ) → r < 0x1_0000 → Says room (has_room r)
unfolding accepted_by accepted delivered
room_says r h =
    let p = bare_parts r 0 r false h (omega arith) in
    record { accepts = refl; delivers = none_delivered r p.delivered; discards = none_discarded r p.flushed }

read_throws_nothing : (p : Port) (offset : ℕ) → let e = (read_of p offset).events in (e.flushed ≡ false) × (e.discarded ≡ [])
read_throws_nothing p offset =
    read_cases (λ (o : Out). (o.events.flushed ≡ false) × (o.events.discarded ≡ [])) p (refl, refl) (refl, refl) (λ v. (refl, refl))
    (addressed (is_open p) offset)

pub says : (p : Port) (o : Op) → Fits (step p o).answer → Says o (step p o).answer
unfolding step
says p (read offset) h = let k = read_throws_nothing p offset in read_says offset _ _ _ h k.0 k.1
says p (write offset value) h = write_says offset value (write_of p offset value) (wrote p offset value) h
says p (input bytes) h = input_says bytes (input_of p bytes) h
says p room h = room_says (room_of p) h

-- ---- Every run

accepted_so : (p : Port) (os : List Op) → AllFit (run p os).answers
    → all_accepted_by os (words (run p os).answers) ≡ all_accepted os (run p os).answers
unfolding run
accepted_so p [] h = refl
accepted_so p (o ∷ os) h = ap₂ ◌++◌ (says p o h.0).accepts (accepted_so (step p o).port os h.1)

gone_so : (p : Port) (os : List Op) → AllFit (run p os).answers → GoneBy (words (run p os).answers) (all_gone (run p os).answers)
unfolding run gone
gone_so p [] h = refl
gone_so p (o ∷ os) h =
    let s = says p o h.0 in
    let a = (step p o).answer in
    let rest = all_gone (run (step p o).port os).answers in
    ((events_of a).discarded, (rest, (sym s.discards, (ap (λ (l : List ℕ). (l ++ (events_of a).discarded) ++ rest) (sym s.delivers), gone_so (step p o).port os h.1))))

-- From any port: what waited and then all that the words say was accepted is what left by them, delivered or thrown away, and then what
-- waits.
pub words_conserve : (p : Port) (os : List Op) → let r = run p os in AllFit r.answers
    → (gone : List ℕ) × (GoneBy (words r.answers) gone × (p.waiting ++ all_accepted_by os (words r.answers) ≡ gone ++ r.port.waiting))
words_conserve p os h = (all_gone (run p os).answers, (gone_so p os h, rw (accepted_so p os h) (conserved p os)))
