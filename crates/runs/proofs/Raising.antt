-- Every operation raises once for each kind that is active after it and was not before it; and what is stored in IIR stays settled.
use mathlib.Core.Path.{◌≡◌, refl, sym, ap, ◌∙◌}
use mathlib.Core.Bool.{Bool, true, false, cond, ◌&&◌, false≢true}
use mathlib.Core.List.{List, [], ◌∷◌, ◌++◌, tail}
use Prim.Native.Nat.{ℕ, ◌+◌}
use native.Mathlib.Omega.{arith}
use lib.Bits.{bit_or}
use lib.Dec.{eqb}
use Rattle.common.proofs.Booleans.{both_true, both_are}
use Rattle.common.specs.Bits.{on}
use Rattle.common.specs.Lists.{some}
use Rattle.interrupts.specs.Interrupts.{Kind, received_data, transmitter_empty, none_pending, is_active, code, settled, newly}
use Rattle.interrupts.proofs.Laws.{settled_keeps, set_active}
use Rattle.serial.specs.Port.{Port, Out, Input, Settings, addressed, is_open, with_settings, active, becomes, read_rbr, read_iir, receives, flushes}
use Rattle.serial.specs.Port.{emptied, write_ier, write_line, takes_none}
use Rattle.runs.specs.Run.{Op, read, write, input, room, raises_of, did_input, step}
use Rattle.runs.specs.Reachable.{Settled}
use Rattle.runs.specs.Told.{raised_from}
use Rattle.runs.proofs.Effects.{returned, read_cases, write_cases, input_cases}
use Rattle.runs.proofs.Status.{some_more}

-- ---- What is new from one to another and on to a third

grown : (a b c : Bool) → (a ≡ true → b ≡ true) → (b ≡ true → c ≡ true) → newly a b + newly b c ≡ newly a c
grown true true true h k = refl
grown true true false h k = absurd (false≢true (k refl))
grown true false c h k = absurd (false≢true (h refl))
grown false true true h k = refl
grown false true false h k = absurd (false≢true (k refl))
grown false false true h k = refl
grown false false false h k = refl

none_new : (a b : Bool) → (b ≡ true → a ≡ true) → newly a b ≡ 0
none_new true b h = refl
none_new false true h = absurd (false≢true (h refl))
none_new false false h = refl

none_from : (p q : Port) → ((kind : Kind) → active q kind ≡ true → active p kind ≡ true) → raised_from p q ≡ 0
none_from p q h =
    omega (
      arith,
      none_new (active p received_data) (active q received_data) (h received_data),
      none_new (active p transmitter_empty) (active q transmitter_empty) (h transmitter_empty),
    )

grown_from : (p q r : Port) → ((kind : Kind) → active p kind ≡ true → active q kind ≡ true)
    → ((kind : Kind) → active q kind ≡ true → active r kind ≡ true)
    → raised_from p q + raised_from q r ≡ raised_from p r
grown_from p q r h k =
    omega (
      arith,
      grown (active p received_data) (active q received_data) (active r received_data) (h received_data) (k received_data),
      grown (active p transmitter_empty) (active q transmitter_empty) (active r transmitter_empty) (h transmitter_empty) (k transmitter_empty),
    )

-- ---- What is stored is settled

settled_twice : (ier iir : ℕ) (waits : Bool) → settled ier iir waits ≡ settled ier (settled ier iir waits) waits
unfolding settled
settled_twice ier iir waits = go (on ier 0x01) (on ier 0x02) (on iir 0x02) waits
  where
    go : (r t s w : Bool) → let byte : ℕ = cond (r && w) (cond (t && s) 0x06 0x04) (cond (t && s) 0x02 0x01) in
        byte ≡ cond (r && w) (cond (t && on byte 0x02) 0x06 0x04) (cond (t && on byte 0x02) 0x02 0x01)
    go true true true true = refl
    go true true true false = refl
    go true true false true = refl
    go true true false false = refl
    go true false s true = refl
    go true false s false = refl
    go false true true w = refl
    go false true false w = refl
    go false false s w = refl

-- ---- Bytes come

module _ (p : Port) (l : List ℕ) (s : some l ≡ true) where
  come : some (p.waiting ++ l) ≡ true
  come = some_more p.waiting l s

  came_raises : (receives p l).raises ≡ raised_from p (receives p l).port
  unfolding receives
  came_raises = rw come refl

  came_active : (kind : Kind) → active p kind ≡ true → active (receives p l).port kind ≡ true
  unfolding receives
  came_active received_data h = both_are (both_true (on p.settings.ier 0x01) (some p.waiting) h).0 come
  came_active transmitter_empty h = go (some p.waiting) h
    where
      go : (w : Bool) → is_active p.settings.ier p.iir w transmitter_empty ≡ true
          → is_active p.settings.ier (cond w p.iir (settled p.settings.ier p.iir true)) w transmitter_empty ≡ true
      go true k = k
      go false k = settled_keeps p.settings.ier p.iir true ∙ k

  came_settled : Settled p → Settled (receives p l).port
  unfolding receives
  came_settled k = rw come (go (some p.waiting) k)
    where
      go : (w : Bool) → p.iir ≡ settled p.settings.ier p.iir w
          → let iir = cond w p.iir (settled p.settings.ier p.iir true) in iir ≡ settled p.settings.ier iir true
      go true k = k
      go false k = settled_twice p.settings.ier p.iir true

-- ---- The transmitter is empty

module _ (p : Port) where
  emptied_active : (kind : Kind) → active p kind ≡ true → active (emptied p) kind ≡ true
  emptied_active received_data h = h
  emptied_active transmitter_empty h =
      let e = (both_true (on p.settings.ier 0x02) (on p.iir 0x02) h).0 in
      ap (λ (iir : ℕ). is_active p.settings.ier iir (some p.waiting) transmitter_empty) (told e)
      ∙ set_active p.settings.ier p.iir (some p.waiting) ∙ e
    where
      told : on p.settings.ier 0x02 ≡ true → let new = settled p.settings.ier (bit_or p.iir 0x02) (some p.waiting) in
          cond (on p.settings.ier 0x02) new p.iir ≡ new
      told e = rw e

  emptied_settled : Settled p → Settled (emptied p)
  emptied_settled k = go (on p.settings.ier 0x02)
    where
      go : (e : Bool) → let iir = cond e (settled p.settings.ier (bit_or p.iir 0x02) (some p.waiting)) p.iir in
          iir ≡ settled p.settings.ier iir (some p.waiting)
      go true = settled_twice p.settings.ier (bit_or p.iir 0x02) (some p.waiting)
      go false = k

  -- ---- RBR and IIR are read

  tail_waits : (q : List ℕ) → some (tail q) ≡ true → some q ≡ true
  tail_waits [] h = h
  tail_waits (x ∷ q) h = refl

  read_active : (kind : Kind) → active (read_rbr p).port kind ≡ true → active p kind ≡ true
  read_active received_data h =
      let e = on p.settings.ier 0x01 in
      let w = some (tail p.waiting) in
      let k = both_true e w h in
      both_are k.0 (tail_waits p.waiting k.1)
  read_active transmitter_empty h = go (some (tail p.waiting)) h
    where
      go : (w : Bool) → is_active p.settings.ier (cond w p.iir (settled p.settings.ier p.iir false)) w transmitter_empty ≡ true
          → is_active p.settings.ier p.iir w transmitter_empty ≡ true
      go true k = k
      go false k = sym (settled_keeps p.settings.ier p.iir false) ∙ k

  read_settled : Settled p → Settled (read_rbr p).port
  read_settled k = go (some (tail p.waiting)) refl
    where
      go : (w : Bool) → some (tail p.waiting) ≡ w
          → let iir = cond w p.iir (settled p.settings.ier p.iir false) in iir ≡ settled p.settings.ier iir w
      go true e = k ∙ ap (settled p.settings.ier p.iir) (tail_waits p.waiting e)
      go false e = settled_twice p.settings.ier p.iir false

  -- ---- FCR empties the receiver

  module _ (s : Settings) (e : s.ier ≡ p.settings.ier) where
    flush_active : (kind : Kind) → active (flushes (with_settings p s)).port kind ≡ true → active p kind ≡ true
    flush_active received_data h = absurd (false≢true (both_true (on s.ier 0x01) false h).1)
    flush_active transmitter_empty h = rw (← e) (sym (settled_keeps s.ier p.iir false) ∙ h)

    flush_settled : Settled (flushes (with_settings p s)).port
    flush_settled = settled_twice s.ier p.iir false

  identified_active : (kind : Kind) → active (read_iir p).port kind ≡ true → active p kind ≡ true
  identified_active received_data h = h
  identified_active transmitter_empty h = go (eqb (code p.settings.ier p.iir (some p.waiting)) 0x02) h
    where
      go : (t : Bool) → is_active p.settings.ier (cond t none_pending p.iir) (some p.waiting) transmitter_empty ≡ true
          → is_active p.settings.ier p.iir (some p.waiting) transmitter_empty ≡ true
      go true k = absurd (false≢true (both_true (on p.settings.ier 0x02) false k).1)
      go false k = k

  identified_settled : Settled p → Settled (read_iir p).port
  unfolding code settled
  identified_settled k = go (on p.settings.ier 0x01 && some p.waiting) (on p.settings.ier 0x02) (on p.iir 0x02) k
    where
      go : (d t s : Bool) → p.iir ≡ cond d (cond (t && s) 0x06 0x04) (cond (t && s) 0x02 0x01)
          → let iir = cond (eqb (cond d 0x04 (cond (t && s) 0x02 0x01)) 0x02) 0x01 p.iir in
          iir ≡ cond d (cond (t && on iir 0x02) 0x06 0x04) (cond (t && on iir 0x02) 0x02 0x01)
      go true true true e = rw e refl
      go true true false e = rw e refl
      go true false s e = rw e refl
      go false true true e = refl
      go false true false e = rw e refl
      go false false s e = rw e refl

-- ---- Every operation

-- How often it raises.
module _ (p : Port) where
  abbrev Exactly : Out → Type 0
  Exactly o = o.raises ≡ raised_from p o.port

  nothing : (s : Settings) → s.ier ≡ p.settings.ier → Exactly (becomes (with_settings p s))
  nothing s e = sym (rw e (none_from p p (λ kind h. h)))

  looped : (v : ℕ) → Exactly (returned p v)
  looped v =
      rw (came_raises (emptied p) (v ∷ []) refl)
      (grown_from p (emptied p) (receives (emptied p) (v ∷ [])).port (emptied_active p) (came_active (emptied p) (v ∷ []) refl))

  sent_raises : (v : ℕ) → Exactly (write_line p v)
  unfolding write_line
  sent_raises v = refl

  enabled_raises : (v : ℕ) → Exactly (write_ier p v)
  unfolding write_ier
  enabled_raises v = refl

  taken_none : (f : Bool) → raises_of (did_input (takes_none p f)).answer ≡ raised_from p p
  taken_none true = sym (none_from p p (λ kind h. h))
  taken_none false = sym (none_from p p (λ kind h. h))

  pub raises_exactly : (o : Op) → raises_of (step p o).answer ≡ raised_from p (step p o).port
  unfolding step
  raises_exactly (read offset) =
      read_cases Exactly p (sym (none_from p (read_rbr p).port (read_active p))) (sym (none_from p (read_iir p).port (identified_active p)))
      (λ v. sym (none_from p p (λ kind h. h))) (addressed (is_open p) offset)
  raises_exactly (write offset v) =
      write_cases Exactly p v (λ h. looped v) (omega arith) (sent_raises v) (enabled_raises v) nothing (λ s e. sym (none_from p (flushes (with_settings p s)).port (flush_active p s e)))
      (addressed (is_open p) offset)
  raises_exactly (input bytes) =
      input_cases (λ (i : Input). raises_of (did_input i).answer ≡ raised_from p i.port) p bytes taken_none (λ s h. came_raises p _ s)
  raises_exactly room = sym (none_from p p (λ kind h. h))

-- IIR stays settled.
module _ (p : Port) (k : Settled p) where
  abbrev Fine : Out → Type 0
  Fine o = Settled o.port

  sent_settled : (v : ℕ) → Fine (write_line p v)
  unfolding write_line
  sent_settled v = emptied_settled p k

  enabled_settled : (v : ℕ) → Fine (write_ier p v)
  unfolding write_ier
  enabled_settled v = settled_twice _ (bit_or p.iir 0x02) (some p.waiting)

  stored_settled : (s : Settings) → s.ier ≡ p.settings.ier → Fine (becomes (with_settings p s))
  stored_settled s e = rw e k

  pub stays_settled : (o : Op) → Settled (step p o).port
  unfolding step
  stays_settled (read offset) = read_cases Fine p (read_settled p k) (identified_settled p k) (λ v. k) (addressed (is_open p) offset)
  stays_settled (write offset v) =
      write_cases Fine p v (λ h. came_settled (emptied p) (v ∷ []) refl (emptied_settled p k)) (emptied_settled p k) (sent_settled v)
      (enabled_settled v) stored_settled (λ s e. flush_settled p s e)
      (addressed (is_open p) offset)
  stays_settled (input bytes) = input_cases (λ (i : Input). Settled i.port) p bytes (λ f. k) (λ s h. came_settled p _ s k)
  stays_settled room = k
