-- What each answer is in the definition where bytes come to the receiver.
use mathlib.Core.Path.{◌≡◌, refl, sym, ap, ◌∙◌}
use mathlib.Core.Bool.{Bool, true, false}
use mathlib.Core.List.{List, ◌++◌}
use Prim.Native.Nat.{ℕ, ◌+◌, ◌-◌, ◌*◌, ◌≤◌, ◌<◌, min}
use native.Mathlib.Omega.{arith}
use lib.ListN.{length, get_or, set, take}
use lib.Seq.{drop-set-lt}
use borrow.Author.Tests.{eq-eqb, ne_eqb, lt-ltb, le-ltb}
use Rattle.interrupts.specs.Interrupts.{data_came}
use Rattle.serial.specs.Port.{Port, in_loop, has_room, room_of, receives, input_of}
use Rattle.serial.specs.Layout.{places, size_of, start_of, count_of, port_of, unused_of, spare_positions}
use Rattle.common.specs.Answer.{one_raise}
use Rattle.serial.specs.Calls.{Answers, TakesInput, HasSize, HasRoom}
use Rattle.ring.specs.Ring.{Put}
use Rattle.serial.specs.Inside.{Received}
use Rattle.serial.proofs.Leaves.{waits_is}
use Rattle.serial.proofs.Sizes.{size_few, counts_itself}
use Rattle.serial.proofs.Registers.{Stored, one_stored, then_stored, receiver, counted}
use Rattle.serial.proofs.Answering.{waiting_length, as_it_was, other_count}

-- ---- Size and room

pub size_is : (regs : List ℕ) (r : ℕ) → r ≡ size_of regs → HasSize regs r
unfolding port_of
size_is regs r e pos ring = e

module _ (regs pos : List ℕ) where
  pub room_is : (r : ℕ) → r ≡ size_of regs - get_or pos 1 0 → HasRoom regs pos r
  unfolding port_of
  room_is r e ring = omega (arith, waiting_length regs pos ring, size_few regs)

-- k of len bytes are taken
fits : (size n k len : ℕ) → n < size → size ≤ places → k ≡ min (size - n) len → n + k ≤ places
fits size n k len h g f = omega arith

some_fit : (size n k len : ℕ) → n < size → k ≡ min (size - n) len → n + k ≡ n → len ≡ 0
some_fit size n k len h f e = omega arith

module _ (regs pos ring : List ℕ) where
  pub full : size_of regs ≤ get_or pos 1 0 → has_room (port_of regs pos ring) ≡ false
  unfolding port_of
  full e = rw (waiting_length regs pos ring) (le-ltb (count_of pos) (size_of regs) (omega (arith, size_few regs)))

  pub not_full : get_or pos 1 0 < size_of regs → has_room (port_of regs pos ring) ≡ true
  unfolding port_of
  not_full d = rw (waiting_length regs pos ring) (lt-ltb (count_of pos) (size_of regs) (omega (arith, counts_itself regs pos d)))

module _ (regs pos ring : List ℕ) (n : ℕ) (c : n ≡ count_of pos) where
  abbrev p : Port
  p = port_of regs pos ring

  -- ---- Bytes have come

  module _ (l : length regs ≡ 16) (m : length pos ≡ 4) (k : ℕ) (h : k ≤ places) {bytes regs' pos' ring' : List ℕ} {raises : ℕ}
      (put : Put places ring (start_of pos) n bytes ring' k) (got : Received regs pos k regs' pos' raises) where
    pub there : (start_of (set pos 1 k) ≡ start_of pos) × (count_of (set pos 1 k) ≡ k)
    there = counted pos k m h

    pub came : port_of regs' pos' ring' ≡ (receives p bytes).port
    unfolding port_of receives
    came =
        rw (got.stored, got.counted, sym (waits_is regs pos ring))
        (receiver regs pos ring l _ _ (set pos 1 k) ring' {waiting = p.waiting ++ bytes} (rw (there.0, there.1, put.behind, c)))

    pub unused_kept : unused_of pos' ring' ≡ unused_of pos' ring
    unused_kept = rw (got.counted, there.0, there.1) put.rest

    pub stored : Stored regs regs'
    stored = rw got.stored (then_stored 5 _ (omega arith) (one_stored regs 2 _ (omega arith)))

    pub moved : spare_positions pos' ≡ spare_positions pos
    moved = rw got.counted (drop-set-lt 2 pos 1 k (omega arith))

    pub received : (r word : ℕ) → (k ≡ n → ⊥) → r ≡ word → Answers regs pos ring regs' pos' ring' r (receives p bytes).port word
    received r word d a =
        other_count came unused_kept stored moved (λ same. d (sym there.1 ∙ ap count_of (sym got.counted) ∙ same ∙ sym c)) a

    pub raised : raises ≡ (receives p bytes).raises
    unfolding port_of receives
    raised = got.raised ∙ ap (λ (waits : Bool). (data_came (get_or regs 1 0) (get_or regs 2 0) waits).raises) (sym (waits_is regs pos ring))

-- ---- From the line

module _ (regs pos ring : List ℕ) where
  abbrev q : Port
  q = port_of regs pos ring

  pub line_cut : (input : List ℕ) → in_loop q ≡ true → TakesInput (λ q. input_of q input) regs pos ring regs pos ring 0
  unfolding input_of
  line_cut input o = rw o (as_it_was refl refl)

  module _ (input : List ℕ) (o : in_loop q ≡ false) where
    pub line_idle : length input ≡ 0 → TakesInput (λ q. input_of q input) regs pos ring regs pos ring 0
    unfolding input_of
    line_idle z = rw (o, eq-eqb _ _ z) (as_it_was refl refl)

    module _ (z : length input ≡ 0 → ⊥) where
      pub line_full : size_of regs ≤ get_or pos 1 0 → TakesInput (λ q. input_of q input) regs pos ring regs pos ring 0x1_0000
      unfolding input_of
      line_full e = rw (o, ne_eqb _ _ z, full regs pos ring e) (as_it_was refl refl)

      pub line_receives : (l : length regs ≡ 16) (m : length pos ≡ 4) (n k : ℕ) {regs' pos' ring' : List ℕ} {raises r : ℕ} → n ≡ get_or pos 1 0
          → n < size_of regs → k ≡ min (size_of regs - n) (length input)
          → Put places ring (start_of pos) n (take k input) ring' (n + k) → Received regs pos (n + k) regs' pos' raises
          → r ≡ k + one_raise * raises
          → TakesInput (λ q. input_of q input) regs pos ring regs' pos' ring' r
      unfolding input_of port_of
      line_receives l m n k {raises = raises} {r = r} here d f put got e =
          let room : get_or pos 1 0 < size_of regs = rw (← here) d in
          let c : n ≡ count_of pos = here ∙ counts_itself regs pos room in
          let h : n + k ≤ places = fits (size_of regs) n k (length input) d (size_few regs) f in
          let taken : k ≡ min (room_of q) (length input) = rw (waiting_length regs pos ring, sym c) f in
          rw (o, ne_eqb _ _ z, not_full regs pos ring room, sym taken)
          (received regs pos ring n c l m (n + k) h put got r _ (λ x. z (some_fit (size_of regs) n k (length input) d f x))
          (rw (e, raised regs pos ring n c l m (n + k) h put got) (omega arith)))
