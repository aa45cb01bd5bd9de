-- Reading a run's operations from bytes, three at a time.
use mathlib.Core.Path.{◌≡◌, refl, sym, ap, ◌∙◌}
use mathlib.Core.Bool.{Bool, true, false, cond, ◌&&◌}
use mathlib.Core.List.{List, [], ◌∷◌, ◌++◌}
use Prim.Native.Nat.{ℕ, suc, ◌+◌, ◌-◌, ◌*◌, ◌/◌, ◌%◌, ◌<◌, ◌≤◌}
use native.Mathlib.Numerals.{add-one, add-two, add-three}
use native.Mathlib.Omega.{arith}
use lib.ListN.{length, get_or, take, drop, length-append, length-drop, drop_of_length-le}
use lib.Seq.{drop-cons, drop-drop, take-append_seam, drop-append_seam}
use lib.Dec.{eqb, leb, lit≤}
use borrow.Author.Tests.{le-leb, lt-leb, eq-eqb, ne_eqb}
use Rattle.common.specs.Lists.{some}
use Rattle.runs.specs.Run.{Op, read, write, input, room}
use Rattle.play.specs.declared.Kind as code
use Rattle.play.specs.declared.Kind.TheVariants.{Read, Write, Input, Room}
use Rattle.play.specs.Kinds.{number_of}
use Rattle.play.specs.Play.{input_bytes, op_of, Decoded, malformed, asks, before, decode, encode_op, encode, offered, all_offered, is_run}

-- ---- One operation

and_false : (t : Bool) → (t && false) ≡ false
and_false true = refl
and_false false = refl

module _ (kind a b : ℕ) (rest inputs : List ℕ) where
  pub decode_on : kind ≤ 3 → input_bytes kind a b ≤ length inputs
      → decode (kind ∷ a ∷ b ∷ rest) inputs ≡ before (op_of kind a b (take (input_bytes kind a b) inputs)) (decode rest (drop (input_bytes kind a b) inputs))
  unfolding decode
  decode_on h k = rw (le-leb kind 3 h, le-leb (input_bytes kind a b) (length inputs) k)

  pub decode_kind : 3 < kind → decode (kind ∷ a ∷ b ∷ rest) inputs ≡ malformed
  unfolding decode
  decode_kind h = rw (lt-leb kind 3 h)

  pub decode_short : length inputs < input_bytes kind a b → decode (kind ∷ a ∷ b ∷ rest) inputs ≡ malformed
  unfolding decode
  decode_short h = rw (lt-leb (input_bytes kind a b) (length inputs) h, and_false (leb kind 3))

pub before_is_run : (o : Op) (d : Decoded) → is_run (before o d) ≡ is_run d
before_is_run o malformed = refl
before_is_run o (asks os) = refl

-- a run has three bytes for each of its operations
pub decode_length : (ops inputs : List ℕ) (os : List Op) → decode ops inputs ≡ asks os → length ops ≡ 3 * length os
unfolding decode
decode_length [] inputs os e = go (some inputs) e
  where
    go : (t : Bool) → cond t malformed (asks []) ≡ asks os → 0 ≡ 3 * length os
    go true e = let z : ◌≡◌ {A = ℕ} 0 1 = cc in omega arith
    go false e = let z : os ≡ [] = cc in rw z
decode_length (kind ∷ []) inputs os e = let z : ◌≡◌ {A = ℕ} 0 1 = cc in omega arith
decode_length (kind ∷ a ∷ []) inputs os e = let z : ◌≡◌ {A = ℕ} 0 1 = cc in omega arith
decode_length (kind ∷ a ∷ b ∷ rest) inputs os e =
    let n = input_bytes kind a b in
    go (leb kind 3 && leb n (length inputs)) (decode rest (drop n inputs)) (decode_length rest (drop n inputs)) e
  where
    go : (t : Bool) (d : Decoded) → ((l : List Op) → d ≡ asks l → length rest ≡ 3 * length l)
        → cond t (before (op_of kind a b (take (input_bytes kind a b) inputs)) d) malformed ≡ asks os
        → suc (suc (suc (length rest))) ≡ 3 * length os
    go true malformed h e = let z : ◌≡◌ {A = ℕ} 0 1 = cc in omega arith
    go true (asks l) h e =
        let z : os ≡ op_of kind a b (take (input_bytes kind a b) inputs) ∷ l = cc in
        rw z (omega (arith, h l refl))
    go false d h e = let z : ◌≡◌ {A = ℕ} 0 1 = cc in omega arith

-- ---- As far as the place `at` in the operations and `from` in the inputs

-- three bytes of the list are the next operation
pub three : (l : List ℕ) (at : ℕ) → at + 3 ≤ length l → drop at l ≡ get_or l at 0 ∷ get_or l (at + 1) 0 ∷ get_or l (at + 2) 0 ∷ drop (at + 3) l
three l at h =
    drop-cons l at 0 (omega arith)
    ∙ ap (λ (t : List ℕ). get_or l at 0 ∷ t) (rw (add-one at, add-two at, add-three at) (drop-cons l (suc at) 0 (omega arith)
    ∙ ap (λ (t : List ℕ). get_or l (suc at) 0 ∷ t) (drop-cons l (suc (suc at)) 0 (omega arith))))

-- the operation there, and how many of the inputs it takes
abbrev pub takes_at : List ℕ → ℕ → ℕ
takes_at ops at = input_bytes (get_or ops at 0) (get_or ops (at + 1) 0) (get_or ops (at + 2) 0)

abbrev pub op_at : List ℕ → List ℕ → ℕ → ℕ → Op
op_at ops inputs at from = op_of (get_or ops at 0) (get_or ops (at + 1) 0) (get_or ops (at + 2) 0) (take (takes_at ops at) (drop from inputs))

module _ (ops inputs : List ℕ) (at from : ℕ) (whole : at + 3 ≤ length ops) where
  decode_at : decode (drop at ops) (drop from inputs)
      ≡ decode (get_or ops at 0 ∷ get_or ops (at + 1) 0 ∷ get_or ops (at + 2) 0 ∷ drop (at + 3) ops) (drop from inputs)
  decode_at = ap (λ (l : List ℕ). decode l (drop from inputs)) (three ops at whole)

  pub bad_kind_at : 3 < get_or ops at 0 → decode (drop at ops) (drop from inputs) ≡ malformed
  bad_kind_at h = decode_at ∙ decode_kind _ _ _ _ _ h

  pub short_at : length inputs - from < takes_at ops at → decode (drop at ops) (drop from inputs) ≡ malformed
  short_at h = decode_at ∙ decode_short _ _ _ _ _ (rw (length-drop from inputs) h)

  pub next_at : get_or ops at 0 ≤ 3 → takes_at ops at ≤ length inputs - from
      → decode (drop at ops) (drop from inputs) ≡ before (op_at ops inputs at from) (decode (drop (at + 3) ops) (drop (from + takes_at ops at) inputs))
  next_at h k =
      decode_at ∙ decode_on _ _ _ _ _ h (rw (length-drop from inputs) k)
      ∙ ap (λ (l : List ℕ). before (op_at ops inputs at from) (decode (drop (at + 3) ops) l)) (drop-drop (takes_at ops at) from inputs)

-- ---- Whether the bytes are a run turns on what is left of them

pub record Scanned (ops inputs : List ℕ) (at from : ℕ) : Type 0 where
  pub thirds : at % 3 ≡ 0
  pub within : at ≤ length ops
  pub inside : from ≤ length inputs
  pub same : is_run (decode ops inputs) ≡ is_run (decode (drop at ops) (drop from inputs))

pub scanned_none : (ops inputs : List ℕ) → Scanned ops inputs 0 0
scanned_none ops inputs = record { thirds = refl; within = omega arith; inside = omega arith; same = refl }

pub uneven : (ops inputs : List ℕ) → (length ops % 3 ≡ 0 → ⊥) → false ≡ is_run (decode ops inputs)
uneven ops inputs h = go (decode ops inputs) (decode_length ops inputs)
  where
    go : (d : Decoded) → ((os : List Op) → d ≡ asks os → length ops ≡ 3 * length os) → false ≡ is_run d
    go malformed k = refl
    go (asks os) k = absurd (h (let e = k os refl in omega arith))

module _ (ops inputs : List ℕ) (at from : ℕ) (s : Scanned ops inputs at from) (even : length ops % 3 ≡ 0) where
  pub whole : at < length ops → at + 3 ≤ length ops
  whole h = let t = s.thirds in omega arith

  pub scanned_kind : at < length ops → 3 < get_or ops at 0 → false ≡ is_run (decode ops inputs)
  scanned_kind m h = sym (s.same ∙ ap is_run (bad_kind_at ops inputs at from (whole m) h))

  pub scanned_short : at < length ops → length inputs - from < takes_at ops at → false ≡ is_run (decode ops inputs)
  scanned_short m h = sym (s.same ∙ ap is_run (short_at ops inputs at from (whole m) h))

  pub scanned_more : at < length ops → get_or ops at 0 ≤ 3 → takes_at ops at ≤ length inputs - from
      → Scanned ops inputs (at + 3) (from + takes_at ops at)
  scanned_more m h k = record {
    thirds = let t = s.thirds in omega arith;
    within = whole m;
    inside = let i = s.inside in omega arith;
    same = s.same ∙ ap is_run (next_at ops inputs at from (whole m) h k)
        ∙ before_is_run (op_at ops inputs at from) (decode (drop (at + 3) ops) (drop (from + takes_at ops at) inputs));
  }

  pub scanned_all : length ops ≤ at → eqb from (length inputs) ≡ is_run (decode ops inputs)
  unfolding decode
  scanned_all h =
      let i = s.inside in
      let l = length-drop from inputs in
      sym (s.same ∙ ap (λ (l : List ℕ). is_run (decode l (drop from inputs))) (drop_of_length-le ops h) ∙ go (drop from inputs) (omega arith))
    where
      go : (l : List ℕ) → length l + from ≡ length inputs → is_run (cond (some l) malformed (asks [])) ≡ eqb from (length inputs)
      go [] e = sym (eq-eqb from (length inputs) (omega arith))
      go (x ∷ l) e = sym (ne_eqb from (length inputs) (λ z. omega arith))

-- As the code goes on, by an operation of three bytes.
pub few : (kind : code.Kind) → number_of kind ≤ 3
few Read = omega arith
few Write = omega arith
few Input = omega arith
few Room = omega arith

module _ (ops inputs : List ℕ) (i from : ℕ) (s : Scanned ops inputs (3 * i) from) (even : length ops % 3 ≡ 0) (m : i < length ops / 3) where
  inside_ops : 3 * i < length ops
  inside_ops = omega arith

  pub scanned_no_kind : 3 < get_or ops (3 * i) 0 → false ≡ is_run (decode ops inputs)
  scanned_no_kind h = scanned_kind ops inputs (3 * i) from s even inside_ops h

  module _ {n : ℕ} (kind : code.Kind) (k : get_or ops (3 * i) 0 ≡ number_of kind)
      (e : n ≡ input_bytes (number_of kind) (get_or ops (3 * i + 1) 0) (get_or ops (3 * i + 2) 0)) where
    takes : n ≡ takes_at ops (3 * i)
    takes = rw (← k) at e

    pub scanned_few : length inputs - from < n → false ≡ is_run (decode ops inputs)
    scanned_few h = scanned_short ops inputs (3 * i) from s even inside_ops (rw takes at h)

    pub scanned_next : n ≤ length inputs - from → Scanned ops inputs (3 * (i + 1)) (from + n)
    scanned_next h =
        let t : 3 * (i + 1) ≡ 3 * i + 3 = omega arith in
        rw (t, takes) (scanned_more ops inputs (3 * i) from s even inside_ops (rw k (few kind)) (rw takes at h))

-- ---- What is written of a run is read as that run

decode_op : (o : Op) (rest more : List ℕ) → decode (encode_op o ++ rest) (offered o ++ more) ≡ before o (decode rest more)
decode_op (read offset) rest more = decode_on 0 offset 0 rest more (lit≤ tt) (omega arith)
decode_op (write offset value) rest more = decode_on 1 offset value rest more (lit≤ tt) (omega arith)
decode_op (input bytes) rest more =
    let n : length bytes % 256 + 256 * (length bytes / 256) ≡ length bytes = omega arith in
    let fits : length bytes % 256 + 256 * (length bytes / 256) ≤ length (bytes ++ more) = omega (arith, length-append bytes more) in
    decode_on 2 (length bytes % 256) (length bytes / 256) rest (bytes ++ more) (lit≤ tt) fits
    ∙ rw (n, take-append_seam bytes more, drop-append_seam bytes more)
decode_op room rest more = decode_on 3 0 0 rest more (lit≤ tt) (omega arith)

pub decodes : (os : List Op) → decode (encode os) (all_offered os) ≡ asks os
unfolding decode
decodes [] = refl
decodes (o ∷ os) = decode_op o (encode os) (all_offered os) ∙ ap (before o) (decodes os)
