-- Which runs can be written as bytes: those of bytes whose inputs have fewer than 65,536, and no others.
use mathlib.Core.Path.{◌≡◌, refl}
use mathlib.Core.Bool.{Bool, true, false, cond, ◌&&◌}
use mathlib.Core.List.{List, [], ◌∷◌, ◌++◌}
use Prim.Native.Nat.{ℕ, ◌+◌, ◌*◌, ◌<◌, ◌≤◌}
use native.Mathlib.Omega.{arith}
use lib.ListN.{length, take, drop, length-take}
use lib.Dec.{eqb, leb, lit<}
use Rattle.common.specs.Lists.{some}
use Rattle.common.specs.Bytes.{Bytes}
use Rattle.common.proofs.Bytes.{bytes_take, bytes_drop}
use Rattle.runs.specs.Run.{Op, read, write, input, room}
use Rattle.play.specs.Play.{input_bytes, op_of, Decoded, malformed, asks, before, decode, encode_op, encode, offered, all_offered}
use Rattle.play.specs.Play.{Writable, AllWritable, WrittenAs}
use Rattle.play.proofs.Decoding.{decodes}

-- ---- They are written as bytes

bytes_append : (a b : List ℕ) → Bytes a → Bytes b → Bytes (a ++ b)
bytes_append [] b x y = y
bytes_append (c ∷ a) b x y = (x.0, bytes_append a b x.1 y)

op_bytes : (o : Op) → Writable o → Bytes (encode_op o)
op_bytes (read offset) w = (lit< tt, (w, (lit< tt, tt)))
op_bytes (write offset value) w = (lit< tt, (w.0, (w.1, tt)))
op_bytes (input bytes) w = (lit< tt, (omega arith, (omega (arith, w.0), tt)))
op_bytes room w = (lit< tt, (lit< tt, (lit< tt, tt)))

offered_bytes : (o : Op) → Writable o → Bytes (offered o)
offered_bytes (read offset) w = tt
offered_bytes (write offset value) w = tt
offered_bytes (input bytes) w = w.1
offered_bytes room w = tt

all_bytes : (os : List Op) → AllWritable os → Bytes (encode os) × Bytes (all_offered os)
all_bytes [] w = (tt, tt)
all_bytes (o ∷ os) w =
    let k = all_bytes os w.1 in
    (bytes_append (encode_op o) (encode os) (op_bytes o w.0) k.0, bytes_append (offered o) (all_offered os) (offered_bytes o w.0) k.1)

pub can_be_written : (os : List Op) → AllWritable os → WrittenAs os (encode os) (all_offered os)
can_be_written os w = let k = all_bytes os w in record { ops_bytes = k.0; inputs_bytes = k.1; meant = decodes os }

-- ---- No others are

op_writable : (kind a b : ℕ) (bytes : List ℕ) → a < 256 → b < 256 → length bytes ≤ input_bytes kind a b → Bytes bytes
    → Writable (op_of kind a b bytes)
op_writable kind a b bytes x y = go (eqb kind 0) (eqb kind 1) (eqb kind 2)
  where
    go : (r w i : Bool) → length bytes ≤ cond i (a + 256 * b) 0 → Bytes bytes
        → Writable (cond r (read a) (cond w (write a b) (cond i (input bytes) room)))
    go true w i l k = x
    go false true i l k = (x, y)
    go false false true l k = (omega arith, k)
    go false false false l k = tt

read_writable : (ops inputs : List ℕ) (os : List Op) → Bytes ops → Bytes inputs → decode ops inputs ≡ asks os → AllWritable os
unfolding decode
read_writable [] inputs os x y e = go (some inputs) e
  where
    go : (t : Bool) → cond t malformed (asks []) ≡ asks os → AllWritable os
    go true e = absurd (let z : ◌≡◌ {A = ℕ} 0 1 = cc in omega arith)
    go false e = let z : os ≡ [] = cc in rw z tt
read_writable (kind ∷ []) inputs os x y e = absurd (let z : ◌≡◌ {A = ℕ} 0 1 = cc in omega arith)
read_writable (kind ∷ a ∷ []) inputs os x y e = absurd (let z : ◌≡◌ {A = ℕ} 0 1 = cc in omega arith)
read_writable (kind ∷ a ∷ b ∷ rest) inputs os x y e =
    let n = input_bytes kind a b in
    go (leb kind 3 && leb n (length inputs)) (decode rest (drop n inputs))
    (λ l f. read_writable rest (drop n inputs) l x.1.1.1 (bytes_drop n inputs y) f) e
  where
    first : Writable (op_of kind a b (take (input_bytes kind a b) inputs))
    first =
        op_writable kind a b (take (input_bytes kind a b) inputs) x.1.0 x.1.1.0 (simp length-take (omega arith))
        (bytes_take (input_bytes kind a b) inputs y)

    go : (t : Bool) (d : Decoded) → ((l : List Op) → d ≡ asks l → AllWritable l)
        → cond t (before (op_of kind a b (take (input_bytes kind a b) inputs)) d) malformed ≡ asks os → AllWritable os
    go true malformed h e = absurd (let z : ◌≡◌ {A = ℕ} 0 1 = cc in omega arith)
    go true (asks l) h e =
        let z : os ≡ op_of kind a b (take (input_bytes kind a b) inputs) ∷ l = cc in
        rw z (first, h l refl)
    go false d h e = absurd (let z : ◌≡◌ {A = ℕ} 0 1 = cc in omega arith)

pub only_these : {os : List Op} {ops inputs : List ℕ} → WrittenAs os ops inputs → AllWritable os
only_these {os} {ops} {inputs} w = read_writable ops inputs os w.ops_bytes w.inputs_bytes w.meant
