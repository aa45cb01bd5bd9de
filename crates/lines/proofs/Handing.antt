-- What a line that names the serial port is; and that one list is put behind another in one way.
use Prim.Native.Nat.{ℕ, ◌≤◌}
use mathlib.Core.Path.{◌≡◌, refl, sym, ap, ◌∙◌}
use mathlib.Core.Bool.{Bool, true, false, cond}
use mathlib.Core.List.{List, ◌++◌}
use native.Mathlib.Omega.{arith}
use Rattle.std.specs.Prelude.{Option, Some, None}
use lib.ListN.{length, drop}
use lib.Seq.{drop-append_seam}
use Rattle.pieces.specs.declared.cut.Kind.{Kind}
use Rattle.pieces.specs.declared.cut.Kind.TheVariants.{Silent, TooLong, Whole}
use Rattle.serial.specs.Port.{is_size}
use Rattle.words.specs.Pattern.{fits_of}
use Rattle.words.specs.Text.{text}
use Rattle.words.proofs.Patterns.{same_length}
use Rattle.lines.specs.Handing.{size_named, named_by, names_serial, named_task, task_of}
use Rattle.lines.specs.declared.devices.Device.{Device}
use Rattle.lines.specs.declared.devices.Task.TheVariants.{NamesReset, NamesClock, NamesSerial}

-- A line names a size with which a port is made, and is short.
pub record Names (line : List ℕ) (size : ℕ) : Type 0 where
  pub made : is_size size ≡ true
  pub short : length line ≤ 11

abbrev MayName : List ℕ → Option ℕ → Type 0
MayName line (Some size) = Names line size
MayName line None = Unit {0}

module _ (line : List ℕ) where
  row : (name : List ℕ) (size : ℕ) (other : Option ℕ) → length name ≤ 11 → is_size size ≡ true → MayName line other
      → MayName line (cond (fits_of name line) (Some size) other)
  row name size other h s o = go (fits_of name line) refl
    where
      go : (b : Bool) → fits_of name line ≡ b → MayName line (cond b (Some size) other)
      go true e = record { made = s; short = rw (same_length name line e) h }
      go false e = o

  names : MayName line (size_named line)
  unfolding size_named
  names =
      row (text "serial") 64 _ (omega arith) refl (row (text "serial 16") 16 _ (omega arith) refl (row (text "serial 32") 32 _ (omega arith) refl
      (row (text "serial 64") 64 _ (omega arith) refl (row (text "serial 128") 128 _ (omega arith) refl
      (row (text "serial 256") 256 _ (omega arith) refl (row (text "serial 512") 512 _ (omega arith) refl
      (row (text "serial 1024") 1024 None (omega arith) refl tt)))))))

  by_name : (reset clock : Bool) (named : Option ℕ) (current : Option Device) {size : ℕ} → MayName line named
      → NamesSerial size ≡ named_task (cond reset (Some NamesReset) (cond clock (Some NamesClock) (names_serial named))) current
      → Names line size
  by_name true clock named current n e = cc
  by_name false true named current n e = cc
  by_name false false (Some named) current {size} n e = let z : named ≡ size = cc in rw z at n
  by_name false false None (Some device) n e = cc
  by_name false false None None n e = cc

  pub names_size : (kind : Kind) (current : Option Device) {size : ℕ} → NamesSerial size ≡ task_of line kind current → Names line size
  unfolding named_by
  names_size Silent current e = cc
  names_size TooLong current e = cc
  names_size Whole current e = by_name (fits_of (text "i8042") line) (fits_of (text "clock") line) (size_named line) current names e

-- What was put behind a list is one list.
pub said_once : (out : List ℕ) {out' a b : List ℕ} → out' ≡ out ++ a → out' ≡ out ++ b → a ≡ b
said_once out {a = a} {b = b} p q =
    sym (drop-append_seam out a) ∙ ap (λ (l : List ℕ). drop (length out) l) (sym p ∙ q) ∙ drop-append_seam out b
