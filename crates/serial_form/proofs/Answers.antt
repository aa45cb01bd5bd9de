-- What each return of the code is in the definition.
use mathlib.Core.Path.{◌≡◌, refl, sym, ap, ◌∙◌}
use mathlib.Core.List.{List, [], ◌∷◌, ◌++◌}
use Prim.Native.Nat.{ℕ, zero, suc, ◌+◌, ◌-◌, ◌≤◌, ◌<◌}
use native.Mathlib.Nat.{add-zero, zero-add}
use native.Mathlib.Omega.{arith}
use lib.ListN.{replicate, length, get_or, set, take, drop, length-drop, length-take}
use mathlib.Core.Bool.{Bool, true, false, cond, false≢true}
use mathlib.Core.Logic.{◌↔◌}
use lib.Seq.{sets, sets-eq, take_all, drop-cons}
use borrow.Author.Tests.{le-leb, lt-leb}
use Rattle.common.specs.Bytes.{bytes_of, value_of}
use Rattle.std.specs.Prelude.{Result, Ok, Err, IsErrAnd}
use Rattle.common.specs.Forms.{Reason, too_many, spare, refusal_word, word_of}
use Rattle.serial_form.specs.Form.{Version, version2, version3, number_of, form_by, form_of, Read, refused, saved_in, start, read_behind, read_version}
use Rattle.serial.specs.Layout.{places, size_of, spare_registers, fresh_spare_registers}
use Rattle.serial.proofs.Sizes.{size_few}
use Rattle.serial_form.specs.Calls.{written, may_wait, are_zero, has_no_spare, Encodes}
use Rattle.serial_form.specs.Inside.{Writes, Brings}
use Rattle.serial_form.proofs.RoundTrip.{ten, eleven, form_length_lem, nine_there, ten_there}
use Rattle.serial_form.proofs.Reading.{none_left, counted, count_found}

-- Stores from the first byte on.
pub sets_first : (bytes memory : List ℕ) → length bytes ≤ length memory → sets memory 0 bytes ≡ written bytes memory
sets_first bytes memory h =
    let room : 0 + length bytes ≤ length memory = omega arith in
    rw (sets-eq bytes memory 0 room, zero-add (length bytes))

-- All that lies from a place on, as a slice of the code.
behind : (form : List ℕ) (at : ℕ) → take (length form - at) (drop at form) ≡ drop at form
behind form at = take_all (length form - at) (drop at form) (omega (arith, length-drop at form))

-- ---- Writing

-- Stores one behind another.
sets_behind : (memory : List ℕ) (at : ℕ) (xs ys : List ℕ) → sets (sets memory at xs) (at + length xs) ys ≡ sets memory at (xs ++ ys)
sets_behind memory at [] ys = rw (add-zero at)
sets_behind memory at (x ∷ xs) ys =
    let e : at + suc (length xs) ≡ suc at + length xs = omega arith in
    rw e (sets_behind (set memory at x) (suc at) xs ys)

-- Whether the spare registers are 0, as the code finds it.
zeros : ℕ → List ℕ
zeros zero = []
zeros (suc n) = 0 ∷ zeros n

all_zero : (l : List ℕ) → are_zero l ≡ true → l ≡ zeros (length l)
unfolding zeros
all_zero [] e = refl
all_zero (zero ∷ l) e = ap (λ (k : List ℕ). 0 ∷ k) (all_zero l e)
all_zero (suc x ∷ l) e = absurd (false≢true e)

pub as_found : (saved : List ℕ) (r : Bool) → length saved ≡ 16 → (r ≡ true) ↔ (spare_registers saved ≡ fresh_spare_registers)
    → has_no_spare saved ≡ r
unfolding zeros
as_found saved r long found = go r (has_no_spare saved) refl refl
  where
    five : length (spare_registers saved) ≡ 5
    five = simp (length-take, length-drop) (omega arith)

    go : (t z : Bool) → r ≡ t → has_no_spare saved ≡ z → z ≡ t
    go true true e f = refl
    go true false e f = sym f ∙ ap are_zero (found.0 e)
    go false true e f = absurd (false≢true (sym e ∙ found.1 (all_zero (spare_registers saved) f ∙ ap zeros five)))
    go false false e f = refl

module _ (saved waiting form : List ℕ) (long : length saved ≡ 16) where
  pub writes : {form₁ form₂ form₃ form₄ form₅ : List ℕ} → form₁ ≡ sets form 0 (bytes_of 2 3) → form₂ ≡ sets form₁ 2 (take 10 saved)
      → form₃ ≡ sets form₂ 12 (take 1 (drop 15 saved)) → form₄ ≡ sets form₃ 13 (bytes_of 2 (length waiting))
      → form₅ ≡ sets form₄ 15 waiting
      → form₅ ≡ sets form 0 (form_of saved waiting)
  unfolding form_by number_of bytes_of
  writes e₁ e₂ e₃ e₄ e₅ =
      let start = sets form 0 (bytes_of 2 3) in
      let registers = take 10 saved ++ drop 15 saved in
      let last : sets (sets start 2 (take 10 saved)) 12 (drop 15 saved) ≡ sets start 2 registers = rw (ten saved long) at
      (sets_behind start 2 (take 10 saved) (drop 15 saved)) in
      rw (e₅, e₄, e₃, e₂, e₁, take_all 1 (drop 15 saved) (omega (arith, length-drop 15 saved)), last)
      (rw (eleven saved long) at (sets_behind start 2 registers (bytes_of 2 (length waiting) ++ waiting)))

  pub encode_tells : length waiting ≤ size_of saved → has_no_spare saved ≡ true → length form < 15 + length waiting
      → Writes saved waiting form form (Ok (15 + length waiting))
  encode_tells h z l =
      let short : length form < length (form_of saved waiting) = omega (arith, form_length_lem saved waiting long) in
      record { answer = rw (le-leb _ _ h, z) (sym (ap Ok (form_length_lem saved waiting long))); memory = rw (le-leb _ _ h, z, lt-leb _ _ short) }

  pub encode_writes : {form' : List ℕ} → length waiting ≤ size_of saved → has_no_spare saved ≡ true → 15 + length waiting ≤ length form
      → form' ≡ sets form 0 (form_of saved waiting)
      → Writes saved waiting form form' (Ok (15 + length waiting))
  encode_writes h z l e =
      let room : length (form_of saved waiting) ≤ length form = omega (arith, form_length_lem saved waiting long) in
      record {
        answer = rw (le-leb _ _ h, z) (sym (ap Ok (form_length_lem saved waiting long)));
        memory = rw (e, le-leb _ _ h, z, le-leb _ _ room) (sets_first (form_of saved waiting) form room);
      }

-- The call tells it by a word.
pub encodes : {saved waiting form form' : List ℕ} {r : Result ℕ Reason} {n : ℕ} → Writes saved waiting form form' r → n ≡ word_of r
    → Encodes saved waiting form form' n
encodes {saved} {waiting} w e = record {
  answer = e ∙ ap word_of w.answer ∙ go (may_wait saved waiting) (has_no_spare saved) (length (form_of saved waiting));
  memory = w.memory;
}
  where
    go : (a b : Bool) (n : ℕ)
        → word_of (cond a (cond b (Ok n) (Err spare)) (Err too_many)) ≡ cond a (cond b n (refusal_word spare)) (refusal_word too_many)
    go true true n = refl
    go true false n = refl
    go false b n = refl

-- ---- Reading

pub refuses : {o : Read} (reason : Reason) (saved waiting : List ℕ) → o ≡ refused reason
    → Brings o saved waiting saved waiting (Err reason)
refuses reason saved waiting e = rw e (record { answer = refl; registers = refl; bytes = refl })

-- By `?` a reason goes on as it is.
pub passes_on : {o : Read} {saved waiting : List ℕ} {reason found : Reason} {r : Result ℕ Reason} → o ≡ refused reason → found ≡ reason
    → IsErrAnd r (λ e. e ≡ found) → Brings o saved waiting saved waiting r
passes_on {r = Ok n} e f k = absurd k
passes_on {r = Err there} e f k = rw (k ∙ f) (refuses _ _ _ e)

pub goes_on : {o o' : Read} {saved waiting saved' waiting' : List ℕ} {r : Result ℕ Reason} → o ≡ o' → Brings o' saved waiting saved' waiting' r
    → Brings o saved waiting saved' waiting' r
goes_on e d = rw e d

module _ (registers : List ℕ) (n : ℕ) (bytes saved waiting : List ℕ) {saved' waiting' : List ℕ} where
  pub accepts : n ≤ size_of registers → length bytes ≡ n → length waiting ≡ places → saved' ≡ registers → waiting' ≡ sets waiting 0 bytes
      → Brings (read_behind registers n bytes) saved waiting saved' waiting' (Ok n)
  accepts h e w p q =
      let room : length bytes ≤ length waiting = omega (arith, size_few registers) in
      rw (none_left registers n bytes h e)
      (record {
        answer = ap Ok (sym e);
        registers = p;
        bytes = q ∙ sets_first bytes waiting room;
      })

-- What the code finds in a form: the registers, put into sixteen that are 0, the number, the bytes behind it.
abbrev sixteen : List ℕ
sixteen = replicate 16 0

module _ (form : List ℕ) {registers : List ℕ} where
  pub finds_2 : start version2 ≤ length form → registers ≡ sets sixteen 0 (take 9 (drop 2 form)) → registers ≡ saved_in version2 form
  unfolding saved_in start
  finds_2 h e =
      let nine : length (take 9 (drop 2 form)) ≡ 9 = nine_there form h in
      let room : length (take 9 (drop 2 form)) ≤ 16 = omega arith in
      e ∙ sets_first (take 9 (drop 2 form)) sixteen room ∙ rw nine refl

  pub finds_3 : start version3 ≤ length form → registers ≡ sets (set sixteen 15 (get_or form 12 0)) 0 (take 10 (drop 2 form))
      → registers ≡ saved_in version3 form
  unfolding saved_in start
  finds_3 h e =
      let ten : length (take 10 (drop 2 form)) ≡ 10 = ten_there form h in
      let room : length (take 10 (drop 2 form)) ≤ 16 = omega arith in
      let last : take 1 (drop 12 form) ≡ get_or form 12 0 ∷ [] = ap (take 1) (drop-cons form 12 0 (omega arith)) in
      e ∙ sets_first (take 10 (drop 2 form)) (set sixteen 15 (get_or form 12 0)) room ∙ rw (ten, last) refl

-- Behind its number a form of a version is read as the code does it.
pub brings_version : (form saved waiting : List ℕ) {registers saved' waiting' : List ℕ} {n at : ℕ} {r : Result ℕ Reason} (v : Version)
    → at ≡ start v → at ≤ length form → registers ≡ saved_in v form → n ≡ value_of (get_or form (at - 2) 0 ∷ get_or form (at - 1) 0 ∷ [])
    → Brings (read_behind registers n (take (length form - at) (drop at form))) saved waiting saved' waiting' r
    → Brings (read_version v form) saved waiting saved' waiting' r
brings_version form saved waiting {at = at} v s h e f d =
    let h' : start v ≤ length form = rw s at h in
    let k = count_found form v s h' f in
    rw (counted form v h', ← e, ← k, ← s, ← behind form at) d
