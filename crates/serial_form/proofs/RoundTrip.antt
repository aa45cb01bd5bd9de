-- Writing and reading are inverse, and what reading comes to is known exactly. That nothing past the end is read needs no theorem: no index
-- is out of range in code that is proved.
use mathlib.Core.Path.{◌≡◌, refl, sym, ap, ap₂, ◌∙◌}
use mathlib.Core.Bool.{true}
use mathlib.Core.List.{List, [], ◌∷◌, ◌++◌}
use Prim.Native.Nat.{ℕ, ◌+◌, ◌≤◌, ◌<◌}
use native.Mathlib.Decide.{dec_lt, ℕ_discrete}
use native.Mathlib.Omega.{arith}
use lib.ListN.{length, get_or, take, drop, length-append, length-take, length-drop, take-append-drop}
use lib.Seq.{take-append_seam, take-append-le, drop-append-le, take_at, drop_at, drop-drop, get_or-drop, take-add}
use borrow.Author.Tests.{le-leb}
use Rattle.common.specs.Bytes.{bytes_of, value_of, Bytes}
use Rattle.common.proofs.Bytes.{bytes_drop, bytes_of_value}
use Rattle.serial.specs.Layout.{places, size_of, spare_registers, fresh_spare_registers}
use Rattle.serial.proofs.Sizes.{size_few}
use Rattle.serial_form.specs.Form.{Version, version2, version3, number_of, form_by, form_of, Read, refused, reads}
use Rattle.serial_form.specs.Form.{version_in, no_others, saved_in, count_in, start, read_behind, read_form}
use Rattle.serial_form.specs.Calls.{written, are_zero, has_no_spare, Encodes, Decodes}
use Rattle.serial_form.specs.Outcomes.{Is, Comes, no_version, other_version, cut_off, too_many_wait, too_few, left_over, whole}
use Rattle.serial_form.proofs.Reading.{too_many_lem, too_few_lem, left_over_lem, none_left, not_both, no_count, counted, no_version_lem}
use Rattle.serial_form.proofs.Reading.{has_version, known_version, other_version_lem}

-- ---- What reading comes to, exactly

module _ (form : List ℕ) where
  counts : (v : Version) → start v ≤ length form → Is v form
      → read_form form ≡ read_behind (saved_in v form) (count_in v form) (drop (start v) form)
  counts v h e = known_version form v (omega (arith, has_version v)) e ∙ counted form v h

  -- Where a condition holds, reading comes to what it says,
  pub only_so : {o : Read} → Comes form o → read_form form ≡ o
  only_so (no_version h) = no_version_lem form h
  only_so (other_version h d) = other_version_lem form h d
  only_so (cut_off v h e l) = known_version form v h e ∙ no_count form v l
  only_so (too_many_wait v h e n) = counts v h e ∙ too_many_lem _ _ _ n
  only_so (too_few v h e n l) = counts v h e ∙ too_few_lem _ _ _ n (simp length-drop (omega arith))
  only_so (left_over v e n l) = counts v (omega arith) e ∙ left_over_lem _ _ _ n (simp length-drop (omega arith))
  only_so (whole v e n l) = counts v (omega arith) e ∙ none_left _ _ _ n (simp length-drop (omega arith))

  pub neither : (Is version2 form → ⊥) → (Is version3 form → ⊥) → (v : Version) → Is v form → ⊥
  neither d e version2 = d
  neither d e version3 = e

  -- and of any bytes one of the conditions holds: they are refused with its reason, or read.
  pub comes : Comes form (read_form form)
  comes = version (dec_lt (length form) 2) (ℕ_discrete (version_in form) (number_of version2)) (ℕ_discrete (version_in form) (number_of version3))
    where
      by : {o : Read} → Comes form o → Comes form (read_form form)
      by o = rw (only_so o) o

      behind : (v : Version) → start v ≤ length form → Is v form → Dec (size_of (saved_in v form) < count_in v form)
          → Dec (length form < start v + count_in v form)
          → Dec (start v + count_in v form < length form) → Comes form (read_form form)
      behind v h e (yes n) l m = by (too_many_wait v h e n)
      behind v h e (no n) (yes l) m = by (too_few v h e (omega arith) l)
      behind v h e (no n) (no l) (yes m) = by (left_over v e (omega arith) m)
      behind v h e (no n) (no l) (no m) = by (whole v e (omega arith) (omega arith))

      fixed : (v : Version) → 2 ≤ length form → Is v form → Dec (length form < start v) → Comes form (read_form form)
      fixed v h e (yes l) = by (cut_off v h e l)
      fixed v h e (no l) =
          behind v (omega arith) e (dec_lt (size_of (saved_in v form)) (count_in v form)) (dec_lt (length form) (start v + count_in v form))
          (dec_lt (start v + count_in v form) (length form))

      known : (v : Version) → 2 ≤ length form → Is v form → Comes form (read_form form)
      known v h e = fixed v h e (dec_lt (length form) (start v))

      version : Dec (length form < 2) → Dec (Is version2 form) → Dec (Is version3 form) → Comes form (read_form form)
      version (yes h) d e = by (no_version h)
      version (no h) (yes d) e = known version2 (omega arith) d
      version (no h) (no d) (yes e) = known version3 (omega arith) e
      version (no h) (no d) (no e) = by (other_version (omega arith) (neither d e))

-- ---- What was written is read back

pub version_there : (v : Version) (registers waiting : List ℕ) → version_in (form_by v registers waiting) ≡ number_of v
unfolding form_by bytes_of value_of number_of
version_there version2 registers waiting = refl
version_there version3 registers waiting = refl

-- Of either version: its registers are as many as stand between the version and the number.
module _ (v : Version) (registers waiting : List ℕ) (long : length registers + 4 ≡ start v) where
  abbrev form : List ℕ
  form = form_by v registers waiting

  pub all_of : length form ≡ start v + length waiting
  unfolding form_by bytes_of
  all_of = simp length-append (omega arith)

  behind_registers : (n : ℕ) → n ≡ 2 + length registers → drop n form ≡ bytes_of 2 (length waiting) ++ waiting
  unfolding form_by bytes_of
  behind_registers n e =
      rw e (sym (drop-drop (length registers) 2 form) ∙ drop_at registers (bytes_of 2 (length waiting) ++ waiting) (length registers) refl)

  number_there : length waiting ≤ places → (n : ℕ) → n ≡ 2 + length registers → value_of (take 2 (drop n form)) ≡ length waiting
  unfolding bytes_of value_of
  number_there few n e = rw (behind_registers n e) (omega arith)

  waiting_back : drop (start v) form ≡ waiting
  unfolding bytes_of
  waiting_back =
      let e : 2 + length registers + 2 ≡ start v = omega arith in
      rw (← e, ← drop-drop 2 (2 + length registers) form, behind_registers (2 + length registers) refl)

  version_back : version_in form ≡ number_of v
  version_back = version_there v registers waiting

  count_back : length waiting ≤ places → count_in v form ≡ length waiting
  unfolding count_in start
  count_back few = go v long
    where
      go : (w : Version) → length registers + 4 ≡ start w → count_in w form ≡ length waiting
      go version2 e = number_there few 11 (omega arith)
      go version3 e = number_there few 13 (omega arith)

  pub read_back : length waiting ≤ size_of (saved_in v form) → read_form form ≡ reads (saved_in v form) waiting
  read_back h =
      let count = count_back (omega (arith, size_few (saved_in v form))) in
      only_so form (whole v version_back (rw count h) (rw count all_of)) ∙ ap (reads (saved_in v form)) waiting_back

module _ (saved : List ℕ) (long : length saved ≡ 16) where
  pub ten : length (take 10 saved) ≡ 10
  ten = simp length-take (omega arith)

  one : length (drop 15 saved) ≡ 1
  one = simp length-drop (omega arith)

  pub eleven : length (take 10 saved ++ drop 15 saved) ≡ 11
  eleven = simp (length-append, ten, one) (omega arith)

module _ (saved waiting : List ℕ) (long : length saved ≡ 16) where
  rest : List ℕ
  rest = bytes_of 2 (length waiting) ++ waiting

  front_back : take 10 (drop 2 (form_of saved waiting)) ≡ take 10 saved
  unfolding form_by bytes_of rest
  front_back =
      take-append-le 10 (take 10 saved ++ drop 15 saved) rest (omega (arith, eleven saved long))
      ∙ take_at (take 10 saved) (drop 15 saved) 10 (ten saved long)

  last_back : take 1 (drop 12 (form_of saved waiting)) ≡ drop 15 saved
  unfolding form_by bytes_of rest
  last_back =
      ap (take 1) (drop-append-le 10 (take 10 saved ++ drop 15 saved) rest (omega (arith, eleven saved long)))
      ∙ ap (λ (l : List ℕ). take 1 (l ++ rest)) (drop_at (take 10 saved) (drop 15 saved) 10 (ten saved long))
      ∙ take_at (drop 15 saved) rest 1 (one saved long)

  between : spare_registers saved ≡ fresh_spare_registers → fresh_spare_registers ++ drop 15 saved ≡ drop 10 saved
  between z =
      ap (λ (l : List ℕ). l ++ drop 15 saved) (sym z) ∙ ap (λ (l : List ℕ). spare_registers saved ++ l) (sym (drop-drop 5 10 saved))
      ∙ take-append-drop 5 (drop 10 saved)

  saved_back : spare_registers saved ≡ fresh_spare_registers → saved_in version3 (form_of saved waiting) ≡ saved
  unfolding saved_in
  saved_back z = rw (front_back, last_back, between z) (take-append-drop 10 saved)

  long_enough : length (take 10 saved ++ drop 15 saved) + 4 ≡ start version3
  unfolding start
  long_enough = rw (eleven saved long) refl

  pub form_length_lem : length (form_of saved waiting) ≡ 15 + length waiting
  unfolding start
  form_length_lem = all_of version3 (take 10 saved ++ drop 15 saved) waiting long_enough

  -- where no spare register is other than 0
  pub read_written : length waiting ≤ size_of saved → spare_registers saved ≡ fresh_spare_registers
      → read_form (form_of saved waiting) ≡ reads saved waiting
  read_written h z =
      let back = saved_back z in
      read_back version3 (take 10 saved ++ drop 15 saved) waiting long_enough (rw back h)
      ∙ ap (λ (l : List ℕ). reads l waiting) back

module _ (registers : List ℕ) (nine : length registers ≡ 9) where
  other_zero : (i : ℕ) → get_or (registers ++ no_others) (9 + i) 0 ≡ get_or no_others i 0
  other_zero i = sym (get_or-drop 9 (registers ++ no_others) i 0) ∙ ap (λ (l : List ℕ). get_or l i 0) (drop_at registers no_others 9 nine)

  of_64 : size_of (registers ++ no_others) ≡ 64
  of_64 = omega (arith, other_zero 6)

  long_enough_2 : length registers + 4 ≡ start version2
  unfolding start
  long_enough_2 = rw nine refl

  saved_back_2 : (waiting : List ℕ) → saved_in version2 (form_by version2 registers waiting) ≡ registers ++ no_others
  unfolding saved_in form_by bytes_of
  saved_back_2 waiting = rw (take_at registers (bytes_of 2 (length waiting) ++ waiting) 9 nine)

-- What was written of version 2 is read as it was: a port of 64, of whose FCR nothing is remembered.
pub read_old : (registers waiting : List ℕ) → length registers ≡ 9 → length waiting ≤ 64
    → read_form (form_by version2 registers waiting) ≡ reads (registers ++ no_others) waiting
read_old registers waiting nine few =
    let back = saved_back_2 registers nine waiting in
    read_back version2 registers waiting (long_enough_2 registers nine) (rw (back, of_64 registers nine) few)
    ∙ ap (λ (l : List ℕ). reads l waiting) back

-- ---- What is read is a state

module _ (form : List ℕ) where
  -- the registers by both versions
  pub nine_there : start version2 ≤ length form → length (take 9 (drop 2 form)) ≡ 9
  unfolding start
  nine_there h = simp (length-take, length-drop) (omega arith)

  pub ten_there : start version3 ≤ length form → length (take 10 (drop 2 form)) ≡ 10
  unfolding start
  ten_there h = simp (length-take, length-drop) (omega arith)

  all_there : (v : Version) → start v ≤ length form → length (saved_in v form) ≡ 16
  unfolding saved_in start
  all_there version2 h = simp (length-append, nine_there h) (omega arith)
  all_there version3 h = simp (length-append, ten_there h, length-take, length-drop) (omega arith)

  spares_there : (v : Version) → start v ≤ length form → spare_registers (saved_in v form) ≡ fresh_spare_registers
  unfolding saved_in
  spares_there version2 h =
      ap (take 5) (sym (drop-drop 1 9 (saved_in version2 form)) ∙ ap (drop 1) (drop_at (take 9 (drop 2 form)) no_others 9 (nine_there h)))
  spares_there version3 h = ap (take 5) (drop_at (take 10 (drop 2 form)) (fresh_spare_registers ++ take 1 (drop 12 form)) 10 (ten_there h))

  -- no form is of both
  one_version : (v w : Version) → Is v form → Is w form → v ≡ w
  one_version version2 version2 e f = refl
  one_version version3 version3 e f = refl
  one_version version2 version3 e f = absurd (not_both e f)
  one_version version3 version2 e f = absurd (not_both f e)

  fits : {saved waiting : List ℕ} → Comes form (reads saved waiting) → (length saved ≡ 16) × (length waiting ≤ size_of saved)
  fits (whole v e n l) = (all_there v (omega arith), simp length-drop (omega arith))

  no_spare : {saved waiting : List ℕ} → Comes form (reads saved waiting) → spare_registers saved ≡ fresh_spare_registers
  no_spare (whole v e n l) = spares_there v (omega arith)

  agrees : {saved waiting : List ℕ} (v : Version) → Is v form → Comes form (reads saved waiting) → length form ≡ start v + length waiting
  agrees v i (whole w e n l) = rw (one_version v w i e) (simp length-drop (omega arith))

  of_version_2 : {saved waiting : List ℕ} → Is version2 form → Comes form (reads saved waiting) → (size_of saved ≡ 64) × (get_or saved 9 0 ≡ 0)
  unfolding saved_in
  of_version_2 i (whole version2 e n l) =
      let nine = nine_there (omega arith) in (of_64 (take 9 (drop 2 form)) nine, other_zero (take 9 (drop 2 form)) nine 0)
  of_version_2 i (whole version3 e n l) = absurd (not_both i e)

-- ---- It is written as the same bytes

two_back : (l : List ℕ) → 2 ≤ length l → Bytes l → bytes_of 2 (value_of (take 2 l)) ≡ take 2 l
two_back [] h b = absurd (omega arith)
two_back (x ∷ []) h b = absurd (omega arith)
two_back (x ∷ y ∷ l) h (p, (q, b)) = bytes_of_value (x ∷ y ∷ []) (p, (q, tt))

module _ (form : List ℕ) where
  joined : (at n : ℕ) → take n (drop at form) ++ drop (at + n) form ≡ drop at form
  joined at n = rw (← drop-drop n at form) (take-append-drop n (drop at form))

  kept_there : start version3 ≤ length form
      → take 10 (saved_in version3 form) ++ drop 15 (saved_in version3 form) ≡ take 11 (drop 2 form)
  unfolding saved_in
  kept_there h =
      let spares-and-last = fresh_spare_registers ++ take 1 (drop 12 form) in
      let ten = ten_there form h in
      let first : take 10 (saved_in version3 form) ≡ take 10 (drop 2 form) = take_at (take 10 (drop 2 form)) spares-and-last 10 ten in
      let last : drop 15 (saved_in version3 form) ≡ take 1 (drop 12 form) = sym (drop-drop 5 10 (saved_in version3 form))
      ∙ ap (drop 5) (drop_at (take 10 (drop 2 form)) spares-and-last 10 ten) in
      ap₂ ◌++◌ first last ∙ ap (λ (l : List ℕ). take 10 (drop 2 form) ++ take 1 l) (sym (drop-drop 10 2 form)) ∙ sym (take-add 10 1 (drop 2 form))

  same : {saved waiting : List ℕ} → Bytes form → Is version3 form → Comes form (reads saved waiting) → form_of saved waiting ≡ form
  unfolding form_by count_in start
  same b i (whole version2 e n l) = absurd (not_both e i)
  same b i (whole version3 e n l) =
      let count : length (drop 15 form) ≡ count_in version3 form = simp length-drop (omega arith) in
      let number : 2 ≤ length (drop 13 form) = simp length-drop (omega arith) in
      let version : bytes_of 2 (number_of version3) ≡ take 2 form = ap (bytes_of 2) (sym e) ∙ two_back form (omega arith) b in
      rw (version, kept_there (omega arith), count, two_back (drop 13 form) number (bytes_drop 13 form b), joined 13 2, joined 2 11)
      (take-append-drop 2 form)

module _ (form saved waiting : List ℕ) (read : read_form form ≡ reads saved waiting) where
  outcome : Comes form (reads saved waiting)
  outcome = rw read at (comes form)

  pub read_fits : (length saved ≡ 16) × (length waiting ≤ size_of saved)
  read_fits = fits form outcome

  pub read_no_spare : spare_registers saved ≡ fresh_spare_registers
  read_no_spare = no_spare form outcome

  pub read_length : (v : Version) → Is v form → length form ≡ start v + length waiting
  read_length v i = agrees form v i outcome

  -- Version 2 is of a port of 64 that remembers nothing of FCR.
  pub read_version_2 : Is version2 form → (size_of saved ≡ 64) × (get_or saved 9 0 ≡ 0)
  read_version_2 i = of_version_2 form i outcome

  -- Version 3 is written as the same bytes. What was read of either version is written as bytes that are read as the same state.
  pub written_read : Is version3 form → Bytes form → form_of saved waiting ≡ form
  written_read i b = same form b i outcome

  pub read_again : read_form (form_of saved waiting) ≡ reads saved waiting
  read_again = read_written saved waiting read_fits.0 read_fits.1 read_no_spare

-- ---- Two calls

-- Where there is room for the form it lies first.
encoded : {saved waiting form form' : List ℕ} {r : ℕ} → length waiting ≤ size_of saved → has_no_spare saved ≡ true
    → Encodes saved waiting form form' r → r ≤ length form
    → (r ≡ length (form_of saved waiting)) × (take r form' ≡ form_of saved waiting)
encoded {saved} {waiting} {form} {form'} {r} few none w enough =
    let bytes = form_of saved waiting in
    let answer : r ≡ length bytes = rw (le-leb _ _ few, none) at w.answer in
    let room : length bytes ≤ length form = omega arith in
    let memory : form' ≡ written bytes form = rw (le-leb _ _ few, none, le-leb _ _ room) at w.memory in
    (answer, rw (answer, memory) (take-append_seam bytes (drop (length bytes) form)))

-- What one has written into memory with room for it, the other reads back.
pub there_and_back : {saved waiting form form' saved₀ waiting₀ saved₁ waiting₁ : List ℕ} {r n : ℕ} → length saved ≡ 16
    → length waiting ≤ size_of saved
    → spare_registers saved ≡ fresh_spare_registers
    → Encodes saved waiting form form' r → r ≤ length form → Decodes (read_form (take r form')) saved₀ waiting₀ saved₁ waiting₁ n
    → (n ≡ length waiting) × ((saved₁ ≡ saved) × (waiting₁ ≡ written waiting waiting₀))
there_and_back {saved} {waiting} {saved₀ = saved₀} {waiting₀ = waiting₀} {saved₁ = saved₁} {waiting₁ = waiting₁} {n = n} long few z w enough d =
    let first = (encoded few (ap are_zero z) w enough).1 in
    let back : Decodes (reads saved waiting) saved₀ waiting₀ saved₁ waiting₁ n = rw (first, read_written saved waiting long few z) at d in
    (back.answer, (back.registers, back.bytes))

-- An answer below 0x1_0000 is no refusal.
module _ (form : List ℕ) {saved₀ waiting₀ saved waiting : List ℕ} {n : ℕ} (d : Decodes (read_form form) saved₀ waiting₀ saved waiting n)
    (read : n < 0x1_0000) where
  found : read_form form ≡ reads saved (take n waiting)
  found = go (read_form form) refl d
    where
      go : (o : Read) → read_form form ≡ o → Decodes o saved₀ waiting₀ saved waiting n → read_form form ≡ reads saved (take n waiting)
      go (refused reason) e d = let k = d.answer in absurd (omega arith)
      go (reads registers waits) e d =
          let same : take n waiting ≡ waits = rw (d.answer, d.bytes) (take-append_seam waits (drop (length waits) waiting₀)) in
          e ∙ rw (d.registers, same) refl

  writes : {memory memory' : List ℕ} {r : ℕ} → Encodes saved (take n waiting) memory memory' r → r ≤ length memory
      → (r ≡ length (form_of saved (take n waiting))) × (take r memory' ≡ form_of saved (take n waiting))
  writes w enough =
      encoded (read_fits form saved (take n waiting) found).1 (ap are_zero (read_no_spare form saved (take n waiting) found)) w enough

  -- What one has read of version 3, the other writes again to the same bytes.
  pub back_and_there : {memory memory' : List ℕ} {r : ℕ} → Is version3 form → Bytes form → Encodes saved (take n waiting) memory memory' r
      → r ≤ length memory
      → (r ≡ length form) × (take r memory' ≡ form)
  back_and_there i b w enough =
      let there = writes w enough in
      let same = written_read form saved (take n waiting) found i b in
      (there.0 ∙ ap length same, there.1 ∙ same)

  -- What one has read of either version, and the other has written, is read as the same state.
  pub brought_up : {memory memory' saved₁ waiting₁ saved₂ waiting₂ : List ℕ} {r m : ℕ} → Encodes saved (take n waiting) memory memory' r
      → r ≤ length memory
      → Decodes (read_form (take r memory')) saved₁ waiting₁ saved₂ waiting₂ m
      → (m ≡ length (take n waiting)) × ((saved₂ ≡ saved) × (waiting₂ ≡ written (take n waiting) waiting₁))
  brought_up w enough again =
      let f = read_fits form saved (take n waiting) found in
      there_and_back f.0 f.1 (read_no_spare form saved (take n waiting) found) w enough again
