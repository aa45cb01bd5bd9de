-- The lines of an input, piece by piece.
use Prim.Native.Nat.{ℕ, zero, suc, ◌+◌, ◌-◌, ◌≤◌, ◌<◌}
use mathlib.Core.Path.{◌≡◌, refl, sym, ap, ◌∙◌}
use mathlib.Core.Bool.{Bool, true, false, cond}
use mathlib.Core.List.{List, [], ◌∷◌, ◌++◌, append_assoc, append-nil}
use native.Mathlib.Numerals.{unary_clauses}
use native.Mathlib.Omega.{arith}
use lib.Dec.{eqb}
use lib.ListN.{length, take, drop, length-take, length-drop}
use lib.Seq.{take-add, take-take, drop-drop, take-nil}
use Rattle.pieces.specs.Finding.{index_of, index_after, slice}
use Rattle.pieces.specs.Cutting.{lines_in, rest_of, bytes_from, stop_of}

-- ---- One piece after another

lines_by : (b : Bool) {l₁ l₂ : List (List ℕ)} (m₁ m₂ : List (List ℕ)) (r₁ r₂ : List ℕ) (k : List ℕ → List (List ℕ))
    → l₁ ≡ m₁ ++ k r₁ → l₂ ≡ m₂ ++ k r₂ → cond b l₁ l₂ ≡ cond b m₁ m₂ ++ k (cond b r₁ r₂)
lines_by true m₁ m₂ r₁ r₂ k p q = p
lines_by false m₁ m₂ r₁ r₂ k p q = q

pub lines_append : (line xs ys : List ℕ) → lines_in line (xs ++ ys) ≡ lines_in line xs ++ lines_in (rest_of line xs) ys
unfolding lines_in rest_of
lines_append line [] ys = refl
lines_append line (x ∷ xs) ys =
    let more = lines_append (line ++ (x ∷ [])) xs ys in
    let next = lines_append [] xs ys in
    lines_by (eqb x 0x0a) _ _ _ _ (λ (l : List ℕ). lines_in l ys) (ap (λ (l : List (List ℕ)). line ∷ l) next) more

rest_by : (b : Bool) {l₁ l₂ : List ℕ} (r₁ r₂ : List ℕ) (k : List ℕ → List ℕ) → l₁ ≡ k r₁ → l₂ ≡ k r₂ → cond b l₁ l₂ ≡ k (cond b r₁ r₂)
rest_by true r₁ r₂ k p q = p
rest_by false r₁ r₂ k p q = q

pub rest_append : (line xs ys : List ℕ) → rest_of line (xs ++ ys) ≡ rest_of (rest_of line xs) ys
unfolding rest_of
rest_append line [] ys = refl
rest_append line (x ∷ xs) ys =
    rest_by (eqb x 0x0a) _ _ (λ (l : List ℕ). rest_of l ys) (rest_append [] xs ys) (rest_append (line ++ (x ∷ [])) xs ys)

-- ---- A piece up to the first newline

module _ (x : ℕ) (xs : List ℕ) (k : ℕ) where
  ends_by : (b : Bool) (line : List ℕ) → index_after b k < suc (length xs)
      → (k < length xs → (l : List ℕ) → lines_in l (take (suc k) xs) ≡ (l ++ take k xs) ∷ [])
      → cond b (line ∷ lines_in [] (take (index_after b k) xs)) (lines_in (line ++ (x ∷ [])) (take (index_after b k) xs))
      ≡ (line ++ take (index_after b k) (x ∷ xs)) ∷ []
  unfolding lines_in index_after
  ends_by true line h f = rw append-nil refl
  ends_by false line h f = f (omega arith) (line ++ (x ∷ [])) ∙ rw append_assoc refl

  rest_ends_by : (b : Bool) (line : List ℕ) → index_after b k < suc (length xs)
      → (k < length xs → (l : List ℕ) → rest_of l (take (suc k) xs) ≡ [])
      → cond b (rest_of [] (take (index_after b k) xs)) (rest_of (line ++ (x ∷ [])) (take (index_after b k) xs)) ≡ []
  unfolding rest_of index_after
  rest_ends_by true line h f = refl
  rest_ends_by false line h f = f (omega arith) (line ++ (x ∷ []))

  none_by : (b : Bool) (line : List ℕ) → suc (length xs) ≤ index_after b k → (length xs ≤ k → (l : List ℕ) → lines_in l xs ≡ [])
      → cond b (line ∷ lines_in [] xs) (lines_in (line ++ (x ∷ [])) xs) ≡ []
  unfolding index_after
  none_by true line h f = absurd (omega arith)
  none_by false line h f = f (omega arith) (line ++ (x ∷ []))

  rest_none_by : (b : Bool) (line : List ℕ) → suc (length xs) ≤ index_after b k → (length xs ≤ k → (l : List ℕ) → rest_of l xs ≡ l ++ xs)
      → cond b (rest_of [] xs) (rest_of (line ++ (x ∷ [])) xs) ≡ line ++ (x ∷ xs)
  unfolding index_after
  rest_none_by true line h f = absurd (omega arith)
  rest_none_by false line h f = f (omega arith) (line ++ (x ∷ [])) ∙ rw append_assoc refl

ends : (xs : List ℕ) → index_of 0x0a xs < length xs → (line : List ℕ)
    → lines_in line (take (suc (index_of 0x0a xs)) xs) ≡ (line ++ take (index_of 0x0a xs) xs) ∷ []
unfolding lines_in index_of
ends [] h line = absurd (omega arith)
ends (x ∷ xs) h line = ends_by x xs (index_of 0x0a xs) (eqb x 0x0a) line h (ends xs)

rest_ends : (xs : List ℕ) → index_of 0x0a xs < length xs → (line : List ℕ) → rest_of line (take (suc (index_of 0x0a xs)) xs) ≡ []
unfolding rest_of index_of
rest_ends [] h line = absurd (omega arith)
rest_ends (x ∷ xs) h line = rest_ends_by x xs (index_of 0x0a xs) (eqb x 0x0a) line h (rest_ends xs)

none : (xs : List ℕ) → length xs ≤ index_of 0x0a xs → (line : List ℕ) → lines_in line xs ≡ []
unfolding lines_in index_of
none [] h line = refl
none (x ∷ xs) h line = none_by x xs (index_of 0x0a xs) (eqb x 0x0a) line h (none xs)

rest_none : (xs : List ℕ) → length xs ≤ index_of 0x0a xs → (line : List ℕ) → rest_of line xs ≡ line ++ xs
unfolding rest_of index_of
rest_none [] h line = sym (append-nil line)
rest_none (x ∷ xs) h line = rest_none_by x xs (index_of 0x0a xs) (eqb x 0x0a) line h (rest_none xs)

-- ---- The same of what is held

-- Two parts side by side are one.
pub joined : (all : List ℕ) (a b c : ℕ) → a ≤ b → b ≤ c → bytes_from a c all ≡ bytes_from a b all ++ bytes_from b c all
joined all a b c h k =
    let e : c - a ≡ (b - a) + (c - b) = omega arith in
    let f : a + (b - a) ≡ b = omega arith in
    rw (e, take-add, drop-drop, f) refl

pub drop_take : (a b : ℕ) (l : List ℕ) → drop a (take b l) ≡ take (b - a) (drop a l)
drop_take zero b l = simp unary_clauses refl
drop_take (suc a) zero l = let e : 0 - suc a ≡ 0 = omega arith in rw e refl
drop_take (suc a) (suc b) [] = simp take-nil refl
drop_take (suc a) (suc b) (x ∷ l) = simp unary_clauses (drop_take a b l)

pub part : (seen end : ℕ) (all : List ℕ) → slice seen end all ≡ bytes_from seen end all
unfolding slice
part seen end all = drop_take seen end all

pub length_part : (seen end : ℕ) (all : List ℕ) → end ≤ length all → length (bytes_from seen end all) ≡ end - seen
length_part seen end all h = simp (length-take, length-drop) (omega arith)

module _ (all : List ℕ) (seen end : ℕ) (first : seen ≤ end) (held : end ≤ length all) {stop : ℕ} (e : stop ≡ stop_of all seen end) where
  found : stop ≡ seen + index_of 0x0a (bytes_from seen end all)
  found = rw (← part seen end all) e

  up_to : (n : ℕ) → seen + n ≤ end → take n (bytes_from seen end all) ≡ bytes_from seen (seen + n) all
  up_to n h = let f : (seen + n) - seen ≡ n = omega arith in rw (take-take n (end - seen) (drop seen all) (omega arith), f) refl

  to_newline : stop < end → take (suc (index_of 0x0a (bytes_from seen end all))) (bytes_from seen end all) ≡ bytes_from seen (stop + 1) all
  to_newline h =
      let i = index_of 0x0a (bytes_from seen end all) in
      let f = found in
      let g : seen + suc i ≡ stop + 1 = omega arith in
      up_to (suc i) (omega arith) ∙ ap (λ (n : ℕ). bytes_from seen n all) g

  before : stop < end → take (index_of 0x0a (bytes_from seen end all)) (bytes_from seen end all) ≡ bytes_from seen stop all
  before h =
      let f = found in
      up_to (index_of 0x0a (bytes_from seen end all)) (omega arith) ∙ ap (λ (n : ℕ). bytes_from seen n all) (sym f)

  stops : stop < end → index_of 0x0a (bytes_from seen end all) < length (bytes_from seen end all)
  stops h = let f = found in let l = length_part seen end all held in omega arith

  pub line_ends : stop < end → (line : List ℕ) → lines_in line (bytes_from seen (stop + 1) all) ≡ (line ++ bytes_from seen stop all) ∷ []
  line_ends h line =
      ap (λ (l : List ℕ). lines_in line l) (sym (to_newline h)) ∙ ends (bytes_from seen end all) (stops h) line ∙
      ap (λ (l : List ℕ). (line ++ l) ∷ []) (before h)

  pub line_ended : stop < end → (line : List ℕ) → rest_of line (bytes_from seen (stop + 1) all) ≡ []
  line_ended h line = ap (λ (l : List ℕ). rest_of line l) (sym (to_newline h)) ∙ rest_ends (bytes_from seen end all) (stops h) line

  pub no_line_ends : end ≤ stop → (line : List ℕ) → lines_in line (bytes_from seen end all) ≡ []
  no_line_ends h line =
      let l = length_part seen end all held in
      none (bytes_from seen end all) (omega (arith, l, found)) line

  pub line_goes_on : end ≤ stop → (line : List ℕ) → rest_of line (bytes_from seen end all) ≡ line ++ bytes_from seen end all
  line_goes_on h line =
      let l = length_part seen end all held in
      rest_none (bytes_from seen end all) (omega (arith, l, found)) line
