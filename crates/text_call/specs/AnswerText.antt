-- The answer's text by its lines, as it is written.
--     element_lines w first l n       a line for each of the first n elements of l: w, its number from `first`, itself
--     element_lines_ext               the same elements, the same lines
--     element_lines_take              the lines of a leading part
--     bill_lines B k                  a `pass` line for each of the first k passes on the bill B
--     bill_lines_law                     .. are the passes' lines, whatever stands behind them on the bill
--     text_of                         the answer's text, of the first line's word and that of the vector's lines
--     answer_solved, answer_singular      .. is answer_text, if the bill is that of the passes
--     refused_line                   the line of a refusal
use Rattle.std.specs.Prelude.{◌≡◌, refl, length, take}
use Rattle.std.proofs.Common.{sym, ◌∙◌, get_or-take, length-take-le}
use Rattle.std.proofs.Math.Path.{ap, ap₂}
use mathlib.Core.List.{List, [], ◌∷◌, ◌++◌, map}
use Prim.Native.Nat.{ℕ, suc, ◌+◌, ◌-◌, ◌*◌, ◌≤◌, ◌<◌}
use native.Mathlib.Omega.{arith}
use Rattle.meaning.specs.List.{at, table, flat, bytes}
use Rattle.meaning.specs.Text.{decimal, line}
use Rattle.meaning.specs.Solver.{Pass, Kind, solved, singular, Outcome, pass_count, applications, close_cost, charge, bill}
use Rattle.meaning.specs.Answer.{kind_word, vector_word, pass_lines, answer_text, refused_text}
use Rattle.laws.specs.List.{table_ext}
use Rattle.laws.specs.Solver.{bill_cons}
use Rattle.text_laws.specs.Lists.{flat_append}
use Rattle.text_laws.specs.Tables.{table_add, flat_table_zero, flat_table_suc}
use Rattle.text_laws.specs.Line.{line_two_words}

abbrev pub element_line : List ℕ → ℕ → List ℕ → ℕ → List ℕ
element_line w first l i = line (w ∷ decimal (i + first) ∷ decimal (at l i) ∷ [])

unfoldable pub element_lines : List ℕ → ℕ → List ℕ → ℕ → List ℕ
element_lines w first l n = flat (table n (element_line w first l))

pub element_lines_ext : (w : List ℕ) (first : ℕ) (l m : List ℕ) (n : ℕ) → ((i : ℕ) → i < n → at l i ≡ at m i) → element_lines w first l n ≡ element_lines w first m n
unfolding element_lines
element_lines_ext w first l m n h =
    ap flat (table_ext n (element_line w first l) (element_line w first m) (λ i k. ap (λ x. line (w ∷ decimal (i + first) ∷ decimal x ∷ [])) (h i k)))

-- of a part of so many elements
pub element_lines_take : (w : List ℕ) (first : ℕ) (l : List ℕ) (n : ℕ) → n ≤ length l
    → element_lines w first (take n l) (length (take n l)) ≡ element_lines w first l n
element_lines_take w first l n h =
    ap (element_lines w first (take n l)) (length-take-le n l h)
    ∙ element_lines_ext w first (take n l) l n (λ i k. get_or-take n l i 0 k)

-- ---- the bill

-- line i of those from number k on
abbrev pub bill_line : ℕ → List ℕ → ℕ → List ℕ
bill_line k B i =
    line (bytes "pass" ∷ decimal (i + k) ∷ decimal (at B (3 * i)) ∷ decimal (at B (3 * i + 1)) ∷ decimal (at B (3 * i + 2)) ∷ [])

unfoldable pub bill_lines : List ℕ → ℕ → List ℕ
bill_lines B n = flat (table n (bill_line 1 B))

-- the line after, with its numbers three places on
next_line : (k : ℕ) (q : Pass) (B : List ℕ) (i : ℕ) → bill_line k (charge q ++ B) (1 + i) ≡ bill_line (k + 1) B i
next_line k q B i =
    let number : 1 + i + k ≡ i + (k + 1) = omega arith in
    let left : 3 * (1 + i) ≡ suc (suc (suc (3 * i))) = omega arith in
    let degree : 3 * (1 + i) + 1 ≡ suc (suc (suc (3 * i + 1))) = omega arith in
    let cost : 3 * (1 + i) + 2 ≡ suc (suc (suc (3 * i + 2))) = omega arith in
    let C = charge q ++ B in
    ap₂ (λ m a. line (bytes "pass" ∷ decimal m ∷ decimal (at C a) ∷ decimal (at C (3 * (1 + i) + 1)) ∷ decimal (at C (3 * (1 + i) + 2)) ∷ [])) number left
    ∙ ap₂ (λ t a. line (bytes "pass" ∷ decimal (i + (k + 1)) ∷ decimal (at B (3 * i)) ∷ decimal (at C t) ∷ decimal (at C a) ∷ [])) degree cost

lines_from : (k : ℕ) (qs : List Pass) (rest : List ℕ) → flat (table (length qs) (bill_line k (bill qs ++ rest))) ≡ pass_lines k qs
unfolding pass_lines
lines_from k [] rest = flat_table_zero (bill_line k (bill [] ++ rest))
lines_from k (q ∷ qs) rest =
    let B = bill qs ++ rest in
    let g = bill_line k (charge q ++ B) in
    let zeroth : k ≡ 0 + k = omega arith in
    let more : suc (length qs) ≡ 1 + length qs = omega arith in
    ap₂ (λ n C. flat (table n (bill_line k C))) more (ap (λ l. l ++ rest) (bill_cons q qs))
    ∙ ap flat (table_add 1 (length qs) g) ∙ flat_append (table 1 g) (table (length qs) (λ i. g (1 + i)))
    ∙ ap₂ ◌++◌
    (flat_table_suc 0 g ∙ ap (λ l. l ++ g 0) (flat_table_zero g) ∙ ap (λ m. line (bytes "pass" ∷ decimal m ∷ map decimal (charge q))) (sym zeroth))
    (ap flat (table_ext (length qs) (λ i. g (1 + i)) (bill_line (k + 1) B) (λ i l. next_line k q B i)) ∙ lines_from (k + 1) qs rest)

pub bill_lines_law : (qs : List Pass) (rest : List ℕ) → bill_lines (bill qs ++ rest) (length qs) ≡ pass_lines 1 qs
unfolding bill_lines
bill_lines_law qs rest = lines_from 1 qs rest

-- ---- the whole text

unfoldable pub text_of : List ℕ → List ℕ → ℕ → ℕ → ℕ → ℕ → List ℕ → List ℕ → List ℕ → List ℕ
text_of head w degree passed applied multiplied B polynomial vector =
    line (head ∷ decimal degree ∷ decimal passed ∷ decimal applied ∷ decimal multiplied ∷ [])
    ++ bill_lines B passed ++ line (bytes "close" ∷ decimal (degree - 1) ∷ [])
    ++ element_lines (bytes "f") 0 polynomial (degree + 1) ++ element_lines w 1 vector (length vector) ++ line (bytes "end" ∷ [])

module _ (o : Outcome) (B : List ℕ) (h : bill_lines B (pass_count o) ≡ pass_lines 1 o.passes) where
  powers : (n : ℕ) → flat (table n (λ i. line (bytes "f" ∷ decimal i ∷ decimal (at o.polynomial i) ∷ []))) ≡ element_lines (bytes "f") 0 o.polynomial n
  unfolding element_lines
  powers n =
      ap flat
      (table_ext n (λ i. line (bytes "f" ∷ decimal i ∷ decimal (at o.polynomial i) ∷ [])) (element_line (bytes "f") 0 o.polynomial)
      (λ i l. let e : i ≡ i + 0 = omega arith in ap (λ k. line (bytes "f" ∷ decimal k ∷ decimal (at o.polynomial i) ∷ [])) e))

  by_kind : (k : Kind) → o.kind ≡ k
      → answer_text o ≡ text_of (bytes "answer" ++ 9 ∷ kind_word k) (vector_word k) o.degree (pass_count o) (applications o) o.multiplied B o.polynomial o.vector
  unfolding answer_text text_of element_lines
  by_kind k e =
      let numbers = decimal o.degree ∷ decimal (pass_count o) ∷ decimal (applications o) ∷ decimal o.multiplied ∷ [] in
      let closes = line (bytes "close" ∷ decimal (close_cost o.degree) ∷ []) in
      let rest : Kind → List ℕ = λ j. flat (table (length o.vector) (element_line (vector_word j) 1 o.vector)) in
      ap (λ j. line (bytes "answer" ∷ kind_word j ∷ numbers) ++ pass_lines 1 o.passes ++ closes ++ flat (table (o.degree + 1) (λ i. line (bytes "f" ∷ decimal i ∷ decimal (at o.polynomial i) ∷ []))) ++ rest j ++ line (bytes "end" ∷ [])) e
      ∙ ap₂ (λ a q. a ++ q ++ closes ++ flat (table (o.degree + 1) (λ i. line (bytes "f" ∷ decimal i ∷ decimal (at o.polynomial i) ∷ []))) ++ rest k ++ line (bytes "end" ∷ [])) (sym (line_two_words (bytes "answer") (kind_word k) numbers)) (sym h)
      ∙ ap (λ f. line ((bytes "answer" ++ 9 ∷ kind_word k) ∷ numbers) ++ bill_lines B (pass_count o) ++ closes ++ f ++ rest k ++ line (bytes "end" ∷ [])) (powers (o.degree + 1))

  pub answer_solved : o.kind ≡ solved
      → answer_text o ≡ text_of (bytes "answer\tsolved") (bytes "x") o.degree (pass_count o) (applications o) o.multiplied B o.polynomial o.vector
  unfolding bytes
  answer_solved e = by_kind solved e

  pub answer_singular : o.kind ≡ singular
      → answer_text o ≡ text_of (bytes "answer\tsingular") (bytes "w") o.degree (pass_count o) (applications o) o.multiplied B o.polynomial o.vector
  unfolding bytes
  answer_singular e = by_kind singular e

pub refused_line : (k : ℕ) → line ((114 ∷ 101 ∷ 102 ∷ 117 ∷ 115 ∷ 101 ∷ 100 ∷ []) ∷ decimal k ∷ []) ≡ refused_text k
unfolding refused_text bytes
refused_line k = refl
