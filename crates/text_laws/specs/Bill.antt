-- The bill in an answer's text.
--     answer_adds_up       "the printed applications must equal the sum over these lines", of every outcome
use Rattle.std.specs.Prelude.{◌≡◌, true, false, get_or, length}
use Rattle.std.proofs.Math.Path.{refl, ap, ap₂}
use Rattle.std.proofs.Common.{sym, ◌∙◌, subst}
use Rattle.std.proofs.Math.Bool.{cond}
use mathlib.Core.List.{List, [], ◌∷◌, ◌++◌, map, append_assoc, append-nil}
use Prim.Native.Nat.{ℕ, zero, suc, ◌+◌, ◌<◌}
use native.Mathlib.Omega.{arith}
use Rattle.meaning.specs.List.{at, table, every, equal, flat, bytes}
use Rattle.meaning.specs.Text.{decimal, value_of, line, line_fields}
use Rattle.meaning.specs.Solver.{Pass, Kind, solved, singular, Outcome, pass_count, applications, spent, charge, close_cost}
use Rattle.meaning.specs.Answer.{kind_word, vector_word, pass_lines, answer_text, total, AddsUp}
use Rattle.laws.specs.List.{every_nil}
use Rattle.laws.specs.Solver.{spent_nil, spent_cons}
use Rattle.text_laws.specs.Lists.{every_more}
use Rattle.text_laws.specs.Tables.{flat_table_zero, flat_table_suc}
use Rattle.text_laws.specs.Numeral.{value_decimal, decimal_digits}
use Rattle.text_laws.specs.Line.{free, digits_free, line_fields_nil, line_fields_line}

-- a word without tab and line end
abbrev Plain : List ℕ → Type 0
Plain v = (free 9 v ≡ true) × (free 10 v ≡ true)

decimals_free : (c : ℕ) (ks : List ℕ) → c < 48 → every (free c) (map decimal ks) ≡ true
decimals_free c [] h = every_nil (free c)
decimals_free c (k ∷ ks) h = every_more (free c) (decimal k) (map decimal ks) (digits_free c (decimal k) h (decimal_digits k)) (decimals_free c ks h)

-- ---- the words

plain_answer : Plain (bytes "answer")
unfolding bytes every
plain_answer = (refl, refl)

plain_pass : Plain (bytes "pass")
unfolding bytes every
plain_pass = (refl, refl)

plain_close : Plain (bytes "close")
unfolding bytes every
plain_close = (refl, refl)

plain_f : Plain (bytes "f")
unfolding bytes every
plain_f = (refl, refl)

plain_end : Plain (bytes "end")
unfolding bytes every
plain_end = (refl, refl)

plain_kind : (k : Kind) → Plain (kind_word k)
unfolding bytes every
plain_kind solved = (refl, refl)
plain_kind singular = (refl, refl)

plain_vector : (k : Kind) → Plain (vector_word k)
unfolding bytes every
plain_vector solved = (refl, refl)
plain_vector singular = (refl, refl)

-- ---- the sum over the lines with the word w

-- these lines add k to it, whatever follows
record Adds (w : List ℕ) (i : ℕ) (lines : List ℕ) (k : ℕ) : Type 0 where
  sum : (text : List ℕ) → total w i (line_fields (lines ++ text)) ≡ k + total w i (line_fields text)

total_cons : (w : List ℕ) (i : ℕ) (l : List (List ℕ)) (ls : List (List (List ℕ)))
    → total w i (l ∷ ls) ≡ cond (equal (get_or l 0 []) w) (value_of (get_or l i [])) 0 + total w i ls
unfolding total
total_cons w i l ls = refl

total_nil : (w : List ℕ) (i : ℕ) → total w i [] ≡ 0
unfolding total
total_nil w i = refl

module _ {w : List ℕ} {i : ℕ} where
  adds_none : Adds w i [] 0
  adds_none = record { sum = λ text. omega arith }

  adds_append : {l m : List ℕ} {j k : ℕ} → Adds w i l j → Adds w i m k → Adds w i (l ++ m) (j + k)
  adds_append {l} {m} a b =
      record { sum = λ text. ap (λ x. total w i (line_fields x)) (append_assoc l m text) ∙ omega (arith, a.sum (m ++ text), b.sum text) }

  adds_as : {l m : List ℕ} {j k : ℕ} → Adds w i l j → l ≡ m → j ≡ k → Adds w i m k
  adds_as {l} {m} {j} a e f = subst (Adds w i m) f (subst (λ x. Adds w i x j) e a)

  adds_line : (v : List ℕ) (vs : List (List ℕ)) → every (free 9) (v ∷ vs) ≡ true → every (free 10) (v ∷ vs) ≡ true
      → Adds w i (line (v ∷ vs)) (cond (equal v w) (value_of (get_or (v ∷ vs) i [])) 0)
  adds_line v vs e f =
      record { sum = λ text. ap (total w i) (line_fields_line v vs text e f) ∙ total_cons w i (v ∷ vs) (line_fields text) }

  -- a word and numbers
  adds_numbers : (v : List ℕ) (ks : List ℕ) → Plain v → Adds w i (line (v ∷ map decimal ks)) (cond (equal v w) (value_of (get_or (v ∷ map decimal ks) i [])) 0)
  adds_numbers v ks h =
      adds_line v (map decimal ks)
      (every_more (free 9) v (map decimal ks) h.0 (decimals_free 9 ks (omega arith)))
      (every_more (free 10) v (map decimal ks) h.1 (decimals_free 10 ks (omega arith)))

  -- another word
  adds_nothing : (v : List ℕ) (ks : List ℕ) → Plain v → equal v w ≡ false → Adds w i (line (v ∷ map decimal ks)) 0
  adds_nothing v ks h e =
      adds_as (adds_numbers v ks h) refl (ap (λ t. cond t (value_of (get_or (v ∷ map decimal ks) i [])) 0) e)

  adds_rows : (n : ℕ) (g : ℕ → List ℕ) → ((k : ℕ) → Adds w i (g k) 0) → Adds w i (flat (table n g)) 0
  adds_rows zero g h = adds_as adds_none (sym (flat_table_zero g)) refl
  adds_rows (suc n) g h = adds_as (adds_append (adds_rows n g h) (h n)) (sym (flat_table_suc n g)) refl

  other_passes : equal (bytes "pass") w ≡ false → (k : ℕ) (qs : List Pass) → Adds w i (pass_lines k qs) 0
  unfolding pass_lines
  other_passes e k [] = adds_none
  other_passes e k (q ∷ qs) = adds_append (adds_nothing (bytes "pass") (k ∷ charge q) plain_pass e) (other_passes e (k + 1) qs)

-- ---- an outcome's lines

spent_lines : (k : ℕ) (qs : List Pass) → Adds (bytes "pass") 4 (pass_lines k qs) (spent qs)
unfolding pass_lines bytes equal
spent_lines k [] = adds_as adds_none refl (sym spent_nil)
spent_lines k (q ∷ qs) =
    adds_as (adds_append (adds_numbers (bytes "pass") (k ∷ charge q) plain_pass) (spent_lines (k + 1) qs))
    refl (ap (λ a. a + spent qs) (value_decimal q.applications) ∙ sym (spent_cons q qs))

-- what the vector's lines begin with is none of the three words
silent : (k : Kind)
    → (equal (vector_word k) (bytes "answer") ≡ false) × (equal (vector_word k) (bytes "pass") ≡ false) × (equal (vector_word k) (bytes "close") ≡ false)
unfolding bytes equal
silent solved = (refl, refl, refl)
silent singular = (refl, refl, refl)

module _ (o : Outcome) where
  abbrev head : List (List ℕ)
  head = bytes "answer" ∷ kind_word o.kind ∷ map decimal (o.degree ∷ pass_count o ∷ applications o ∷ o.multiplied ∷ [])

  abbrev closes : List (List ℕ)
  closes = bytes "close" ∷ decimal (close_cost o.degree) ∷ []

  module _ {w : List ℕ} {i : ℕ} where
    head_adds : Adds w i (line head) (cond (equal (bytes "answer") w) (value_of (get_or head i [])) 0)
    head_adds =
        let ks = o.degree ∷ pass_count o ∷ applications o ∷ o.multiplied ∷ [] in
        let vs = kind_word o.kind ∷ map decimal ks in
        adds_line (bytes "answer") vs
        (every_more (free 9) (bytes "answer") vs plain_answer.0 (every_more (free 9) (kind_word o.kind) (map decimal ks) (plain_kind o.kind).0 (decimals_free 9 ks (omega arith))))
        (every_more (free 10) (bytes "answer") vs plain_answer.1 (every_more (free 10) (kind_word o.kind) (map decimal ks) (plain_kind o.kind).1 (decimals_free 10 ks (omega arith))))

    closes_adds : Adds w i (line closes) (cond (equal (bytes "close") w) (value_of (get_or closes i [])) 0)
    closes_adds = adds_numbers (bytes "close") (close_cost o.degree ∷ []) plain_close

  -- the sum by what the first line, the `pass` lines and the `close` line add
  whole : (w : List ℕ) (i a b c : ℕ) → equal [] w ≡ false → equal (bytes "f") w ≡ false → equal (vector_word o.kind) w ≡ false → equal (bytes "end") w ≡ false
      → Adds w i (line head) a → Adds w i (pass_lines 1 o.passes) b → Adds w i (line closes) c → total w i (line_fields (answer_text o)) ≡ a + b + c
  unfolding answer_text
  whole w i a b c en ef ev ee ha hb hc =
      let powers =
      adds_rows (o.degree + 1) (λ k. line (bytes "f" ∷ decimal k ∷ decimal (at o.polynomial k) ∷ []))
      (λ k. adds_nothing (bytes "f") (k ∷ at o.polynomial k ∷ []) plain_f ef) in
      let places =
      adds_rows (length o.vector) (λ k. line (vector_word o.kind ∷ decimal (k + 1) ∷ decimal (at o.vector k) ∷ []))
      (λ k. adds_nothing (vector_word o.kind) ((k + 1) ∷ at o.vector k ∷ []) (plain_vector o.kind) ev) in
      let all = adds_append (adds_append (adds_append (adds_append (adds_append ha hb) hc) powers) places) (adds_nothing (bytes "end") [] plain_end ee) in
      let behind : total w i (line_fields []) ≡ 0 =
      ap (total w i) line_fields_nil ∙ total_cons w i ([] ∷ []) [] ∙ ap₂ ◌+◌ (ap (λ t. cond t (value_of (get_or ([] ∷ []) i [])) 0) en) (total_nil w i) in
      ap (λ x. total w i (line_fields x)) (sym (append-nil (answer_text o))) ∙ all.sum [] ∙ omega (arith, behind)

  printed : total (bytes "answer") 4 (line_fields (answer_text o)) ≡ applications o
  unfolding bytes equal
  printed =
      whole (bytes "answer") 4 (applications o) 0 0 refl refl (silent o.kind).0 refl (adds_as head_adds refl (value_decimal (applications o)))
      (other_passes refl 1 o.passes) closes_adds
      ∙ omega arith

  of_passes : total (bytes "pass") 4 (line_fields (answer_text o)) ≡ spent o.passes
  unfolding bytes equal
  of_passes =
      whole (bytes "pass") 4 0 (spent o.passes) 0 refl refl (silent o.kind).1 refl head_adds (spent_lines 1 o.passes) closes_adds ∙ omega arith

  of_close : total (bytes "close") 1 (line_fields (answer_text o)) ≡ close_cost o.degree
  unfolding bytes equal
  of_close =
      whole (bytes "close") 1 0 0 (close_cost o.degree) refl refl (silent o.kind).2 refl head_adds (other_passes refl 1 o.passes)
      (adds_as closes_adds refl (value_decimal (close_cost o.degree)))
      ∙ omega arith

  pub answer_adds_up : AddsUp (answer_text o)
  answer_adds_up = printed ∙ sym (ap₂ ◌+◌ of_passes of_close)
