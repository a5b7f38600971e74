-- What the writing functions leave.
--     header_text, entry_line, row_text, rows_text      the `system` line; the lines of an entry, of a row, of all rows
--     place_line, place_text, right_text               the line of a place, of each place; the `b` lines, and the end
--     Rows                 the starts divide the entries into rows
-- Laws: header_line, entry_line_law, place_none, place_line_law, row_text_law, scales_none, scales_text, right_text_law, whole_text: what is written is the meaning's;
-- accepted_some, text_asks: no scale is 0, and what the whole text asks, of a system that the checks take; writer_system, system_refused, refused_answer,
-- refused_after, writer_short, writer_fits, writer_text: the writer's refusal, and what it answers and leaves.
use Rattle.std.specs.Prelude.{◌≡◌, ◌≢◌, refl, ◌⊎◌, true, false, not, cond, List, [], ◌∷◌, ◌++◌, ℕ, ◌+◌, ◌-◌, ◌≤◌, ◌<◌, eqb, ltb, leb, length}
use Rattle.std.proofs.Common.{sym, ap, ap₂, ◌∙◌, inl, inr, append_assoc, arith, leb-true, le-leb, eq-eqb, ne_eqb}
use Rattle.std.proofs.lemmas.Bool.{lt-leb}
use Rattle.meaning.specs.List.{at, flat, table, every, bytes, overwrite}
use Rattle.meaning.specs.Matrix.{Matrix, size}
use Rattle.meaning.specs.Text.{decimal, line, write_row, write_scales, write_element, write}
use Rattle.meaning.specs.Refusal.{check, first, value_taken}
use Rattle.meaning.specs.Calls.{system_checks, writer_refusal, writer_answer, writer_after}
use Rattle.laws.specs.Bool.{and_left, test_cases}
use Rattle.laws.specs.List.{table_ext, every_at}
use Rattle.laws.specs.Accepted.{start_within}
use Rattle.laws.specs.Refusal.{first_nil, first_past, first_stops, numbered_system, first_append_none, first_append_some, unless_refused_some}
use Rattle.text_laws.specs.Lists.{every_weaken}
use Rattle.text_laws.specs.Accepted.{AcceptedSystem, AcceptedScales, system_accepted, system_scales}
use Rattle.text_laws.specs.Coordinates.{all_ones}
use Rattle.text_laws.specs.WriteRead.{scales_full}
use Rattle.text_laws.specs.Length.{write_within}
use Rattle.line_writer.specs.Written.{Wrote, wrote_start}

abbrev pub entry_line : List ℕ → List ℕ → ℕ → ℕ → ℕ → List ℕ
entry_line columns values i from k = line (bytes "a" ∷ decimal (i + 1) ∷ decimal (at columns (from + k) + 1) ∷ decimal (at values (from + k)) ∷ [])

abbrev pub row_text : List ℕ → List ℕ → ℕ → ℕ → ℕ → List ℕ
row_text columns values i from n = flat (table n (entry_line columns values i from))

abbrev pub rows_text : Matrix → List ℕ
rows_text A = flat (table (size A) (write_row A))

abbrev pub place_line : List ℕ → List ℕ → ℕ → List ℕ
place_line letter v i = cond (eqb (at v i) 0) [] (line (letter ∷ decimal (i + 1) ∷ decimal (at v i) ∷ []))

abbrev pub place_text : List ℕ → List ℕ → List ℕ
place_text letter v = flat (table (length v) (place_line letter v))

abbrev pub right_text : List ℕ → List ℕ
right_text right = flat (table (length right) (write_element right)) ++ line (bytes "end" ∷ [])

abbrev pub header_text : ℕ → ℕ → ℕ → List ℕ
header_text p n k = line (bytes "system" ∷ decimal p ∷ decimal n ∷ decimal k ∷ [])

pub record Rows (A : Matrix) : Type 0 where
  pub some : 1 ≤ length A.starts
  pub few : length A.starts ≤ 4097
  pub rising : (i : ℕ) → i < size A → at A.starts i ≤ at A.starts (i + 1)
  pub within : (i : ℕ) → i < length A.starts → at A.starts i ≤ length A.columns
  pub as_many : length A.columns ≡ length A.values

-- ---- the words as the code writes them

pub header_line : (p n k : ℕ) → line ((115 ∷ 121 ∷ 115 ∷ 116 ∷ 101 ∷ 109 ∷ []) ∷ decimal p ∷ decimal n ∷ decimal k ∷ []) ≡ header_text p n k
unfolding bytes
header_line p n k = refl

-- an entry's line by its index
pub entry_line_law : (columns values : List ℕ) (i from k c v : ℕ) → from ≤ k → c ≡ at columns k → v ≡ at values k
    → line ((97 ∷ []) ∷ decimal (i + 1) ∷ decimal (c + 1) ∷ decimal v ∷ []) ≡ entry_line columns values i from (k - from)
unfolding bytes
entry_line_law columns values i from k c v h ec ev =
    let e : k ≡ from + (k - from) = omega arith in
    ap₂ (λ x y. line ((97 ∷ []) ∷ decimal (i + 1) ∷ decimal (x + 1) ∷ decimal y ∷ [])) (ec ∙ ap (at columns) e) (ev ∙ ap (at values) e)

pub row_text_law : (A : Matrix) (i a b : ℕ) → a ≡ at A.starts i → b ≡ at A.starts (i + 1)
    → row_text A.columns A.values i a (b - a) ≡ write_row A i
unfolding write_row
row_text_law A i a b e f = ap₂ (λ x y. row_text A.columns A.values i x (y - x)) e f

module _ (letter v : List ℕ) where
  pub place_none : (i : ℕ) → at v i ≡ 0 → place_line letter v i ≡ []
  place_none i e = ap (λ t. cond t [] (line (letter ∷ decimal (i + 1) ∷ decimal (at v i) ∷ []))) (eq-eqb (at v i) 0 e)

  pub place_line_law : (i x : ℕ) → (at v i ≡ 0 → ⊥) → x ≡ at v i → line (letter ∷ decimal (i + 1) ∷ decimal x ∷ []) ≡ place_line letter v i
  place_line_law i x n e =
      ap (λ y. line (letter ∷ decimal (i + 1) ∷ decimal y ∷ [])) e
      ∙ sym (ap (λ t. cond t [] (line (letter ∷ decimal (i + 1) ∷ decimal (at v i) ∷ []))) (ne_eqb (at v i) 0 n))

pub scales_none : (n : ℕ) (X : List ℕ) → all_ones X ≡ true → write_scales n X ≡ []
unfolding write_scales
scales_none n X e = ap (λ t. cond t [] (flat (table n (λ i. line (bytes "s" ∷ decimal (i + 1) ∷ decimal (at X i) ∷ []))))) e

pub scales_text : (X : List ℕ) → every (leb 1) X ≡ true → all_ones X ≡ false → place_text (115 ∷ []) X ≡ write_scales (length X) X
unfolding write_scales bytes
scales_text X some e =
    let line_at : ℕ → List ℕ = λ i. line ((115 ∷ []) ∷ decimal (i + 1) ∷ decimal (at X i) ∷ []) in
    ap flat
    (table_ext (length X) (place_line (115 ∷ []) X) line_at
    (λ i l. sym (place_line_law (115 ∷ []) X i (at X i) (λ z. omega (arith, leb-true 1 (at X i) (every_at (leb 1) X 0 some i l))) refl)))
    ∙ sym (ap (λ t. cond t [] (flat (table (length X) line_at))) e)

pub right_text_law : (right : List ℕ) → place_text (98 ∷ []) right ++ line ((101 ∷ 110 ∷ 100 ∷ []) ∷ []) ≡ right_text right
unfolding write_element bytes
right_text_law right = refl

-- the number of scales is n, unless nothing is written of them
scales_number : (p n : ℕ) (X : List ℕ) → AcceptedScales p n X → write_scales (length X) X ≡ write_scales n X
scales_number p n X x = go (test_cases (all_ones X))
  where
    go : (all_ones X ≡ true) ⊎ (all_ones X ≡ false) → write_scales (length X) X ≡ write_scales n X
    go (inl e) = scales_none (length X) X e ∙ sym (scales_none n X e)
    go (inr e) = ap (λ m. write_scales m X) (scales_full p n X x e)

pub whole_text : (p : ℕ) (A : Matrix) (scales right : List ℕ) → AcceptedScales p (size A) scales → length right ≡ size A
    → header_text p (size A) (length A.columns) ++ rows_text A ++ write_scales (length scales) scales ++ right_text right
    ≡ write p A scales right
unfolding write
whole_text p A scales right x e =
    let n = size A in
    let front = header_text p n (length A.columns) ++ rows_text A in
    sym (append_assoc (front ++ write_scales (length scales) scales) (flat (table (length right) (write_element right))) (line (bytes "end" ∷ [])))
    ∙ ap₂ (λ s m. front ++ s ++ flat (table m (write_element right)) ++ line (bytes "end" ∷ [])) (scales_number p n scales x) e

accepted_rows : (p : ℕ) (A : Matrix) (right : List ℕ) → AcceptedSystem p A right → Rows A
accepted_rows p A right a =
    record {
      some = omega (arith, a.start_count);
      few = omega (arith, a.start_count, a.size_high);
      rising = a.rising;
      within = λ i l. start_within a i (omega (arith, l, a.start_count));
      as_many = a.as_many;
    }

pub accepted_some : (p n : ℕ) (X : List ℕ) → AcceptedScales p n X → every (leb 1) X ≡ true
accepted_some p n X x = every_weaken (value_taken p) (leb 1) X (λ a t. and_left (leb 1 a) (ltb a p) t) x.taken

-- what the whole text asks of a system that the checks take
pub text_asks : (p : ℕ) (A : Matrix) (scales right : List ℕ) → first (system_checks p A scales right) ≡ 0
    → Rows A × (AcceptedScales p (size A) scales × (length right ≡ size A))
text_asks p A scales right e =
    let a = system_accepted p A scales right e in
    (accepted_rows p A right a, (system_scales p A scales right e, a.right_length))

-- ---- the writer's checks

module _ (p : ℕ) (A : Matrix) (X b out : List ℕ) where
  pub writer_system : (first (system_checks p A X b) ≡ 0 → ⊥) → writer_refusal p A X b out ≡ first (system_checks p A X b)
  unfolding writer_refusal
  writer_system n = first_append_some (system_checks p A X b) _ n

  -- what a refused system is answered, and that the slice stays
  pub system_refused : {number : ℕ} → number ≡ first (system_checks p A X b) → number ≢ 0 → number ≡ writer_refusal p A X b out
  system_refused e n = e ∙ sym (writer_system (λ z. n (e ∙ z)))

  pub refused_answer : {number : ℕ} → number ≡ first (system_checks p A X b) → number ≢ 0 → 0 ≡ writer_answer p A X b out
  refused_answer e n =
      sym (unless_refused_some (writer_refusal p A X b out) (length (write p A X b)) 0 (λ z. n (system_refused e n ∙ z)))

  pub refused_after : {number : ℕ} → number ≡ first (system_checks p A X b) → number ≢ 0 → out ≡ writer_after p A X b out
  refused_after e n =
      sym (unless_refused_some (writer_refusal p A X b out) (overwrite (write p A X b) out) out (λ z. n (system_refused e n ∙ z)))

  last_check : first (system_checks p A X b) ≡ 0 → writer_refusal p A X b out ≡ first (check 11 (not (leb (length (write p A X b)) (length out))) ∷ [])
  unfolding writer_refusal
  last_check e = first_append_none (system_checks p A X b) _ (numbered_system p A X b) e

  pub writer_short : first (system_checks p A X b) ≡ 0 → length out < length (write p A X b) → writer_refusal p A X b out ≡ 11
  writer_short e l = last_check e ∙ first_stops 11 (not (leb (length (write p A X b)) (length out))) [] (ap not (lt-leb (length (write p A X b)) (length out) l))

  pub writer_fits : first (system_checks p A X b) ≡ 0 → length (write p A X b) ≤ length out → writer_refusal p A X b out ≡ 0
  writer_fits e l = last_check e ∙ first_past 11 (not (leb (length (write p A X b)) (length out))) [] (ap not (le-leb (length (write p A X b)) (length out) l)) ∙ first_nil

  -- what measuring and writing answer and leave
  pub writer_text : first (system_checks p A X b) ≡ 0 → (next : ℕ) (l m : List ℕ) → Wrote l 0 (write p A X b) next m
      → (next ≡ length (write p A X b)) × (length (write p A X b) ≤ length l → m ≡ overwrite (write p A X b) l)
  writer_text e next l m w = wrote_start w (omega (arith, write_within p A X b (system_accepted p A X b e) (system_scales p A X b e)))
