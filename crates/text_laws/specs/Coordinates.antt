-- The document of a system, and its text.
--     entry_at A i k        entry k, of row i, as the text says it: row, column, value
--     row_entries A i       the entries of row i
--     line_at skip v i      element i of v as the text says it, place and value; nothing where `skip` holds
--     placed_lines n skip v .. the n of them, one after the other
--     all_ones X            every scale is 1
--     scale_lines n X       the `s` lines: of each scale, or of none if all are 1
--     element_lines n b     the `b` lines: of each element that isn't 0
--     document_of p A X b   the document of a system
--     text_append          the text of two lists of lines
--     write_document       write p A X b ≡ text_of_document (document_of p A X b)
use Rattle.std.specs.Prelude.{◌≡◌, refl, Bool, true, false, cond, List, [], ◌∷◌, ◌++◌, map, ℕ, zero, suc, ◌+◌, ◌-◌, ◌<◌, eqb, length}
use Rattle.std.proofs.Common.{sym, ap, ap₂, ◌∙◌, append_assoc, append-nil, arith}
use Rattle.meaning.specs.List.{at, table, every, flat, bytes}
use Rattle.meaning.specs.Matrix.{Matrix, size}
use Rattle.meaning.specs.Text.{decimal, line, Form, entry, scale, element, Line, Document, write_row, write_scales, write_element, write}
use Rattle.text_laws.specs.Lists.{map_append, flat_append}
use Rattle.text_laws.specs.Tables.{flat_table_zero, flat_table_suc, flat_table_none, map_table}
use Rattle.text_laws.specs.Form.{word, say, fields, text_of, text_nil, text_cons}
use Rattle.text_laws.specs.Accepted.{start, column, value}
use Rattle.text_laws.specs.Document.{lines_of, text_of_document}

abbrev pub entry_at : Matrix → ℕ → ℕ → List ℕ
entry_at A i k = (i + 1) ∷ (column A k + 1) ∷ value A k ∷ []

abbrev pub row_entries : Matrix → ℕ → List (List ℕ)
row_entries A i = table (start A (i + 1) - start A i) (λ k. entry_at A i (start A i + k))

abbrev pub line_at : (ℕ → Bool) → List ℕ → ℕ → List (List ℕ)
line_at skip v i = cond (skip i) [] (((i + 1) ∷ at v i ∷ []) ∷ [])

abbrev pub placed_lines : ℕ → (ℕ → Bool) → List ℕ → List (List ℕ)
placed_lines n skip v = flat (table n (line_at skip v))

abbrev pub all_ones : List ℕ → Bool
all_ones X = every (λ a. eqb a 1) X

abbrev pub scale_lines : ℕ → List ℕ → List (List ℕ)
scale_lines n X = placed_lines n (λ i. all_ones X) X

abbrev pub element_lines : ℕ → List ℕ → List (List ℕ)
element_lines n b = placed_lines n (λ i. eqb (at b i) 0) b

unfoldable pub document_of : ℕ → Matrix → List ℕ → List ℕ → Document
document_of p A X b =
    record {
      modulus = p;
      size = size A;
      count = length A.columns;
      entries = flat (table (size A) (row_entries A));
      scales = scale_lines (size A) X;
      elements = element_lines (size A) b;
    }

-- ---- the text

pub text_append : (l m : List Line) → text_of (l ++ m) ≡ text_of l ++ text_of m
unfolding text_of
text_append l m =
    ap flat (map_append (λ l. line (fields l)) l m) ∙ flat_append (map (λ l. line (fields l)) l) (map (λ l. line (fields l)) m)

text_one : (l : Line) → text_of (l ∷ []) ≡ line (fields l)
text_one l = text_cons l [] ∙ ap (λ t. line (fields l) ++ t) text_nil ∙ append-nil (line (fields l))

-- the text of lines of one form, from a table of them
text_table : (f : Form) (n : ℕ) (g : ℕ → List ℕ) → text_of (map (say f) (table n g)) ≡ flat (table n (λ i. line (fields (say f (g i)))))
unfolding text_of
text_table f n g =
    ap (λ l. flat (map (λ l. line (fields l)) l)) (map_table (say f) n g) ∙ ap flat (map_table (λ l. line (fields l)) n (λ i. say f (g i)))

text_flat_table : (f : Form) (n : ℕ) (g : ℕ → List (List ℕ)) (h : ℕ → List ℕ) → ((i : ℕ) → i < n → text_of (map (say f) (g i)) ≡ h i)
    → text_of (map (say f) (flat (table n g))) ≡ flat (table n h)
text_flat_table f zero g h e = ap (λ l. text_of (map (say f) l)) (flat_table_zero g) ∙ text_nil ∙ sym (flat_table_zero h)
text_flat_table f (suc n) g h e =
    ap (λ l. text_of (map (say f) l)) (flat_table_suc n g) ∙ ap text_of (map_append (say f) (flat (table n g)) (g n))
    ∙ text_append (map (say f) (flat (table n g))) (map (say f) (g n))
    ∙ ap₂ ◌++◌ (text_flat_table f n g h (λ i l. e i (omega arith))) (e n (omega arith)) ∙ sym (flat_table_suc n h)

text_row : (A : Matrix) (i : ℕ) → text_of (map (say entry) (row_entries A i)) ≡ write_row A i
unfolding write_row
text_row A i = text_table entry (start A (i + 1) - start A i) (λ k. entry_at A i (start A i + k))

-- the text of lines of a place and a value
text_placed : (f : Form) (n : ℕ) (skip : ℕ → Bool) (v : List ℕ)
    → text_of (map (say f) (placed_lines n skip v))
    ≡ flat (table n (λ i. cond (skip i) [] (line (word f ∷ decimal (i + 1) ∷ decimal (at v i) ∷ []))))
text_placed f n skip v =
    text_flat_table f n (line_at skip v) (λ i. cond (skip i) [] (line (word f ∷ decimal (i + 1) ∷ decimal (at v i) ∷ []))) (λ i l. go i (skip i))
  where
    go : (i : ℕ) (t : Bool)
        → text_of (map (say f) (cond t [] (((i + 1) ∷ at v i ∷ []) ∷ [])))
        ≡ cond t [] (line (word f ∷ decimal (i + 1) ∷ decimal (at v i) ∷ []))
    go i true = text_nil
    go i false = text_one (say f ((i + 1) ∷ at v i ∷ []))

text_scales : (n : ℕ) (X : List ℕ) → text_of (map (say scale) (scale_lines n X)) ≡ write_scales n X
unfolding write_scales
text_scales n X = text_placed scale n (λ i. all_ones X) X ∙ go (all_ones X)
  where
    go : (t : Bool)
        → flat (table n (λ i. cond t [] (line (bytes "s" ∷ decimal (i + 1) ∷ decimal (at X i) ∷ []))))
        ≡ cond t [] (flat (table n (λ i. line (bytes "s" ∷ decimal (i + 1) ∷ decimal (at X i) ∷ []))))
    go true = flat_table_none n (λ i. []) (λ i l. refl)
    go false = refl

text_elements : (n : ℕ) (b : List ℕ) → text_of (map (say element) (element_lines n b)) ≡ flat (table n (write_element b))
unfolding write_element
text_elements n b = text_placed element n (λ i. eqb (at b i) 0) b

pub write_document : (p : ℕ) (A : Matrix) (X b : List ℕ) → write p A X b ≡ text_of_document (document_of p A X b)
unfolding write text_of_document lines_of document_of
write_document p A X b =
    let n = size A in
    let rows = text_flat_table entry n (row_entries A) (write_row A) (λ i l. text_row A i) in
    let scales = text_scales n X in
    let right = text_elements n b in
    simp (text_cons, text_append, text_nil, append_assoc, append-nil, rows, scales, right)
