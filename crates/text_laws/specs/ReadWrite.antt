-- From an accepted document to its system and back.
--     placed_length, its_every      n places by lines of a place and a value: their number; a test of each, if the lines and `none` pass it
--     elements_again, scales_again      the lines of the right side, and of the scales, are the document's
--     document_system      document_of of the document's system is the document
--     accepted_system_of, accepted_scales_of      the document's system passes the checks
use Rattle.std.specs.Prelude.{◌≡◌, refl, ◌⊎◌, Bool, false, not, cond, ℕ, ◌+◌, ◌-◌, ◌≤◌, ◌<◌, leb, get_or, length}
use Rattle.std.proofs.Math.Path.{sym, ap}
use Rattle.std.proofs.Common.{◌∙◌, subst, inl, inr, arith, add-one, ltb-true, leb-true, leb-false, eqb-true, lt-ltb, le-ltb, le-leb, eq-eqb, ne_eqb}
use Rattle.std.proofs.Math.Bool.{true}
use mathlib.Core.List.{List, [], ◌∷◌, map, nil≢cons}
use Rattle.std.proofs.Math.Dec.{eqb, ltb}
use Rattle.std.proofs.Math.ListN.{length-map, get_or-map}
use Rattle.std.proofs.lemmas.Bool.{lt-leb, not-true}
use Rattle.meaning.specs.List.{at, table, every, chain, select, flat}
use Rattle.meaning.specs.Matrix.{Matrix, matrix, size}
use Rattle.meaning.specs.Text.{Form, entry, scale, element, Document, row, placed, system}
use Rattle.meaning.specs.Refusal.{within, value_taken, scale_count_taken, before, some_scale}
use Rattle.laws.specs.Bool.{and_left, and_right, or_right, or_true_right, never, test_cases}
use Rattle.laws.specs.List.{table_ext, table_of, length_table, get_or_table, every_nil, every_at}
use Rattle.text_laws.specs.Lists.{select_nil, select_all, every_one, every_head, every_map, every_weaken}
use Rattle.text_laws.specs.Tables.{every_table, every_flat_table, flat_rows, chain_at, chain_weaken, select_every, every_select, select_none, none_selected, count_mono, count_le, below_count, buckets, one_of_key, key_at}
use Rattle.text_laws.specs.Form.{arity, say, small, fits}
use Rattle.text_laws.specs.Document.{fit, shaped, shaped_parts, length_three, length_two}
use Rattle.text_laws.specs.Accepted.{start, column, value, before_column, before_row, AcceptedSystem, AcceptedScales, AcceptedLines, AcceptedDocument, place_taken_law, within_low, within_high, modulus_low}
use Rattle.text_laws.specs.Coordinates.{entry_at, row_entries, line_at, placed_lines, all_ones, scale_lines, element_lines, document_of}

-- ---- lines of a place and a value, `s` or `b`

module _ (n none : ℕ) (es : List (List ℕ)) where
  abbrev of_row : ℕ → List (List ℕ)
  of_row i = select (λ e. eqb (row e) (i + 1)) es

  abbrev its : List ℕ
  its = placed n none es

  pub placed_length : length its ≡ n
  unfolding placed
  placed_length = length_table n (λ i. at (get_or (of_row i) 0 ((i + 1) ∷ none ∷ [])) 1)

  its_at : (i : ℕ) → i < n → at its i ≡ at (get_or (of_row i) 0 ((i + 1) ∷ none ∷ [])) 1
  unfolding placed
  its_at i h = get_or_table n (λ i. at (get_or (of_row i) 0 ((i + 1) ∷ none ∷ [])) 1) i 0 h

  its_none : (i : ℕ) → i < n → of_row i ≡ [] → at its i ≡ none
  its_none i h q = its_at i h ∙ ap (λ l. at (get_or l 0 ((i + 1) ∷ none ∷ [])) 1) q

  its_one : (i : ℕ) → i < n → (e : List ℕ) → of_row i ≡ e ∷ [] → at its i ≡ at e 1
  its_one i h e q = its_at i h ∙ ap (λ l. at (get_or l 0 ((i + 1) ∷ none ∷ [])) 1) q

  pub its_every : (t : ℕ → Bool) → t none ≡ true → every (λ e. t (at e 1)) es ≡ true → every t its ≡ true
  unfolding placed
  its_every t z h =
      every_table t n (λ i. at (get_or (of_row i) 0 ((i + 1) ∷ none ∷ [])) 1)
      (λ i l. go i (of_row i) (every_select (λ e. eqb (row e) (i + 1)) (λ e. t (at e 1)) es h))
    where
      go : (i : ℕ) (l : List (List ℕ)) → every (λ e. t (at e 1)) l ≡ true → t (at (get_or l 0 ((i + 1) ∷ none ∷ [])) 1) ≡ true
      go i [] h = z
      go i (e ∷ l) h = every_head (λ e. t (at e 1)) e l h

  module _ (p : ℕ) (a : AcceptedLines p n es) where
    -- the lines, place by place
    by_place : flat (table n of_row) ≡ es
    by_place =
        buckets row es n
        (chain_weaken (λ e f. ltb (row e) (row f)) (λ e f. leb (row e) (row f)) es
        (λ e f h. let x = ltb-true (row e) (row f) h in le-leb (row e) (row f) (omega arith)) a.rows_ordered)
        (every_weaken (λ e. within 1 n (row e)) (λ e. leb 1 (row e)) es (λ e h. and_left (leb 1 (row e)) (leb (row e) n) h) a.rows)
        ∙ select_all (λ e. leb (row e) n) es
        (every_weaken (λ e. within 1 n (row e)) (λ e. leb (row e) n) es (λ e h. and_right (leb 1 (row e)) (leb (row e) n) h) a.rows)

    -- .. are those of its places, if `skip` says where there is none
    lines_again : (f : Form) → arity f ≡ 2 → fit f es ≡ true → (skip : ℕ → Bool)
        → ((i : ℕ) → i < n → of_row i ≡ [] → skip i ≡ true) → ((i : ℕ) → i < n → (e : List ℕ) → of_row i ≡ e ∷ [] → skip i ≡ false)
        → placed_lines n skip its ≡ es
    lines_again f two fitting skip h₀ h₁ =
        ap flat (table_ext n (line_at skip its) of_row (λ i l. go i l (one_of_key row es (i + 1) a.rows_ordered))) ∙ by_place
      where
        go : (i : ℕ) → i < n → (of_row i ≡ []) ⊎ ((e : List ℕ) × (of_row i ≡ e ∷ [])) → line_at skip its i ≡ of_row i
        go i l (inl q) = ap (λ t. cond t [] (((i + 1) ∷ at its i ∷ []) ∷ [])) (h₀ i l q) ∙ sym q
        go i l (inr (e, q)) =
            let here : (t : List ℕ → Bool) → every t (of_row i) ≡ true → t e ≡ true = λ t w. every_head t e [] (ap (every t) (sym q) ∙ w) in
            let r : i + 1 ≡ row e =
            sym (eqb-true (row e) (i + 1) (here (λ e. eqb (row e) (i + 1)) (select_every (λ e. eqb (row e) (i + 1)) es))) in
            let g : fits (say f e) ≡ true =
            here (λ e. fits (say f e)) (every_select (λ e. eqb (row e) (i + 1)) (λ e. fits (say f e)) es fitting) in
            let long : length e ≡ 2 = eqb-true (length e) (arity f) (and_left (eqb (length e) (arity f)) (every small e) g) ∙ two in
            ap (λ t. cond t [] (((i + 1) ∷ at its i ∷ []) ∷ [])) (h₁ i l e q)
            ∙ (λ j. (r j ∷ its_one i l e q j ∷ []) ∷ []) ∙ ap (λ w. w ∷ []) (sym (length_two e long)) ∙ sym q

module _ (p n : ℕ) (es : List (List ℕ)) (a : AcceptedLines p n es) where
  pub elements_again : fit element es ≡ true → element_lines n (placed n 0 es) ≡ es
  elements_again fitting =
      lines_again n 0 es p a element refl fitting (λ i. eqb (at (placed n 0 es) i) 0)
      (λ i l q. eq-eqb (at (placed n 0 es) i) 0 (its_none n 0 es i l q))
      (λ i l e q. ne_eqb (at (placed n 0 es) i) 0 (λ z. omega (arith, its_one n 0 es i l e q, low i e q)))
    where
      low : (i : ℕ) (e : List ℕ) → of_row n 0 es i ≡ e ∷ [] → 1 ≤ at e 1
      low i e q =
          leb-true 1 (at e 1)
          (and_left (leb 1 (at e 1)) (ltb (at e 1) p)
          (every_head (λ e. value_taken p (at e 1)) e []
          (ap (every (λ e. value_taken p (at e 1))) (sym q)
          ∙ every_select (λ e. eqb (row e) (i + 1)) (λ e. value_taken p (at e 1)) es a.values)))

  -- if each place is 1, so is the value of each line
  ones_again : all_ones (placed n 1 es) ≡ true → every (λ e. eqb (at e 1) 1) es ≡ true
  ones_again h =
      ap (every (λ e. eqb (at e 1) 1)) (sym (by_place n 1 es p a))
      ∙ every_flat_table (λ e. eqb (at e 1) 1) n (of_row n 1 es) (λ i l. go i l (one_of_key row es (i + 1) a.rows_ordered))
    where
      go : (i : ℕ) → i < n → (of_row n 1 es i ≡ []) ⊎ ((e : List ℕ) × (of_row n 1 es i ≡ e ∷ []))
          → every (λ e. eqb (at e 1) 1) (of_row n 1 es i) ≡ true
      go i l (inl q) = ap (every (λ e. eqb (at e 1) 1)) q ∙ every_nil (λ e. eqb (at e 1) 1)
      go i l (inr (e, q)) =
          ap (every (λ e. eqb (at e 1) 1)) q
          ∙ every_one (λ e. eqb (at e 1) 1) e
          (ap (λ v. eqb v 1) (sym (its_one n 1 es i l e q))
          ∙ every_at (λ v. eqb v 1) (placed n 1 es) 0 h i (omega (arith, placed_length n 1 es)))

  pub scales_again : fit scale es ≡ true → scale_count_taken n (length es) ≡ true → some_scale es ≡ true → scale_lines n (placed n 1 es) ≡ es
  scales_again fitting number some = go (test_cases (eqb (length es) 0))
    where
      nothing : (es : List (List ℕ)) → length es ≡ 0 → es ≡ []
      nothing [] z = refl
      nothing (e ∷ es) z = absurd (omega arith)

      go : (eqb (length es) 0 ≡ true) ⊎ (eqb (length es) 0 ≡ false) → scale_lines n (placed n 1 es) ≡ es
      go (inl z) =
          let q : es ≡ [] = nothing es (eqb-true (length es) 0 z) in
          lines_again n 1 es p a scale refl fitting (λ i. all_ones (placed n 1 es))
          (λ i l r. its_every n 1 es (λ v. eqb v 1) refl (ap (every (λ e. eqb (at e 1) 1)) q ∙ every_nil (λ e. eqb (at e 1) 1)))
          (λ i l e r. absurd (nil≢cons (sym (select_nil (λ e. eqb (row e) (i + 1))) ∙ ap (select (λ e. eqb (row e) (i + 1))) (sym q) ∙ r)))
      go (inr z) =
          let m : length es ≡ n = eqb-true (length es) n (or_right (eqb (length es) 0) (eqb (length es) n) z number) in
          let rows : every (λ e. within 1 (length es) (row e)) es ≡ true = ap (λ m. every (λ e. within 1 m (row e)) es) m ∙ a.rows in
          let all : every (λ e. eqb (at e 1) 1) es ≡ false = not-true (every (λ e. eqb (at e 1) 1) es)
          (or_right (eqb (length es) 0) (not (every (λ e. eqb (at e 1) 1) es)) z some) in
          lines_again n 1 es p a scale refl fitting (λ i. all_ones (placed n 1 es))
          (λ i l r. never (eqb (row (get_or es i [])) (i + 1))
          (eq-eqb (row (get_or es i [])) (i + 1) (key_at row es [] a.rows_ordered rows i (omega arith)))
          (not-true (eqb (row (get_or es i [])) (i + 1))
          (every_at (λ e. not (eqb (row e) (i + 1))) es [] (none_selected (λ e. eqb (row e) (i + 1)) es r) i (omega arith))))
          (λ i l e r. some_other all (test_cases (all_ones (placed n 1 es))))
        where
          some_other : every (λ e. eqb (at e 1) 1) es ≡ false → (all_ones (placed n 1 es) ≡ true) ⊎ (all_ones (placed n 1 es) ≡ false)
              → all_ones (placed n 1 es) ≡ false
          some_other f (inl o) = never (every (λ e. eqb (at e 1) 1) es) (ones_again o) f
          some_other f (inr o) = o

module _ (d : Document) (s : shaped d ≡ true) (a : AcceptedDocument d) where
  -- ---- the entries

  abbrev entry_no : ℕ → List ℕ
  entry_no k = get_or d.entries k []

  -- the entries of the rows up to i
  abbrev upto : ℕ → ℕ
  upto i = length (select (λ e. leb (row e) i) d.entries)

  entries_rise : chain (λ e f. leb (row e) (row f)) d.entries ≡ true
  entries_rise = chain_weaken before (λ e f. leb (row e) (row f)) d.entries (λ e f h. le-leb (row e) (row f) (before_row e f h)) a.ordered

  place_at : (k : ℕ) → k < length d.entries → place_taken_law d.size (entry_no k) ≡ true
  place_at = every_at (place_taken_law d.size) d.entries [] a.places

  column_low : (k : ℕ) → k < length d.entries → 1 ≤ at (entry_no k) 1
  column_low k h =
      within_low 1 d.size (at (entry_no k) 1)
      (and_right (within 1 d.size (row (entry_no k))) (within 1 d.size (at (entry_no k) 1)) (place_at k h))

  column_high : (k : ℕ) → k < length d.entries → at (entry_no k) 1 ≤ d.size
  column_high k h =
      within_high 1 d.size (at (entry_no k) 1)
      (and_right (within 1 d.size (row (entry_no k))) (within 1 d.size (at (entry_no k) 1)) (place_at k h))

  upto_zero : upto 0 ≡ 0
  upto_zero =
      ap length
      (select_none (λ e. leb (row e) 0) d.entries
      (every_weaken (place_taken_law d.size) (λ e. not (leb (row e) 0)) d.entries
      (λ e h. ap not (lt-leb (row e) 0 (within_low 1 d.size (row e) (and_left (within 1 d.size (row e)) (within 1 d.size (at e 1)) h))))
      a.places))

  upto_all : upto d.size ≡ length d.entries
  upto_all =
      ap length
      (select_all (λ e. leb (row e) d.size) d.entries
      (every_weaken (place_taken_law d.size) (λ e. leb (row e) d.size) d.entries
      (λ e h. le-leb (row e) d.size (within_high 1 d.size (row e) (and_left (within 1 d.size (row e)) (within 1 d.size (at e 1)) h)))
      a.places))

  upto_rises : (i : ℕ) → upto i ≤ upto (i + 1)
  upto_rises i =
      count_mono (λ e. leb (row e) i) (λ e. leb (row e) (i + 1)) d.entries
      (λ e h. let x = leb-true (row e) i h in le-leb (row e) (i + 1) (omega arith))

  upto_within : (i k : ℕ) → k < upto i → k < length d.entries
  upto_within i k h = omega (arith, count_le (λ e. leb (row e) i) d.entries)

  row_at : (i k : ℕ) → upto i ≤ k → k < upto (i + 1) → row (entry_no k) ≡ i + 1
  row_at i k l h =
      let inside : k < length d.entries = upto_within (i + 1) k h in
      let above : i < row (entry_no k) =
      leb-false (row (entry_no k)) i (below_count row d.entries [] entries_rise i k inside ∙ le-ltb k (upto i) l) in
      let below : row (entry_no k) ≤ i + 1 =
      leb-true (row (entry_no k)) (i + 1) (below_count row d.entries [] entries_rise (i + 1) k inside ∙ lt-ltb k (upto (i + 1)) h) in
      omega arith

  -- ---- the matrix

  abbrev its_matrix : Matrix
  its_matrix = matrix (table (d.size + 1) upto) (map (λ e. at e 1 - 1) d.entries) (map (λ e. at e 2) d.entries)

  its_size : size its_matrix ≡ d.size
  its_size = omega (arith, length_table (d.size + 1) upto)

  its_start : (i : ℕ) → i ≤ d.size → start its_matrix i ≡ upto i
  its_start i h = get_or_table (d.size + 1) upto i 0 (omega arith)

  its_column : (k : ℕ) → column its_matrix k ≡ at (entry_no k) 1 - 1
  its_column k = get_or-map (λ e. at e 1 - 1) d.entries k []

  its_value : (k : ℕ) → value its_matrix k ≡ at (entry_no k) 2
  its_value k = get_or-map (λ e. at e 2) d.entries k []

  entry_back : (i k : ℕ) → upto i ≤ k → k < upto (i + 1) → entry_at its_matrix i k ≡ entry_no k
  entry_back i k l h =
      let inside : k < length d.entries = upto_within (i + 1) k h in
      let low : 1 ≤ at (entry_no k) 1 = column_low k inside in
      let r : i + 1 ≡ row (entry_no k) = sym (row_at i k l h) in
      let c : column its_matrix k + 1 ≡ at (entry_no k) 1 = omega (arith, its_column k) in
      let v : value its_matrix k ≡ at (entry_no k) 2 = its_value k in
      let fit = every_at (λ e. fits (say entry e)) d.entries [] (shaped_parts d s).1 k inside in
      (λ j. r j ∷ c j ∷ v j ∷ [])
      ∙ sym (length_three (entry_no k) (eqb-true (length (entry_no k)) 3 (and_left (eqb (length (entry_no k)) 3) (every small (entry_no k)) fit)))

  row_back : (i : ℕ) → i < d.size → row_entries its_matrix i ≡ table (upto (i + 1) - upto i) (λ k. entry_no (upto i + k))
  row_back i h =
      let q : start its_matrix i ≡ upto i = its_start i (omega arith) in
      let r : start its_matrix (i + 1) ≡ upto (i + 1) = its_start (i + 1) (omega arith) in
      (λ j. table (r j - q j) (λ k. entry_at its_matrix i (q j + k)))
      ∙ table_ext (upto (i + 1) - upto i) (λ k. entry_at its_matrix i (upto i + k)) (λ k. entry_no (upto i + k))
      (λ k g. entry_back i (upto i + k) (omega arith) (omega arith))

  entries_back : flat (table (size its_matrix) (row_entries its_matrix)) ≡ d.entries
  entries_back =
      ap (λ m. flat (table m (row_entries its_matrix))) its_size
      ∙ ap flat (table_ext d.size (row_entries its_matrix) (λ i. table (upto (i + 1) - upto i) (λ k. entry_no (upto i + k))) row_back)
      ∙ flat_rows upto entry_no d.size upto_zero (λ i l. upto_rises i) ∙ ap (λ m. table m entry_no) upto_all
      ∙ sym (table_of [] d.entries (length d.entries) entry_no refl (λ i l. refl))

  pub document_system : document_of (system d).modulus (system d).matrix (system d).scales (system d).right ≡ d
  unfolding system document_of
  document_system =
      λ i. record {
        modulus = d.modulus;
        size = its_size i;
        count = (length-map d.entries (λ e. at e 1 - 1) ∙ sym a.counted) i;
        entries = entries_back i;
        scales =
            (ap (λ m. scale_lines m (placed d.size 1 d.scales)) its_size
            ∙ scales_again d.modulus d.size d.scales a.scale_lines (shaped_parts d s).2 a.scale_number a.some_scale_law)
            i;
        elements =
            (ap (λ m. element_lines m (placed d.size 0 d.elements)) its_size
            ∙ elements_again d.modulus d.size d.elements a.element_lines_law (shaped_parts d s).3)
            i;
      }

  -- ---- the checks

  column_of : (i k : ℕ) → i < size its_matrix → start its_matrix i + k < start its_matrix (i + 1)
      → (upto i ≤ start its_matrix i + k) × (start its_matrix i + k < upto (i + 1))
  column_of i k l g =
      (omega (arith, its_start i (omega (arith, its_size)), g), omega (arith, its_start (i + 1) (omega (arith, its_size)), g))

  its_column_below : (i : ℕ) → i < size its_matrix → (k : ℕ) → start its_matrix i + k < start its_matrix (i + 1)
      → column its_matrix (start its_matrix i + k) < size its_matrix
  its_column_below i l k g =
      let inside : start its_matrix i + k < length d.entries = upto_within (i + 1) (start its_matrix i + k) (column_of i k l g).1 in
      omega (
        arith,
        its_column (start its_matrix i + k),
        column_low (start its_matrix i + k) inside,
        column_high
            (start its_matrix i + k) inside,
        its_size,
      )

  its_column_rises : (i : ℕ) → i < size its_matrix → (k : ℕ) → start its_matrix i + k + 1 < start its_matrix (i + 1)
      → column its_matrix (start its_matrix i + k) < column its_matrix (start its_matrix i + k + 1)
  its_column_rises i l k g = go (start its_matrix i + k) (column_of i k l (omega arith)).0
      (omega (arith, its_start (i + 1) (omega (arith, its_size)), g))
    where
      go : (m : ℕ) → upto i ≤ m → m + 1 < upto (i + 1) → column its_matrix m < column its_matrix (m + 1)
      go m low high =
          let inside : m + 1 < length d.entries = upto_within (i + 1) (m + 1) high in
          let next : before (entry_no m) (entry_no (m + 1)) ≡ true =
          subst (λ j. before (entry_no m) (entry_no j) ≡ true) (sym (add-one m))
          (chain_at before d.entries [] a.ordered m (omega arith)) in
          let same : row (entry_no m) ≡ row (entry_no (m + 1)) =
          row_at i m low (omega arith) ∙ sym (row_at i (m + 1) (omega arith) high) in
          omega (arith, its_column m, its_column (m + 1), before_column (entry_no m) (entry_no (m + 1)) next same, column_low m (omega arith))

  pub accepted_system_of : AcceptedSystem (system d).modulus (system d).matrix (system d).right
  unfolding system
  accepted_system_of =
      record {
        prime = a.prime;
        size_high = omega (arith, its_size, a.size_high);
        start_count = omega (arith, its_size, length_table (d.size + 1) upto);
        from_zero = its_start 0 (omega arith) ∙ upto_zero;
        rising = λ i l. omega (arith, its_start i (omega (arith, its_size)), its_start (i + 1) (omega (arith, its_size)), upto_rises i);
        to_end = ap (start its_matrix) its_size ∙ its_start d.size (omega arith) ∙ upto_all ∙ sym (length-map d.entries (λ e. at e 1 - 1));
        as_many = length-map d.entries (λ e. at e 1 - 1) ∙ sym (length-map d.entries (λ e. at e 2));
        few = omega (arith, length-map d.entries (λ e. at e 1 - 1), a.few);
        column_below = its_column_below;
        column_rises = its_column_rises;
        values_taken_law = every_map (value_taken d.modulus) (λ e. at e 2) d.entries ∙ a.values;
        right_length = placed_length d.size 0 d.elements ∙ sym its_size;
        right_below =
            its_every d.size 0 d.elements (λ x. ltb x d.modulus)
            (lt-ltb 0 d.modulus (omega (arith, modulus_low d.modulus a.prime)))
            (every_weaken (λ e. value_taken d.modulus (at e 1)) (λ e. ltb (at e 1) d.modulus) d.elements
            (λ e h. and_right (leb 1 (at e 1)) (ltb (at e 1) d.modulus) h)
            a.element_lines_law.values);
      }

  pub accepted_scales_of : AcceptedScales (system d).modulus (size (system d).matrix) (system d).scales
  unfolding system
  accepted_scales_of =
      let X = placed d.size 1 d.scales in
      record {
        number = or_true_right (eqb (length X) 0) (eq-eqb (length X) (size its_matrix) (placed_length d.size 1 d.scales ∙ sym its_size));
        taken =
            its_every d.size 1 d.scales (value_taken d.modulus)
            (lt-ltb 1 d.modulus (modulus_low d.modulus a.prime))
            a.scale_lines.values;
      }
