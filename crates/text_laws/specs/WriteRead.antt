-- From an accepted system to its document and back.
--     columns_back, values_back, starts_back      each part of the matrix comes back from the document
--     entries_count        the document has an entry for each column
--     placed_back          n places from their lines: the value where there is a line, `none` where there is none
--     scales_full          scales that aren't all 1 are n
--     right_back, scales_back      .. so the right side comes back, and so do the scales, n of them also where none were given
--     system_document      system (document_of p A X b) is p, A, these scales and b
--     accepted_document_of document_of p A X b passes the checks
--     shaped_document_of   .. and is shaped
use Rattle.std.specs.Prelude.{◌≡◌, ◌⊎◌, Bool, not, ltb, leb, get_or, length}
use Rattle.std.proofs.Math.Path.{refl, ap}
use Rattle.std.proofs.Common.{sym, ap₂, ◌∙◌, inl, inr, length-append}
use Rattle.std.proofs.Math.Bool.{true, false, cond}
use mathlib.Core.List.{List, [], ◌∷◌, ◌++◌, map, append-nil}
use Prim.Native.Nat.{ℕ, zero, suc, ◌+◌, ◌-◌, ◌≤◌, ◌<◌, min}
use native.Mathlib.Omega.{arith}
use Rattle.std.proofs.Math.Dec.{eqb}
use Rattle.std.proofs.lemmas.List.{length-map}
use Rattle.std.proofs.Math.ListN.{get_or-eq_default}
use borrow.Author.Tests.{ltb-true, eqb-true, eqb-false, lt-ltb, le-leb, lt-leb, eq-eqb, ne_eqb}
use Rattle.meaning.specs.List.{at, table, every, chain, select, flat}
use Rattle.meaning.specs.Matrix.{Matrix, matrix, size, scale_at}
use Rattle.meaning.specs.Text.{Form, entry, scale, element, row, placed, system}
use Rattle.meaning.specs.Refusal.{within, value_taken, scale_count_taken, before, some_scale}
use Rattle.laws.specs.Bool.{and_right, and_both, or_right, or_true_right, never, test_cases}
use Rattle.laws.specs.List.{get_d_any, table_ext, table_of, length_table, every_nil, every_at, length_none}
use Rattle.laws.specs.Accepted.{start_within}
use Rattle.text_laws.specs.Lists.{select_nil, select_append, select_all, every_one, every_more, every_map}
use Rattle.text_laws.specs.Tables.{every_table, flat_table_zero, flat_table_suc, flat_table_none, flat_table_one, every_flat_table, flat_rows, map_table, map_flat_table, chain_one, chain_nil, chain_table, select_none, chain_flat_table}
use Rattle.text_laws.specs.Numeral.{small_or_large}
use Rattle.text_laws.specs.Form.{arity, say, small, fits}
use Rattle.text_laws.specs.Document.{fit, shaped}
use Rattle.text_laws.specs.Accepted.{start, column, value, row_before, column_before, AcceptedSystem, AcceptedScales, AcceptedLines, AcceptedDocument, place_taken_law, within_of, modulus_high}
use Rattle.text_laws.specs.Coordinates.{entry_at, row_entries, line_at, placed_lines, all_ones, scale_lines, element_lines, document_of}

small_below : (x : ℕ) → x ≤ 2147483647 → small x ≡ true
small_below x h = le-leb x 4294967295 (omega arith)

small_two : (x y : ℕ) → x ≤ 2147483647 → y ≤ 2147483647 → every small (x ∷ y ∷ []) ≡ true
small_two x y f g = every_more small x (y ∷ []) (small_below x f) (every_one small y (small_below y g))

small_three : (x y z : ℕ) → x ≤ 2147483647 → y ≤ 2147483647 → z ≤ 2147483647 → every small (x ∷ y ∷ z ∷ []) ≡ true
small_three x y z f g h = every_more small x (y ∷ z ∷ []) (small_below x f) (small_two y z g h)

value_small : (p x : ℕ) → p ≤ 2147483647 → value_taken p x ≡ true → x ≤ 2147483647
value_small p x h e = omega (arith, ltb-true x p (and_right (leb 1 x) (ltb x p) e))

-- ---- lines of a place and a value, `s` or `b`

module _ (skip : ℕ → Bool) (v : List ℕ) where
  line_test : (t : List ℕ → Bool) (i : ℕ) → (skip i ≡ false → t ((i + 1) ∷ at v i ∷ []) ≡ true) → every t (line_at skip v i) ≡ true
  line_test t i h = go (skip i) h
    where
      go : (z : Bool) → (z ≡ false → t ((i + 1) ∷ at v i ∷ []) ≡ true) → every t (cond z [] (((i + 1) ∷ at v i ∷ []) ∷ [])) ≡ true
      go true h = every_nil t
      go false h = every_one t ((i + 1) ∷ at v i ∷ []) (h refl)

  picked_before : (i m : ℕ) → m ≤ i → select (λ e. eqb (row e) (i + 1)) (placed_lines m skip v) ≡ []
  picked_before i m h =
      select_none (λ e. eqb (row e) (i + 1)) (placed_lines m skip v)
      (every_flat_table (λ e. not (eqb (row e) (i + 1))) m (line_at skip v)
      (λ j l. line_test (λ e. not (eqb (row e) (i + 1))) j (λ z. ap not (ne_eqb (j + 1) (i + 1) (λ q. omega arith)))))

  picked : (i m : ℕ) → i < m → select (λ e. eqb (row e) (i + 1)) (placed_lines m skip v) ≡ line_at skip v i
  picked i zero h = absurd (omega arith)
  picked i (suc m) h =
      ap (select (λ e. eqb (row e) (i + 1))) (flat_table_suc m (line_at skip v))
      ∙ select_append (λ e. eqb (row e) (i + 1)) (placed_lines m skip v) (line_at skip v m) ∙ go (small_or_large i m) (picked i m)
    where
      go : (i < m) ⊎ (m ≤ i) → (i < m → select (λ e. eqb (row e) (i + 1)) (placed_lines m skip v) ≡ line_at skip v i)
          → select (λ e. eqb (row e) (i + 1)) (placed_lines m skip v) ++ select (λ e. eqb (row e) (i + 1)) (line_at skip v m) ≡ line_at skip v i
      go (inl l) ih =
          ap₂ ◌++◌ (ih l)
          (select_none (λ e. eqb (row e) (i + 1)) (line_at skip v m)
          (line_test (λ e. not (eqb (row e) (i + 1))) m (λ z. ap not (ne_eqb (m + 1) (i + 1) (λ q. omega arith)))))
          ∙ append-nil (line_at skip v i)
      go (inr l) ih =
          ap₂ ◌++◌ (picked_before i m l)
          (select_all (λ e. eqb (row e) (i + 1)) (line_at skip v m) (line_test (λ e. eqb (row e) (i + 1)) m
          (λ z. eq-eqb (m + 1) (i + 1) (omega arith)))
          ∙ ap (line_at skip v) (let z : m ≡ i = omega arith in z))

  pub placed_back : (n none : ℕ) → placed n none (placed_lines n skip v) ≡ table n (λ i. cond (skip i) none (at v i))
  unfolding placed
  placed_back n none =
      table_ext n (λ i. at (get_or (select (λ e. eqb (row e) (i + 1)) (placed_lines n skip v)) 0 ((i + 1) ∷ none ∷ [])) 1)
      (λ i. cond (skip i) none (at v i))
      (λ i l. ap (λ s. at (get_or s 0 ((i + 1) ∷ none ∷ [])) 1) (picked i n l) ∙ go i (skip i))
    where
      go : (i : ℕ) (z : Bool)
          → at (get_or (cond z [] (((i + 1) ∷ at v i ∷ []) ∷ [])) 0 ((i + 1) ∷ none ∷ [])) 1 ≡ cond z none (at v i)
      go i true = refl
      go i false = refl

  accepted_placed : (p n : ℕ) → ((i : ℕ) → i < n → skip i ≡ false → value_taken p (at v i) ≡ true) → AcceptedLines p n (placed_lines n skip v)
  accepted_placed p n h =
      record {
        rows =
            every_flat_table (λ e. within 1 n (row e)) n (line_at skip v)
            (λ i l. line_test (λ e. within 1 n (row e)) i (λ z. within_of 1 n (i + 1) (omega arith) (omega arith)));
        rows_ordered =
            chain_flat_table row (λ e f. ltb (row e) (row f)) (line_at skip v) n (λ e f h. lt-ltb (row e) (row f) h)
            (λ i l. alone i (skip i))
            (λ i l. line_test (λ e. eqb (row e) (i + 1)) i (λ z. eq-eqb (i + 1) (i + 1) refl));
        values =
            every_flat_table (λ e. value_taken p (at e 1)) n (line_at skip v)
            (λ i l. line_test (λ e. value_taken p (at e 1)) i (h i l));
      }
    where
      alone : (i : ℕ) (z : Bool) → chain (λ e f. ltb (row e) (row f)) (cond z [] (((i + 1) ∷ at v i ∷ []) ∷ [])) ≡ true
      alone i true = chain_nil (λ e f. ltb (row e) (row f))
      alone i false = chain_one (λ e f. ltb (row e) (row f)) ((i + 1) ∷ at v i ∷ [])

  fit_placed : (f : Form) (p n : ℕ) → eqb 2 (arity f) ≡ true → p ≤ 2147483647 → n ≤ 4096
      → ((i : ℕ) → i < n → skip i ≡ false → value_taken p (at v i) ≡ true) → fit f (placed_lines n skip v) ≡ true
  fit_placed f p n two h m g =
      every_flat_table (λ e. fits (say f e)) n (line_at skip v)
      (λ i l. line_test (λ e. fits (say f e)) i
      (λ z. and_both two (small_two (i + 1) (at v i) (omega arith) (value_small p (at v i) h (g i l z)))))

-- ---- the elements of b

module _ (n : ℕ) (b : List ℕ) (long : length b ≡ n) where
  pub right_back : placed n 0 (element_lines n b) ≡ b
  right_back =
      placed_back (λ i. eqb (at b i) 0) b n 0
      ∙ sym (table_of 0 b n (λ i. cond (eqb (at b i) 0) 0 (at b i)) long (λ i l. go i (test_cases (eqb (at b i) 0))))
    where
      go : (i : ℕ) → (eqb (at b i) 0 ≡ true) ⊎ (eqb (at b i) 0 ≡ false) → at b i ≡ cond (eqb (at b i) 0) 0 (at b i)
      go i (inl e) = eqb-true (at b i) 0 e ∙ ap (λ t. cond t 0 (at b i)) (sym e)
      go i (inr e) = ap (λ t. cond t 0 (at b i)) (sym e)

  element_value : (p : ℕ) → every (λ a. ltb a p) b ≡ true → (i : ℕ) → i < n → eqb (at b i) 0 ≡ false → value_taken p (at b i) ≡ true
  element_value p below i l z =
      and_both (le-leb 1 (at b i) (omega (arith, eqb-false (at b i) 0 z))) (every_at (λ a. ltb a p) b 0 below i (omega (arith, long)))

-- ---- the scales

ones_at : (X : List ℕ) → all_ones X ≡ true → (i : ℕ) → scale_at X i ≡ 1
ones_at X e i = go (small_or_large i (length X))
  where
    go : (i < length X) ⊎ (length X ≤ i) → scale_at X i ≡ 1
    go (inl l) = eqb-true (scale_at X i) 1 (every_at (λ a. eqb a 1) X 1 e i l)
    go (inr l) = get_or-eq_default X 1 {n = i} l

module _ (p n : ℕ) (X : List ℕ) (x : AcceptedScales p n X) where
  pub scales_full : all_ones X ≡ false → length X ≡ n
  scales_full some =
      eqb-true (length X) n
      (or_right (eqb (length X) 0) (eqb (length X) n)
      (ne_eqb (length X) 0 (λ z. never (all_ones X) (ap all_ones (length_none X z) ∙ every_nil (λ a. eqb a 1)) some))
      x.number)

  pub scales_back : placed n 1 (scale_lines n X) ≡ table n (scale_at X)
  scales_back =
      placed_back (λ i. all_ones X) X n 1
      ∙ table_ext n (λ i. cond (all_ones X) 1 (at X i)) (scale_at X) (λ i l. go i l (test_cases (all_ones X)))
    where
      go : (i : ℕ) → i < n → (all_ones X ≡ true) ⊎ (all_ones X ≡ false) → cond (all_ones X) 1 (at X i) ≡ scale_at X i
      go i l (inl e) = ap (λ t. cond t 1 (at X i)) e ∙ sym (ones_at X e i)
      go i l (inr e) = ap (λ t. cond t 1 (at X i)) e ∙ get_d_any X i 0 1 (omega (arith, scales_full e))

  scale_value : (i : ℕ) → i < n → all_ones X ≡ false → value_taken p (at X i) ≡ true
  scale_value i l some = every_at (value_taken p) X 0 x.taken i (omega (arith, scales_full some))

  lines_none : all_ones X ≡ true → scale_lines n X ≡ []
  lines_none e = flat_table_none n (line_at (λ i. all_ones X) X) (λ i l. ap (λ t. cond t [] (((i + 1) ∷ at X i ∷ []) ∷ [])) e)

  lines_all : all_ones X ≡ false → scale_lines n X ≡ table n (λ i. (i + 1) ∷ at X i ∷ [])
  lines_all e =
      (λ j. flat (table n (λ i. cond (e j) [] (((i + 1) ∷ at X i ∷ []) ∷ [])))) ∙ flat_table_one n (λ i. (i + 1) ∷ at X i ∷ [])

  -- all n or none, and not all of them 1
  scale_count : scale_count_taken n (length (scale_lines n X)) ≡ true
  scale_count = go (test_cases (all_ones X))
    where
      go : (all_ones X ≡ true) ⊎ (all_ones X ≡ false) → scale_count_taken n (length (scale_lines n X)) ≡ true
      go (inl e) = ap (λ l. scale_count_taken n (length l)) (lines_none e)
      go (inr e) =
          or_true_right (eqb (length (scale_lines n X)) 0)
          (eq-eqb (length (scale_lines n X)) n (ap length (lines_all e) ∙ length_table n (λ i. (i + 1) ∷ at X i ∷ [])))

  scale_some : some_scale (scale_lines n X) ≡ true
  scale_some = go (test_cases (all_ones X))
    where
      go : (all_ones X ≡ true) ⊎ (all_ones X ≡ false) → some_scale (scale_lines n X) ≡ true
      go (inl e) = ap some_scale (lines_none e)
      go (inr e) =
          or_true_right (eqb (length (scale_lines n X)) 0)
          (ap not
          (ap (every (λ e. eqb (at e 1) 1)) (lines_all e)
          ∙ sym (every_map (λ a. eqb a 1) (λ e. at e 1) (table n (λ i. (i + 1) ∷ at X i ∷ [])))
          ∙ ap all_ones (map_table (λ e. at e 1) n (λ i. (i + 1) ∷ at X i ∷ []) ∙ sym (table_of 0 X n (at X) (scales_full e) (λ i l. refl)))
          ∙ e))

module _ (p : ℕ) (A : Matrix) (X b : List ℕ) (a : AcceptedSystem p A b) (x : AcceptedScales p (size A) X) where
  -- ---- the entries

  abbrev all_entries : List (List ℕ)
  all_entries = flat (table (size A) (row_entries A))

  parts_back : (f : List ℕ → ℕ) (c : List ℕ) → ((i k : ℕ) → f (entry_at A i k) ≡ at c k) → start A (size A) ≡ length c → map f all_entries ≡ c
  parts_back f c h e =
      map_flat_table f (size A) (row_entries A)
      ∙ ap flat
      (table_ext (size A) (λ i. map f (row_entries A i)) (λ i. table (start A (i + 1) - start A i) (λ k. at c (start A i + k)))
      (λ i l. map_table f (start A (i + 1) - start A i) (λ k. entry_at A i (start A i + k))
      ∙ table_ext (start A (i + 1) - start A i) (λ k. f (entry_at A i (start A i + k))) (λ k. at c (start A i + k)) (λ k g. h i (start A i + k))))
      ∙ flat_rows (start A) (at c) (size A) a.from_zero a.rising ∙ ap (λ m. table m (at c)) e
      ∙ sym (table_of 0 c (length c) (at c) refl (λ i l. refl))

  pub columns_back : map (λ e. at e 1 - 1) all_entries ≡ A.columns
  columns_back = parts_back (λ e. at e 1 - 1) A.columns (λ i k. omega arith) a.to_end

  pub values_back : map (λ e. at e 2) all_entries ≡ A.values
  values_back = parts_back (λ e. at e 2) A.values (λ i k. refl) (a.to_end ∙ a.as_many)

  pub entries_count : length A.columns ≡ length all_entries
  entries_count = ap length (sym columns_back) ∙ length-map all_entries (λ e. at e 1 - 1)

  -- the entries of the first m rows whose row is up to i
  counted_rows : (i m : ℕ) → m ≤ size A → length (select (λ e. leb (row e) i) (flat (table m (row_entries A)))) ≡ start A (min m i)
  counted_rows i zero h =
      ap (λ l. length (select (λ e. leb (row e) i) l)) (flat_table_zero (row_entries A)) ∙ ap length (select_nil (λ e. leb (row e) i))
      ∙ sym a.from_zero ∙ ap (start A) (let z : 0 ≡ min 0 i = omega arith in z)
  counted_rows i (suc m) h =
      ap (λ l. length (select (λ e. leb (row e) i) l)) (flat_table_suc m (row_entries A))
      ∙ ap length (select_append (λ e. leb (row e) i) (flat (table m (row_entries A))) (row_entries A m))
      ∙ length-append (select (λ e. leb (row e) i) (flat (table m (row_entries A)))) (select (λ e. leb (row e) i) (row_entries A m))
      ∙ go (small_or_large m i) (counted_rows i m (omega arith))
    where
      go : (m < i) ⊎ (i ≤ m) → length (select (λ e. leb (row e) i) (flat (table m (row_entries A)))) ≡ start A (min m i)
          → length (select (λ e. leb (row e) i) (flat (table m (row_entries A)))) + length (select (λ e. leb (row e) i) (row_entries A m))
          ≡ start A (min (suc m) i)
      go (inl l) ih =
          let whole_row : select (λ e. leb (row e) i) (row_entries A m) ≡ row_entries A m =
          select_all (λ e. leb (row e) i) (row_entries A m)
          (every_table (λ e. leb (row e) i) (start A (m + 1) - start A m) (λ k. entry_at A m (start A m + k))
          (λ k g. le-leb (m + 1) i (omega arith))) in
          ap₂ ◌+◌ (ih ∙ ap (start A) (let z : min m i ≡ m = omega arith in z))
          (ap length whole_row ∙ length_table (start A (m + 1) - start A m) (λ k. entry_at A m (start A m + k)))
          ∙ (let up = a.rising m (omega arith) in let z : start A m + (start A (m + 1) - start A m) ≡ start A (m + 1) = omega arith in z)
          ∙ ap (start A) (let z : m + 1 ≡ min (suc m) i = omega arith in z)
      go (inr l) ih =
          let no_row : select (λ e. leb (row e) i) (row_entries A m) ≡ [] =
          select_none (λ e. leb (row e) i) (row_entries A m)
          (every_table (λ e. not (leb (row e) i)) (start A (m + 1) - start A m) (λ k. entry_at A m (start A m + k))
          (λ k g. ap not (lt-leb (m + 1) i (omega arith)))) in
          ap₂ ◌+◌ ih (ap length no_row) ∙ (let z : start A (min m i) + 0 ≡ start A (min m i) = omega arith in z)
          ∙ ap (start A) (let z : min m i ≡ min (suc m) i = omega arith in z)

  pub starts_back : table (size A + 1) (λ i. length (select (λ e. leb (row e) i) all_entries)) ≡ A.starts
  starts_back =
      sym (table_of 0 A.starts (size A + 1) (λ i. length (select (λ e. leb (row e) i) all_entries)) a.start_count
      (λ i l. ap (start A) (let z : i ≡ min (size A) i = omega arith in z) ∙ sym (counted_rows i (size A) (omega arith))))

  pub system_document : system (document_of p A X b) ≡ record { modulus = p; matrix = A; scales = table (size A) (scale_at X); right = b }
  unfolding system document_of
  system_document =
      λ i. record {
        modulus = p;
        matrix = matrix (starts_back i) (columns_back i) (values_back i);
        scales = scales_back p (size A) X x i;
        right = right_back (size A) b a.right_length i;
      }

  -- ---- the checks

  row_test : (t : List ℕ → Bool) (i : ℕ) → ((k : ℕ) → start A i + k < start A (i + 1) → t (entry_at A i (start A i + k)) ≡ true) → every t
      (row_entries A i) ≡ true
  row_test t i h = every_table t (start A (i + 1) - start A i) (λ k. entry_at A i (start A i + k)) (λ k g. h k (omega arith))

  value_at : (i : ℕ) → i < size A → (k : ℕ) → start A i + k < start A (i + 1) → value_taken p (value A (start A i + k)) ≡ true
  value_at i l k g =
      every_at (value_taken p) A.values 0 a.values_taken_law (start A i + k) (omega (arith, start_within a (i + 1) (omega arith), a.as_many))

  pub accepted_document_of : AcceptedDocument (document_of p A X b)
  unfolding document_of
  accepted_document_of =
      record {
        prime = a.prime;
        size_high = a.size_high;
        counted = entries_count;
        few = omega (arith, a.few, entries_count);
        scale_number = scale_count p (size A) X x;
        places =
            every_flat_table (place_taken_law (size A)) (size A) (row_entries A)
            (λ i l. row_test (place_taken_law (size A)) i
            (λ k g. and_both (within_of 1 (size A) (i + 1) (omega arith) (omega arith))
            (within_of 1 (size A) (column A (start A i + k) + 1) (omega arith) (omega (arith, a.column_below i l k g)))));
        ordered =
            chain_flat_table row before (row_entries A) (size A) row_before
            (λ i l. chain_table before [] (start A (i + 1) - start A i) (λ k. entry_at A i (start A i + k))
            (λ k g. column_before (entry_at A i (start A i + k)) (entry_at A i (start A i + suc k)) refl
            (omega (
              arith,
              a.column_rises i l k (omega arith),
              ap (column A)
                  (let z : start A i + k + 1 ≡ start A i + suc k = omega arith in z),
            ))))
            (λ i l. row_test (λ e. eqb (row e) (i + 1)) i (λ k g. eq-eqb (i + 1) (i + 1) refl));
        some_scale_law = scale_some p (size A) X x;
        values =
            every_flat_table (λ e. value_taken p (at e 2)) (size A) (row_entries A)
            (λ i l. row_test (λ e. value_taken p (at e 2)) i (value_at i l));
        scale_lines = accepted_placed (λ i. all_ones X) X p (size A) (scale_value p (size A) X x);
        element_lines_law =
            accepted_placed (λ i. eqb (at b i) 0) b p (size A) (element_value (size A) b a.right_length p a.right_below);
      }

  pub shaped_document_of : shaped (document_of p A X b) ≡ true
  unfolding shaped document_of
  shaped_document_of =
      let high = modulus_high p a.prime in
      and_both (and_both (and_both
      (small_three p (size A) (length A.columns) high (omega (arith, a.size_high)) (omega (arith, a.few)))
      (every_flat_table (λ e. fits (say entry e)) (size A) (row_entries A)
      (λ i l. row_test (λ e. fits (say entry e)) i
      (λ k g. small_three (i + 1) (column A (start A i + k) + 1) (value A (start A i + k))
      (omega (arith, a.size_high)) (omega (arith, a.size_high, a.column_below i l k g))
      (value_small p (value A (start A i + k)) high (value_at i l k g))))))
      (fit_placed (λ i. all_ones X) X scale p (size A) refl high a.size_high (scale_value p (size A) X x)))
      (fit_placed (λ i. eqb (at b i) 0) b element p (size A) refl high a.size_high
      (element_value (size A) b a.right_length p a.right_below))
