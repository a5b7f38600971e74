-- What the checks leave known when they turn nothing down, as facts on numbers: derived here once, and cited by all who need some of it.
--     modulus_low, modulus_high      a modulus is 2 to 2,147,483,647
--     start A i, column A k, value A k      start i, the column and the value of entry k
--     size_known, starts_known       4 and 5 alone
--     AcceptedSystem p A b           p, A and b pass the checks of a system
--     AcceptedScales p n X           X passes those of scales: none, or n, each 1 to p − 1
--     scales_none                    no scales do
--     system_accepted, system_scales, accepted_system      first (system_checks p A X b) ≡ 0 and these facts: each from the other
--     AcceptedMatrix p A, matrix_accepted   p and A pass the checks of a matrix: so does the system with the right side 0
--     scaled_accepted, scaled_scales        the same of a matrix with its scales; scaled_plain: it passes the checks alone then
--     starts_rise, start_within      starts that rise; none is above the number of entries
--     column_within, value_below, right_at      every entry's column, every entry's value, every element of b
--     AcceptedRun, run_accepted      a system and words pass the checks of a run
--     slices_taken                    11 for the solver: the slices are as long as stated
--     AcceptedCall, call_accepted    solver_refusal is 0: a run, and slices as long as stated
use Rattle.std.specs.Prelude.{◌≡◌, refl, ◌⊎◌, Bool, true, false, not, ◌&&◌, ◌||◌, List, [], ◌∷◌, ℕ, zero, suc, ◌+◌, ◌-◌, ◌*◌, ◌≤◌, ◌<◌, eqb, ltb, leb, length}
use Rattle.std.proofs.Common.{ap, ◌∙◌, subst, inl, inr, eq-or-lt_of_le, add-one, arith, ltb-true, leb-true, leb-false, eqb-true, lt-ltb, le-leb, eq-eqb, ne_eqb}
use Rattle.std.proofs.Math.Bool.{or-true}
use Rattle.std.proofs.Math.Decide.{dec_lt}
use Rattle.std.proofs.lemmas.Bool.{eqb-false, lt-leb, not-true}
use Rattle.meaning.specs.List.{at, all, every, zeros}
use Rattle.meaning.specs.Field.{is_prime, is_modulus}
use Rattle.meaning.specs.Matrix.{Matrix, size}
use Rattle.meaning.specs.Refusal.{check, first, elements, rows_taken, size_taken, starts_taken, columns_taken, value_taken, scale_count_taken, scaled_checks, matrix_checks, words_taken, window_taken}
use Rattle.meaning.specs.Calls.{system_checks, run_checks, solver_refusal}
use Rattle.laws.specs.Bool.{and_left, and_right, and_both, and_five, or_right, test_cases}
use Rattle.laws.specs.List.{all_at, all_of, every_nil, every_at, every_of, length_table, get_or_table}
use Rattle.laws.specs.Refusal.{first_nil, first_passed, first_pass, first_append_zero, numbered_scaled, numbered_matrix, numbered_system, numbered_run}

pub modulus_low : (p : ℕ) → is_modulus p ≡ true → 2 ≤ p
unfolding is_modulus is_prime
modulus_low p e =
    leb-true 2 p (and_left (leb 2 p) (all (p - 2) _) (and_left (is_prime p) (leb p 2147483647) e))

pub modulus_high : (p : ℕ) → is_modulus p ≡ true → p ≤ 2147483647
unfolding is_modulus
modulus_high p e = leb-true p 2147483647 (and_right (is_prime p) (leb p 2147483647) e)

abbrev pub start : Matrix → ℕ → ℕ
start A i = at A.starts i

abbrev pub column : Matrix → ℕ → ℕ
column A k = at A.columns k

abbrev pub value : Matrix → ℕ → ℕ
value A k = at A.values k

-- ---- each check alone

pub size_known : (A : Matrix) → size_taken A ≡ true → (size A ≤ 4096) × (length A.starts ≡ size A + 1)
unfolding size_taken
size_known A e =
    let some = not (eqb (length A.starts) 0) in
    (leb-true (size A) 4096 (and_right some (rows_taken (size A)) e), positive (length A.starts) (and_left some (rows_taken (size A)) e))
  where
    positive : (n : ℕ) → not (eqb n 0) ≡ true → n ≡ n - 1 + 1
    positive zero q = absurd (eqb-false 0 0 (not-true (eqb 0 0) q) refl)
    positive (suc n) q = omega arith

pub starts_known : (A : Matrix) → starts_taken A ≡ true
    → (start A 0 ≡ 0) × ((i : ℕ) → i < size A → start A i ≤ start A (i + 1)) × (start A (size A) ≡ length A.columns)
    × (length A.columns ≡ length A.values) × (length A.columns ≤ 65536)
unfolding starts_taken
starts_known A e =
    let s =
    and_five (eqb (start A 0) 0) (all (size A) (λ i. leb (start A i) (start A (i + 1))))
    (eqb (start A (size A)) (length A.columns)) (eqb (length A.columns) (length A.values))
    (leb (length A.columns) 65536) e in (
      eqb-true (start A 0) 0 s.0,
      λ i l. leb-true (start A i) (start A (i + 1)) (all_at (size A) (λ i. leb (start A i) (start A (i + 1))) s.1 i l),
      eqb-true (start A (size A)) (length A.columns) s.2,
      eqb-true (length A.columns) (length A.values) s.3,
      leb-true (length A.columns) 65536 s.4,
    )

abbrev column_test : Matrix → ℕ → ℕ → Bool
column_test A end k = ltb (column A k) (size A) && (leb end (k + 1) || ltb (column A k) (column A (k + 1)))

columns_at : (A : Matrix) → columns_taken A ≡ true → (i : ℕ) → i < size A → (k : ℕ) → start A i + k < start A (i + 1)
    → column_test A (start A (i + 1)) (start A i + k) ≡ true
unfolding columns_taken
columns_at A e i h k l =
    all_at (start A (i + 1) - start A i) (λ j. column_test A (start A (i + 1)) (start A i + j))
    (all_at (size A) (λ i. all (start A (i + 1) - start A i) (λ j. column_test A (start A (i + 1)) (start A i + j))) e i h)
    k (omega arith)

columns_of : (A : Matrix)
    → ((i : ℕ) → i < size A → (k : ℕ) → start A i + k < start A (i + 1) → column_test A (start A (i + 1)) (start A i + k) ≡ true)
    → columns_taken A ≡ true
unfolding columns_taken
columns_of A h =
    all_of (size A) (λ i. all (start A (i + 1) - start A i) (λ j. column_test A (start A (i + 1)) (start A i + j)))
    (λ i l. all_of (start A (i + 1) - start A i) (λ j. column_test A (start A (i + 1)) (start A i + j))
    (λ k g. h i l k (omega arith)))

-- ---- a system

pub record AcceptedSystem (p : ℕ) (A : Matrix) (b : List ℕ) : Type 0 where
  pub prime : is_modulus p ≡ true
  pub size_high : size A ≤ 4096
  pub start_count : length A.starts ≡ size A + 1
  pub from_zero : start A 0 ≡ 0
  pub rising : (i : ℕ) → i < size A → start A i ≤ start A (i + 1)
  pub to_end : start A (size A) ≡ length A.columns
  pub as_many : length A.columns ≡ length A.values
  pub few : length A.columns ≤ 65536
  pub column_below : (i : ℕ) → i < size A → (k : ℕ) → start A i + k < start A (i + 1) → column A (start A i + k) < size A
  pub column_rises : (i : ℕ) → i < size A → (k : ℕ) → start A i + k + 1 < start A (i + 1)
      → column A (start A i + k) < column A (start A i + k + 1)
  pub values_taken_law : every (value_taken p) A.values ≡ true
  pub right_length : length b ≡ size A
  pub right_below : every (λ a. ltb a p) b ≡ true

pub record AcceptedScales (p n : ℕ) (X : List ℕ) : Type 0 where
  pub number : scale_count_taken n (length X) ≡ true
  pub taken : every (value_taken p) X ≡ true

pub scales_none : (p n : ℕ) → AcceptedScales p n []
scales_none p n = record { number = refl; taken = every_nil (value_taken p) }

-- what 3 to 7 say, beside the checks that follow them
record Passed (p : ℕ) (A : Matrix) (X : List ℕ) : Type 0 where
  prime : is_modulus p ≡ true
  sized : size_taken A ≡ true
  started : starts_taken A ≡ true
  columned : columns_taken A ≡ true
  valued : every (value_taken p) A.values ≡ true
  scales : AcceptedScales p (size A) X

scaled_passed : (p : ℕ) (A : Matrix) (X : List ℕ) → first (scaled_checks p A X) ≡ 0 → Passed p A X
unfolding scaled_checks
scaled_passed p A X e =
    let c3 = first_passed 3 (is_modulus p) _ (omega arith) e in
    let c4 = first_passed 4 (size_taken A) _ (omega arith) c3.1 in
    let c5 = first_passed 5 (starts_taken A && scale_count_taken (size A) (length X)) _ (omega arith) c4.1 in
    let c6 = first_passed 6 (columns_taken A) _ (omega arith) c5.1 in
    let c7 = first_passed 7 (every (value_taken p) A.values && every (value_taken p) X) _ (omega arith) c6.1 in
    record {
      prime = c3.0;
      sized = c4.0;
      started = and_left (starts_taken A) (scale_count_taken (size A) (length X)) c5.0;
      columned = c6.0;
      valued = and_left (every (value_taken p) A.values) (every (value_taken p) X) c7.0;
      scales =
          record {
            number = and_right (starts_taken A) (scale_count_taken (size A) (length X)) c5.0;
            taken = and_right (every (value_taken p) A.values) (every (value_taken p) X) c7.0;
          };
    }

system_parts : (p : ℕ) (A : Matrix) (X b : List ℕ) → first (system_checks p A X b) ≡ 0
    → (first (scaled_checks p A X) ≡ 0) × (length b ≡ size A) × (every (λ a. ltb a p) b ≡ true)
unfolding system_checks elements
system_parts p A X b e =
    let both = first_append_zero (scaled_checks p A X) (check 8 (not (eqb (length b) (size A))) ∷ check 9 (not (elements p b)) ∷ []) (numbered_scaled p A X) e in
    let c8 = first_passed 8 (eqb (length b) (size A)) _ (omega arith) both.1 in
    let c9 = first_passed 9 (elements p b) _ (omega arith) c8.1 in
    (both.0, eqb-true (length b) (size A) c8.0, c9.0)

pub system_scales : (p : ℕ) (A : Matrix) (X b : List ℕ) → first (system_checks p A X b) ≡ 0 → AcceptedScales p (size A) X
system_scales p A X b e = (scaled_passed p A X (system_parts p A X b e).0).scales

known_system : (p : ℕ) (A : Matrix) (X b : List ℕ) → Passed p A X → length b ≡ size A → every (λ a. ltb a p) b ≡ true → AcceptedSystem p A b
known_system p A X b c right below =
    known c.prime (size_known A c.sized) (starts_known A c.started) (columns_at A c.columned) c.valued right below
  where
    known : is_modulus p ≡ true → (size A ≤ 4096) × (length A.starts ≡ size A + 1)
        → (start A 0 ≡ 0) × ((i : ℕ) → i < size A → start A i ≤ start A (i + 1)) × (start A (size A) ≡ length A.columns)
        × (length A.columns ≡ length A.values) × (length A.columns ≤ 65536)
        → ((i : ℕ) → i < size A → (k : ℕ) → start A i + k < start A (i + 1) → column_test A (start A (i + 1)) (start A i + k) ≡ true)
        → every (value_taken p) A.values ≡ true → length b ≡ size A → every (λ a. ltb a p) b ≡ true → AcceptedSystem p A b
    known modulus sized starts columns values right below =
        record {
          prime = modulus;
          size_high = sized.0;
          start_count = sized.1;
          from_zero = starts.0;
          rising = starts.1;
          to_end = starts.2;
          as_many = starts.3;
          few = starts.4;
          column_below = λ i l k g.
              ltb-true (column A (start A i + k)) (size A)
              (and_left (ltb (column A (start A i + k)) (size A)) _ (columns i l k g));
          column_rises = λ i l k g.
              ltb-true (column A (start A i + k)) (column A (start A i + k + 1))
              (or_right (leb (start A (i + 1)) (start A i + k + 1)) _ (lt-leb (start A (i + 1)) (start A i + k + 1) g)
              (and_right (ltb (column A (start A i + k)) (size A)) _ (columns i l k (omega arith))));
          values_taken_law = values;
          right_length = right;
          right_below = below;
        }

pub system_accepted : (p : ℕ) (A : Matrix) (X b : List ℕ) → first (system_checks p A X b) ≡ 0 → AcceptedSystem p A b
system_accepted p A X b e =
    let parts = system_parts p A X b e in
    known_system p A X b (scaled_passed p A X parts.0) parts.1 parts.2

pub accepted_system : (p : ℕ) (A : Matrix) (X b : List ℕ) → AcceptedSystem p A b → AcceptedScales p (size A) X → first (system_checks p A X b) ≡ 0
unfolding system_checks scaled_checks size_taken starts_taken elements
accepted_system p A X b a x =
    first_pass 3 (is_modulus p) _ a.prime
    (first_pass 4 (size_taken A) _ taken_size
    (first_pass 5 (starts_taken A && scale_count_taken (size A) (length X)) _ (and_both taken_starts x.number)
    (first_pass 6 (columns_taken A) _ (columns_of A taken_column)
    (first_pass 7 (every (value_taken p) A.values && every (value_taken p) X) _ (and_both a.values_taken_law x.taken)
    (first_pass 8 (eqb (length b) (size A)) _ (eq-eqb (length b) (size A) a.right_length)
    (first_pass 9 (every (λ a. ltb a p) b) [] a.right_below first_nil))))))
  where
    taken_size : not (eqb (length A.starts) 0) && rows_taken (size A) ≡ true
    taken_size =
        and_both (ap not (ne_eqb (length A.starts) 0 (λ z. omega (arith, a.start_count)))) (le-leb (size A) 4096 a.size_high)

    taken_starts : eqb (start A 0) 0 && all (size A) (λ i. leb (start A i) (start A (i + 1)))
        && eqb (start A (size A)) (length A.columns) && eqb (length A.columns) (length A.values)
        && leb (length A.columns) 65536 ≡ true
    taken_starts =
        and_both (and_both (and_both (and_both (eq-eqb (start A 0) 0 a.from_zero)
        (all_of (size A) (λ i. leb (start A i) (start A (i + 1))) (λ i l. le-leb (start A i) (start A (i + 1)) (a.rising i l))))
        (eq-eqb (start A (size A)) (length A.columns) a.to_end))
        (eq-eqb (length A.columns) (length A.values) a.as_many))
        (le-leb (length A.columns) 65536 a.few)

    taken_column : (i : ℕ) → i < size A → (k : ℕ) → start A i + k < start A (i + 1)
        → column_test A (start A (i + 1)) (start A i + k) ≡ true
    taken_column i l k g =
        and_both (lt-ltb (column A (start A i + k)) (size A) (a.column_below i l k g))
        (last (test_cases (leb (start A (i + 1)) (start A i + k + 1))))
      where
        last : (leb (start A (i + 1)) (start A i + k + 1) ≡ true) ⊎ (leb (start A (i + 1)) (start A i + k + 1) ≡ false)
            → (leb (start A (i + 1)) (start A i + k + 1)
            || ltb (column A (start A i + k)) (column A (start A i + k + 1))) ≡ true
        last (inl e) = ap (λ t. t || ltb (column A (start A i + k)) (column A (start A i + k + 1))) e
        last (inr e) =
            ap (λ t. leb (start A (i + 1)) (start A i + k + 1) || t)
            (lt-ltb (column A (start A i + k)) (column A (start A i + k + 1))
            (a.column_rises i l k (leb-false (start A (i + 1)) (start A i + k + 1) e)))
            ∙ or-true (leb (start A (i + 1)) (start A i + k + 1))

-- a matrix alone
abbrev pub AcceptedMatrix : ℕ → Matrix → Type 0
AcceptedMatrix p A = AcceptedSystem p A (zeros (size A))

zeros_right : (p n : ℕ) → 2 ≤ p → every (λ a. ltb a p) (zeros n) ≡ true
zeros_right p n l =
    every_of (λ a. ltb a p) (zeros n) 0
    (λ i k. lt-ltb (at (zeros n) i) p (omega (arith, get_or_table {A = ℕ} n (λ i. 0) i 0 (omega (arith, k, length_table {A = ℕ} n (λ i. 0))), l)))

pub scaled_accepted : (p : ℕ) (A : Matrix) (X : List ℕ) → first (scaled_checks p A X) ≡ 0 → AcceptedMatrix p A
scaled_accepted p A X e =
    let c = scaled_passed p A X e in
    known_system p A X (zeros (size A)) c (length_table (size A) (λ i. 0)) (zeros_right p (size A) (modulus_low p c.prime))

pub scaled_scales : (p : ℕ) (A : Matrix) (X : List ℕ) → first (scaled_checks p A X) ≡ 0 → AcceptedScales p (size A) X
scaled_scales p A X e = (scaled_passed p A X e).scales

-- a matrix that passes the checks with its scales passes them alone
pub scaled_plain : (p : ℕ) (A : Matrix) (X : List ℕ) → first (scaled_checks p A X) ≡ 0 → first (matrix_checks p A) ≡ 0
unfolding system_checks
scaled_plain p A X e =
    (first_append_zero (matrix_checks p A) _ (numbered_matrix p A)
    (accepted_system p A [] (zeros (size A)) (scaled_accepted p A X e) (scales_none p (size A)))).0

pub matrix_accepted : (p : ℕ) (A : Matrix) → first (matrix_checks p A) ≡ 0 → AcceptedMatrix p A
matrix_accepted p A e = scaled_accepted p A [] e

-- ---- every start, every entry, every element

pub starts_rise : (A : Matrix) → ((i : ℕ) → i < size A → start A i ≤ start A (i + 1)) → (i m : ℕ) → i ≤ m → m ≤ size A → start A i ≤ start A m
starts_rise A r i zero h g = omega (arith, ap (start A) (let z : i ≡ 0 = omega arith in z))
starts_rise A r i (suc m) h g = go (eq-or-lt_of_le h) (λ l. starts_rise A r i m l (omega arith))
  where
    go : (i ≡ suc m) ⊎ (i < suc m) → (i ≤ m → start A i ≤ start A m) → start A i ≤ start A (suc m)
    go (inl q) ih = omega (arith, ap (start A) q)
    go (inr l) ih = omega (arith, ih (omega arith), r m (omega arith), ap (start A) (add-one m))

module _ {p : ℕ} {A : Matrix} {b : List ℕ} (a : AcceptedSystem p A b) where
  pub start_within : (i : ℕ) → i ≤ size A → start A i ≤ length A.columns
  start_within i l = omega (arith, starts_rise A a.rising i (size A) l (omega arith), a.to_end)

  -- every entry is in some row
  column_before : (i : ℕ) → i ≤ size A → (k : ℕ) → k < start A i → column A k < size A
  column_before zero l k g = absurd (omega (arith, a.from_zero))
  column_before (suc i) l k g = side (dec_lt k (start A i)) (column_before i (omega arith) k)
    where
      side : Dec (k < start A i) → (k < start A i → column A k < size A) → column A k < size A
      side (yes m) ih = ih m
      side (no m) ih =
          let e : start A i + (k - start A i) ≡ k = omega arith in
          subst (λ j. column A j < size A) e (a.column_below i l (k - start A i) (omega (arith, e, g, ap (start A) (add-one i))))

  pub column_within : (k : ℕ) → k < length A.columns → column A k < size A
  column_within k l = column_before (size A) (omega arith) k (omega (arith, a.to_end))

  pub value_below : (k : ℕ) → k < length A.values → value A k < p
  value_below k l =
      ltb-true (value A k) p (and_right (leb 1 (value A k)) (ltb (value A k) p) (every_at (value_taken p) A.values 0 a.values_taken_law k l))

  pub right_at : (i : ℕ) → i < size A → at b i < p
  right_at i l = ltb-true (at b i) p (every_at (λ x. ltb x p) b 0 a.right_below i (omega (arith, a.right_length)))

-- ---- a run, and a call of the solver

pub record AcceptedRun (p : ℕ) (A : Matrix) (X b words : List ℕ) : Type 0 where
  pub system : AcceptedSystem p A b
  pub scales : AcceptedScales p (size A) X
  pub words_taken_law : words_taken (size A) words ≡ true

pub run_accepted : (p : ℕ) (A : Matrix) (X b words : List ℕ) (w : ℕ) → first (run_checks p A X b words w) ≡ 0 → AcceptedRun p A X b words
unfolding run_checks
run_accepted p A X b words w e =
    let both = first_append_zero (system_checks p A X b) (check 10 (not (words_taken (size A) words)) ∷ check 13 (not (window_taken w)) ∷ []) (numbered_system p A X b) e in
    record {
      system = system_accepted p A X b both.0;
      scales = system_scales p A X b both.0;
      words_taken_law = (first_passed 10 (words_taken (size A) words) _ (omega arith) both.1).0;
    }

abbrev pub slices_taken : ℕ → List ℕ → List ℕ → List ℕ → Bool
slices_taken n v f w = eqb (length v) n && eqb (length f) (n + 1) && leb (16 * n + 16) (length w)

pub record AcceptedCall (p : ℕ) (A : Matrix) (X b words v f work : List ℕ) : Type 0 where
  pub run : AcceptedRun p A X b words
  pub vector_size : length v ≡ size A
  pub polynomial_size : length f ≡ size A + 1
  pub room : 16 * size A + 16 ≤ length work

pub call_accepted : (p : ℕ) (A : Matrix) (X b words : List ℕ) (w : ℕ) (v f work : List ℕ) → solver_refusal p A X b words w v f work ≡ 0
    → AcceptedCall p A X b words v f work
unfolding solver_refusal
call_accepted p A X b words w v f work e =
    let both = first_append_zero (run_checks p A X b words w) (check 11 (not (slices_taken (size A) v f work)) ∷ []) (numbered_run p A X b words w) e in
    let slices = (first_passed 11 (slices_taken (size A) v f work) [] (omega arith) both.1).0 in
    let lengths = and_left (eqb (length v) (size A) && eqb (length f) (size A + 1)) (leb (16 * size A + 16) (length work)) slices in
    record {
      run = run_accepted p A X b words w both.0;
      vector_size = eqb-true (length v) (size A) (and_left (eqb (length v) (size A)) (eqb (length f) (size A + 1)) lengths);
      polynomial_size = eqb-true (length f) (size A + 1) (and_right (eqb (length v) (size A)) (eqb (length f) (size A + 1)) lengths);
      room = leb-true (16 * size A + 16) (length work) (and_right (eqb (length v) (size A) && eqb (length f) (size A + 1)) (leb (16 * size A + 16) (length work)) slices);
    }
