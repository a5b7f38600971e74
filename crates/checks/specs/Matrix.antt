-- The checks of a matrix, and what they leave known.
--     column_taken      6 for one entry: its column is below n, and below the next one of its row
--     rises            a column is below the next one
--     row_taken         6 for one row
--     Ordered          starts that rise and stay within the entries
--     all_more, all_next, all_from_none, all_from_more, all_from_at, all_from_of      tests along a loop
--     row_last         6 for one row by its last column
--     size_range, length_size_taken, rows_columns_taken, rows_next, all_elements      each check by what the code asks
--     ordered          what 6 asks of the starts
--     scaled_modulus, scaled_valid, matrix_valid, Accepted, system_accepted      what the checks of a matrix with its scales, of one without and of one
--                      with a vector leave known
--     scaled_sized, matrix_sized, system_sized      the starts' number
--     product_refused, product_passed, product_accepted      a product's checks; what they leave known
--     scaled_apply_refusal, scaled_apply_after, apply_plain      g(AX)v, and without scales g(A)v
--     Applicable, apply_accepted; takes_accepted             the same of g(AX)v, and of the check that A takes x to b
use Rattle.std.specs.Prelude.{◌≡◌, refl, ◌≢◌, Bool, true, ◌&&◌, ◌||◌, not, ℕ, zero, suc, ◌+◌, ◌-◌, ◌*◌, ◌≤◌, ◌<◌, eqb, ltb, leb, length}
use Rattle.std.proofs.Math.Path.{sym, ap}
use Rattle.std.proofs.Common.{ap₂, ◌∙◌, subst, add-zero, add-sub_of_le, pos_of_ne-zero, add-one, arith}
use mathlib.Core.List.{List, [], ◌∷◌, ◌++◌, append_assoc}
use Rattle.std.proofs.Math.Nat.{sub_self}
use Rattle.std.proofs.Math.Decide.{dec_lt}
use borrow.Author.Tests.{ltb-true, leb-true, eqb-true, eqb-false, lt-ltb, le-leb, lt-leb, ne_eqb, not-true}
use Rattle.meaning.specs.List.{at, all, all_from}
use Rattle.meaning.specs.Field.{is_modulus}
use Rattle.meaning.specs.Matrix.{Matrix, matrix, size, apply, scaled}
use Rattle.meaning.specs.Refusal.{Check, check, first, unless_refused, within, size_taken, starts_taken, columns_taken, elements, scaled_checks, matrix_checks}
use Rattle.meaning.specs.Calls.{system_checks, product_refusal, apply_refusal, takes_refusal}
use Rattle.laws.specs.Bool.{and_left, and_right, and_both, same_test}
use Rattle.laws.specs.List.{all_zero, all_suc, all_at, all_of, every_all}
use Rattle.laws.specs.Refusal.{first_passed, numbered_scaled, numbered_matrix, numbered_system, first_append_zero, zero_by, leading_refused, leading_passed}
use Rattle.laws.specs.Accepted as laws
use Rattle.laws.specs.Accepted.{starts_known, starts_rise, scaled_accepted, scaled_scales}
use Rattle.checks.specs.Valid.{Valid, Vector, ValidScaled, valid_of, scales_of_law, right_of, vector_of}

abbrev pub column_taken : ℕ → ℕ → List ℕ → ℕ → Bool
column_taken n end columns k = ltb (at columns k) n && (leb end (k + 1) || ltb (at columns k) (at columns (k + 1)))

-- column k is below the next one
abbrev pub rises : List ℕ → ℕ → Bool
rises columns k = ltb (at columns k) (at columns (k + 1))

-- 6 for row i
abbrev pub row_taken : List ℕ → List ℕ → ℕ → Bool
row_taken starts columns i = all_from (at starts i) (at starts (i + 1)) (column_taken (length starts - 1) (at starts (i + 1)) columns)

pub record Ordered (starts : List ℕ) (count : ℕ) : Type 0 where
  pub some : 0 < length starts
  pub rise : (i : ℕ) → i < length starts - 1 → at starts i ≤ at starts (i + 1)
  pub within : (i : ℕ) → i < length starts - 1 → at starts (i + 1) ≤ count

-- ---- tests along a loop

pub all_more : (n : ℕ) (f : ℕ → Bool) → all (n + 1) f ≡ all n f && f n
all_more n f = ap (λ k. all k f) (add-one n) ∙ all_suc n f

pub all_next : (n : ℕ) (f : ℕ → Bool) → all n f ≡ true → f n ≡ true → all (n + 1) f ≡ true
all_next n f e h = all_more n f ∙ and_both e h

module _ (a : ℕ) (f : ℕ → Bool) where
  pub all_from_none : all_from a a f ≡ true
  all_from_none = ap (λ n. all n (λ j. f (a + j))) (sub_self a) ∙ all_zero (λ j. f (a + j))

  pub all_from_more : (k : ℕ) → a ≤ k → all_from a (k + 1) f ≡ all_from a k f && f k
  all_from_more k l =
      let one : k + 1 - a ≡ k - a + 1 = omega (arith, l) in
      ap (λ n. all n (λ j. f (a + j))) one ∙ all_more (k - a) (λ j. f (a + j)) ∙ ap (λ i. all_from a k f && f i) (add-sub_of_le l)

  pub all_from_at : (b : ℕ) → all_from a b f ≡ true → (k : ℕ) → a ≤ k → k < b → f k ≡ true
  all_from_at b e k l m =
      ap f (sym (add-sub_of_le l)) ∙ all_at (b - a) (λ j. f (a + j)) e (k - a) (omega (arith, l, m))

  pub all_from_of : (b : ℕ) → ((k : ℕ) → a ≤ k → k < b → f k ≡ true) → all_from a b f ≡ true
  all_from_of b h = all_of (b - a) (λ j. f (a + j)) (λ j l. h (a + j) (omega arith) (omega (arith, l)))

-- ---- the columns of a row

-- the last column of a row that rises is its greatest
module _ (n from end : ℕ) (columns : List ℕ) where
  below_last : all_from from (end - 1) (rises columns) ≡ true → at columns (end - 1) < n → (d k : ℕ) → from ≤ k → k + d ≡ end - 1 → at columns k < n
  below_last r h zero k l e = subst (λ i. at columns i < n) (sym e ∙ add-zero k) h
  below_last r h (suc d) k l e =
      let next = ltb-true (at columns k) (at columns (k + 1)) (all_from_at from (rises columns) (end - 1) r k l (omega (arith, e))) in
      let ih = below_last r h d (k + 1) (omega (arith, l)) (omega (arith, e)) in
      omega (arith, next, ih)

  -- so it alone is to be held against n
  pub row_last : from < end → all_from from end (column_taken n end columns) ≡ all_from from (end - 1) (rises columns) && ltb (at columns (end - 1)) n
  row_last some = same_test (all_from from end (column_taken n end columns)) (all_from from (end - 1) (rises columns) && ltb (at columns (end - 1)) n) to back
    where
      to : all_from from end (column_taken n end columns) ≡ true → all_from from (end - 1) (rises columns) && ltb (at columns (end - 1)) n ≡ true
      to e =
          let here = all_from_at from (column_taken n end columns) end e in
          and_both
          (all_from_of from (rises columns) (end - 1)
          (λ k l m. ap (λ t. t || rises columns k) (sym (lt-leb end (k + 1) (omega (arith, m))))
          ∙ and_right (ltb (at columns k) n) (leb end (k + 1) || rises columns k) (here k l (omega (arith, m)))))
          (and_left (ltb (at columns (end - 1)) n) (leb end (end - 1 + 1) || rises columns (end - 1)) (here (end - 1) (omega (arith, some)) (omega (arith, some))))

      back : all_from from (end - 1) (rises columns) && ltb (at columns (end - 1)) n ≡ true → all_from from end (column_taken n end columns) ≡ true
      back e =
          let r = and_left (all_from from (end - 1) (rises columns)) (ltb (at columns (end - 1)) n) e in
          let h = ltb-true (at columns (end - 1)) n (and_right (all_from from (end - 1) (rises columns)) (ltb (at columns (end - 1)) n) e) in
          all_from_of from (column_taken n end columns) end
          (λ k l m. and_both (lt-ltb (at columns k) n (below_last r h (end - 1 - k) k l (omega (arith, m)))) (next r k l (dec_lt (k + 1) end)))
        where
          next : all_from from (end - 1) (rises columns) ≡ true → (k : ℕ) → from ≤ k → Dec (k + 1 < end) → leb end (k + 1) || rises columns k ≡ true
          next r k l (yes m) =
              ap (λ t. t || rises columns k) (lt-leb end (k + 1) m) ∙ all_from_at from (rises columns) (end - 1) r k l (omega (arith, m))
          next r k l (no m) = ap (λ t. t || rises columns k) (le-leb end (k + 1) (omega (arith, m)))

-- ---- each check by what the code asks

pub size_range : (n : ℕ) → not (eqb n 0) && leb (n - 1) 4096 ≡ leb 1 n && leb n 4097
size_range n = same_test (not (eqb n 0) && leb (n - 1) 4096) (leb 1 n && leb n 4097) to from
  where
    to : not (eqb n 0) && leb (n - 1) 4096 ≡ true → leb 1 n && leb n 4097 ≡ true
    to e =
        let some = eqb-false n 0 (not-true (eqb n 0) (and_left (not (eqb n 0)) (leb (n - 1) 4096) e)) in
        let high = leb-true (n - 1) 4096 (and_right (not (eqb n 0)) (leb (n - 1) 4096) e) in
        and_both (le-leb 1 n (pos_of_ne-zero some)) (le-leb n 4097 (omega (arith, high)))

    from : leb 1 n && leb n 4097 ≡ true → not (eqb n 0) && leb (n - 1) 4096 ≡ true
    from e =
        let low = leb-true 1 n (and_left (leb 1 n) (leb n 4097) e) in
        let high = leb-true n 4097 (and_right (leb 1 n) (leb n 4097) e) in
        and_both (ap not (ne_eqb n 0 (λ q. omega (arith, low, q)))) (le-leb (n - 1) 4096 (omega (arith, high)))

pub length_size_taken : (starts columns values : List ℕ) → size_taken (matrix starts columns values) ≡ leb 1 (length starts) && leb (length starts) 4097
unfolding size_taken
length_size_taken starts columns values = size_range (length starts)

pub rows_columns_taken : (starts columns values : List ℕ)
    → columns_taken (matrix starts columns values) ≡ all (length starts - 1) (row_taken starts columns)
unfolding columns_taken
rows_columns_taken starts columns values = refl

-- one row more
pub rows_next : (starts columns : List ℕ) (i : ℕ) {taken row : Bool} {from end : ℕ} → taken ≡ all i (row_taken starts columns)
    → row ≡ all_from from end (column_taken (length starts - 1) end columns) → from ≡ at starts i → end ≡ at starts (i + 1)
    → taken && row ≡ all (i + 1) (row_taken starts columns)
rows_next starts columns i e f a b =
    ap₂ ◌&&◌ e (f ∙ ap₂ (λ from end. all_from from end (column_taken (length starts - 1) end columns)) a b) ∙ sym (all_more i (row_taken starts columns))

pub all_elements : (p : ℕ) (v : List ℕ) → elements p v ≡ all (length v) (λ i. ltb (at v i) p)
unfolding elements
all_elements p v = every_all (λ a. ltb a p) v 0

-- what 6 asks of the starts, where 5 turned nothing down
pub ordered : (A : Matrix) → starts_taken A ≡ true → 0 < length A.starts → Ordered A.starts (length A.columns)
ordered A e l =
    let starts = starts_known A e in
    record {
      some = l;
      rise = starts.1;
      within = λ i k. omega (arith, starts_rise A starts.1 (i + 1) (size A) (omega (arith, k)) (omega arith), starts.2);
    }

pub scaled_modulus : (p : ℕ) (A : Matrix) (X : List ℕ) → first (scaled_checks p A X) ≡ 0 → is_modulus p ≡ true
scaled_modulus p A X e = (scaled_accepted p A X e).prime

-- ---- the calls' checks

pub scaled_valid : (p : ℕ) (A : Matrix) (X : List ℕ) → first (scaled_checks p A X) ≡ 0 → ValidScaled p A X
scaled_valid p A X e = record { valid = valid_of (scaled_accepted p A X e); scales = scales_of_law (scaled_scales p A X e) }

pub matrix_valid : (p : ℕ) (A : Matrix) → first (matrix_checks p A) ≡ 0 → Valid p A
matrix_valid p A e = (scaled_valid p A [] e).valid

-- a matrix and a vector that were not turned down
pub record Accepted (p : ℕ) (A : Matrix) (v : List ℕ) : Type 0 where
  pub prime : is_modulus p ≡ true
  pub valid : Valid p A
  pub vector : Vector p (size A) v

abbrev pub vector_checks : ℕ → Matrix → List ℕ → List Check
vector_checks p A b = check 8 (not (eqb (length b) (size A))) ∷ check 9 (not (elements p b)) ∷ []

pub system_accepted : (p : ℕ) (A : Matrix) (X b : List ℕ) → first (system_checks p A X b) ≡ 0 → Accepted p A b
system_accepted p A X b e =
    let a = laws.system_accepted p A X b e in
    record { prime = a.prime; valid = valid_of a; vector = right_of a }

-- the starts' number, where the code has the number of the checks
pub scaled_sized : (p : ℕ) (A : Matrix) (X : List ℕ) {number : ℕ} → number ≡ first (scaled_checks p A X) → number ≡ 0
    → (1 ≤ length A.starts) × (length A.starts ≤ 4097)
scaled_sized p A X e z =
    let a = scaled_accepted p A X (zero_by e z) in
    (omega (arith, a.start_count), omega (arith, a.size_high))

pub matrix_sized : (p : ℕ) (A : Matrix) {number : ℕ} → number ≡ first (matrix_checks p A) → number ≡ 0
    → (1 ≤ length A.starts) × (length A.starts ≤ 4097)
matrix_sized p A e z = scaled_sized p A [] e z

pub system_sized : (p : ℕ) (A : Matrix) (X b : List ℕ) {number : ℕ} → number ≡ first (system_checks p A X b) → number ≡ 0
    → (1 ≤ length A.starts) × (length A.starts ≤ 4097)
system_sized p A X b e z =
    let a = laws.system_accepted p A X b (zero_by e z) in
    (omega (arith, a.start_count), omega (arith, a.size_high))

-- a product's checks are the system's, and then its slice's
module _ (p : ℕ) (A : Matrix) (v out : List ℕ) where
  slice : List Check
  slice = check 11 (not (eqb (length out) (size A))) ∷ []

  product_refusal_system : product_refusal p A v out ≡ first (system_checks p A [] v ++ slice)
  unfolding product_refusal system_checks slice
  product_refusal_system = ap first (sym (append_assoc (matrix_checks p A) (vector_checks p A v) slice))

  pub product_refused : {number : ℕ} → number ≡ first (system_checks p A [] v) → number ≢ 0 → number ≡ product_refusal p A v out
  product_refused e q = leading_refused (system_checks p A [] v) slice (numbered_system p A [] v) e q ∙ sym product_refusal_system

  pub product_passed : {number k : ℕ} → number ≡ first (system_checks p A [] v) → number ≡ 0 → first (check 11 (not (eqb (length out) (size A))) ∷ []) ≡ k
      → k ≡ product_refusal p A v out
  unfolding slice
  product_passed e z f = leading_passed (system_checks p A [] v) slice (numbered_system p A [] v) e z f ∙ sym product_refusal_system

  pub product_accepted : product_refusal p A v out ≡ 0 → Accepted p A v × (length out ≡ size A)
  unfolding slice
  product_accepted e =
      let both = first_append_zero (system_checks p A [] v) slice (numbered_system p A [] v) (sym product_refusal_system ∙ e) in
      let c11 = first_passed 11 (eqb (length out) (size A)) _ (omega arith) both.1 in
      (system_accepted p A [] v both.0, eqb-true (length out) (size A) c11.0)

abbrev apply_checks : ℕ → Matrix → List ℕ → List ℕ → List ℕ → List ℕ → List Check
apply_checks p A g v out work =
    check 8 (not (within 1 (size A + 1) (length g) && eqb (length v) (size A)))
    ∷ check 9 (not (elements p g && elements p v))
    ∷ check 11 (not (eqb (length out) (size A) && leb (2 * size A) (length work)))
    ∷ []

-- g(AX)v: the checks of g(A)v, with those of the scales
unfoldable pub scaled_apply_refusal : ℕ → Matrix → List ℕ → List ℕ → List ℕ → List ℕ → List ℕ → ℕ
scaled_apply_refusal p A X g v out work = first (scaled_checks p A X ++ apply_checks p A g v out work)

abbrev pub scaled_apply_after : ℕ → Matrix → List ℕ → List ℕ → List ℕ → List ℕ → List ℕ → List ℕ
scaled_apply_after p A X g v out work = unless_refused (scaled_apply_refusal p A X g v out work) (apply p (scaled p A X) g v) out

pub apply_plain : (p : ℕ) (A : Matrix) (g v out work : List ℕ) → scaled_apply_refusal p A [] g v out work ≡ apply_refusal p A g v out work
unfolding scaled_apply_refusal apply_refusal
apply_plain p A g v out work = refl

-- what g(AX)v needs that was not turned down
pub record Applicable (p : ℕ) (A : Matrix) (X g v out work : List ℕ) : Type 0 where
  pub prime : is_modulus p ≡ true
  pub valid : ValidScaled p A X
  pub vector : Vector p (size A) v
  pub some : 0 < length g
  pub few : length g ≤ size A + 1
  pub coefficients : Vector p (length g) g
  pub places : length out ≡ size A
  pub room : 2 * size A ≤ length work

pub apply_accepted : (p : ℕ) (A : Matrix) (X g v out work : List ℕ) → scaled_apply_refusal p A X g v out work ≡ 0 → Applicable p A X g v out work
unfolding scaled_apply_refusal
apply_accepted p A X g v out work e =
    let both = first_append_zero (scaled_checks p A X) (apply_checks p A g v out work) (numbered_scaled p A X) e in
    let c8 = first_passed 8 (within 1 (size A + 1) (length g) && eqb (length v) (size A)) _ (omega arith) both.1 in
    let c9 = first_passed 9 (elements p g && elements p v) _ (omega arith) c8.1 in
    let c11 = first_passed 11 (eqb (length out) (size A) && leb (2 * size A) (length work)) _ (omega arith) c9.1 in
    let lengths = c8.0 in
    let below = c9.0 in
    let slices = c11.0 in
    let range = and_left (within 1 (size A + 1) (length g)) (eqb (length v) (size A)) lengths in
    record {
      prime = scaled_modulus p A X both.0;
      valid = scaled_valid p A X both.0;
      vector =
          vector_of p v (size A) (eqb-true (length v) (size A) (and_right (within 1 (size A + 1) (length g)) (eqb (length v) (size A)) lengths))
          (and_right (elements p g) (elements p v) below);
      some = leb-true 1 (length g) (and_left (leb 1 (length g)) (leb (length g) (size A + 1)) range);
      few = leb-true (length g) (size A + 1) (and_right (leb 1 (length g)) (leb (length g) (size A + 1)) range);
      coefficients = vector_of p g (length g) refl (and_left (elements p g) (elements p v) below);
      places = eqb-true (length out) (size A) (and_left (eqb (length out) (size A)) (leb (2 * size A) (length work)) slices);
      room = leb-true (2 * size A) (length work) (and_right (eqb (length out) (size A)) (leb (2 * size A) (length work)) slices);
    }

abbrev takes_checks : ℕ → Matrix → List ℕ → List ℕ → List Check
takes_checks p A x b =
    check 8 (not (eqb (length x) (size A) && eqb (length b) (size A))) ∷ check 9 (not (elements p x && elements p b)) ∷ []

pub takes_accepted : (p : ℕ) (A : Matrix) (x b : List ℕ) → takes_refusal p A x b ≡ 0 → Accepted p A x × (length b ≡ size A)
unfolding takes_refusal
takes_accepted p A x b e =
    let both = first_append_zero (matrix_checks p A) (takes_checks p A x b) (numbered_matrix p A) e in
    let c8 = first_passed 8 (eqb (length x) (size A) && eqb (length b) (size A)) _ (omega arith) both.1 in
    let c9 = first_passed 9 (elements p x && elements p b) _ (omega arith) c8.1 in
    let lengths = c8.0 in
    let below = c9.0 in (
      record {
        prime = scaled_modulus p A [] both.0;
        valid = matrix_valid p A both.0;
        vector =
            vector_of p x (size A) (eqb-true (length x) (size A) (and_left (eqb (length x) (size A)) (eqb (length b) (size A)) lengths))
            (and_left (elements p x) (elements p b) below);
      },
      eqb-true (length b) (size A) (and_right (eqb (length x) (size A)) (eqb (length b) (size A)) lengths),
    )
