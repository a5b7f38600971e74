-- Laws of the entries that products multiply (meaning's Matrix, request (iii)).
--     sum_same, sum_from_ones             a sum of equal terms; of ones
--     multiplied_times                   k products multiply k times as many as one
--     multiplied_none, multiplied_one, multiplied_add      no product, one, some and some more
--     rows_entries                       the entries of the first i rows, by their starts
--     per_product_law, every_product         of an accepted matrix: as many as it has
--     product_by_entry, apply_by_entry, takes_by_entry, is_null_by_entry      what the calls answer, by the entries
--     multiplied_scaled                  .. of AX: those of A
--     every_run_by_entry                 of a run: applications × entries
--     multiplied_most                    k products with at most m entries each
use Rattle.std.specs.Prelude.{◌≡◌, refl, List, ℕ, zero, suc, ◌+◌, ◌-◌, ◌*◌, ◌≤◌, ◌<◌, length}
use Rattle.std.proofs.Common.{sym, ap, ap₂, ◌∙◌, zero-mul, suc-mul, one-mul, mul-one, add-mul, mul-le-mul_left, add-one, arith}
use Rattle.meaning.specs.List.{sum, sum_from}
use Rattle.meaning.specs.Matrix.{Matrix, size, entry_count, row_entries, per_product, multiplied, scaled}
use Rattle.meaning.specs.Refusal.{first, unless_refused, matrix_checks}
use Rattle.meaning.specs.Solver.{applications, close, outcome, answered, solve}
use Rattle.meaning.specs.Calls.{product_refusal, product_count, apply_refusal, apply_count, system_checks, takes_refusal, takes_count, is_null_refusal, is_null_count, EveryProduct, EveryRunByEntry}
use Rattle.laws.specs.List.{sum_zero, sum_suc}
use Rattle.laws.specs.Refusal.{first_append_zero, numbered_matrix, unless_refused_some}
use Rattle.laws.specs.Accepted.{start, AcceptedSystem, matrix_accepted, run_accepted}

pub sum_same : (n c : ℕ) → sum n (λ i. c) ≡ n * c
sum_same zero c = sum_zero (λ i. c) ∙ sym (zero-mul c)
sum_same (suc n) c = sum_suc n (λ i. c) ∙ ap (λ k. k + c) (sum_same n c) ∙ sym (suc-mul n c)

pub sum_from_ones : (from to : ℕ) → sum_from from to (λ k. 1) ≡ to - from
sum_from_ones from to = sum_same (to - from) 1 ∙ mul-one (to - from)

-- ---- some products

module _ (A : Matrix) where
  pub multiplied_times : (k : ℕ) → multiplied k A ≡ k * per_product A
  unfolding multiplied
  multiplied_times k = sum_same k (per_product A)

  pub multiplied_none : multiplied 0 A ≡ 0
  multiplied_none = multiplied_times 0 ∙ zero-mul (per_product A)

  pub multiplied_one : multiplied 1 A ≡ per_product A
  multiplied_one = multiplied_times 1 ∙ one-mul (per_product A)

  pub multiplied_add : (j k : ℕ) → multiplied (j + k) A ≡ multiplied j A + multiplied k A
  multiplied_add j k =
      multiplied_times (j + k) ∙ add-mul j k (per_product A) ∙ sym (ap₂ ◌+◌ (multiplied_times j) (multiplied_times k))

  pub multiplied_most : (m k : ℕ) → per_product A ≤ m → multiplied k A ≤ k * m
  multiplied_most m k l = omega (arith, multiplied_times k, mul-le-mul_left k l)

  -- ---- one product

  pub rows_entries : ((i : ℕ) → i < size A → start A i ≤ start A (i + 1)) → (i : ℕ) → i ≤ size A → sum i (row_entries A) + start A 0 ≡ start A i
  rows_entries r zero l = omega (arith, sum_zero (row_entries A))
  rows_entries r (suc i) l =
      omega (
        arith,
        sum_suc i (row_entries A),
        sum_from_ones (start A i) (start A (i + 1)),
        rows_entries r i (omega arith),
        r i (omega arith),
        ap (start A) (add-one i),
      )

accepted_entries : {p : ℕ} {A : Matrix} {b : List ℕ} → AcceptedSystem p A b → per_product A ≡ entry_count A
unfolding per_product
accepted_entries {A} a = omega (arith, rows_entries A a.rising (size A) (omega arith), a.from_zero, a.to_end)

pub per_product_law : (p : ℕ) (A : Matrix) → first (matrix_checks p A) ≡ 0 → per_product A ≡ entry_count A
per_product_law p A e = accepted_entries (matrix_accepted p A e)

pub every_product : EveryProduct
every_product p A e k = multiplied_times A k ∙ ap (λ m. k * m) (per_product_law p A e)

-- ---- the calls

-- k products where nothing was refused, so that the matrix's own checks passed
counted : (p : ℕ) (A : Matrix) (k number : ℕ) → (number ≡ 0 → first (matrix_checks p A) ≡ 0)
    → unless_refused number (multiplied k A) 0 ≡ unless_refused number (k * entry_count A) 0
counted p A k zero h = every_product p A (h refl) k
counted p A k (suc number) h =
    unless_refused_some (suc number) (multiplied k A) 0 (λ z. omega (arith, z))
    ∙ sym (unless_refused_some (suc number) (k * entry_count A) 0 (λ z. omega (arith, z)))

module _ (p : ℕ) (A : Matrix) where
  one_each : (number : ℕ) → unless_refused number (1 * entry_count A) 0 ≡ unless_refused number (entry_count A) 0
  one_each number = ap (λ m. unless_refused number m 0) (one-mul (entry_count A))

  pub product_by_entry : (v out : List ℕ) → product_count p A v out ≡ unless_refused (product_refusal p A v out) (entry_count A) 0
  unfolding product_refusal
  product_by_entry v out =
      counted p A 1 (product_refusal p A v out) (λ e. (first_append_zero (matrix_checks p A) _ (numbered_matrix p A) e).0)
      ∙ one_each (product_refusal p A v out)

  pub apply_by_entry : (g v out work : List ℕ)
      → apply_count p A g v out work ≡ unless_refused (apply_refusal p A g v out work) ((length g - 1) * entry_count A) 0
  unfolding apply_refusal
  apply_by_entry g v out work =
      counted p A (length g - 1) (apply_refusal p A g v out work) (λ e. (first_append_zero (matrix_checks p A) _ (numbered_matrix p A) e).0)

  pub takes_by_entry : (x b : List ℕ) → takes_count p A x b ≡ unless_refused (takes_refusal p A x b) (entry_count A) 0
  unfolding takes_refusal
  takes_by_entry x b =
      counted p A 1 (takes_refusal p A x b) (λ e. (first_append_zero (matrix_checks p A) _ (numbered_matrix p A) e).0)
      ∙ one_each (takes_refusal p A x b)

  pub is_null_by_entry : (w : List ℕ) → is_null_count p A w ≡ unless_refused (is_null_refusal p A w) (entry_count A) 0
  unfolding is_null_refusal system_checks
  is_null_by_entry w =
      counted p A 1 (is_null_refusal p A w) (λ e. (first_append_zero (matrix_checks p A) _ (numbered_matrix p A) e).0)
      ∙ one_each (is_null_refusal p A w)

-- the entries that products with AX multiply are those of A
pub multiplied_scaled : (p : ℕ) (A : Matrix) (X : List ℕ) (k : ℕ) → multiplied k (scaled p A X) ≡ multiplied k A
unfolding multiplied per_product
multiplied_scaled p A X k = refl

pub every_run_by_entry : EveryRunByEntry
unfolding solve answered outcome close
every_run_by_entry p A X b words w e =
    let k = applications (solve p A X b words w) in
    multiplied_scaled p A X k ∙ multiplied_times A k ∙ ap (λ m. k * m) (accepted_entries (run_accepted p A X b words w e).system)
