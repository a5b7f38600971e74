-- Document 01, "Field and matrix": sparse matrices and what they do to a vector.
--     Matrix           "n + 1 row starts, then columns and values, one each per entry"
--     size             "n is the length of the starts less 1"
--     row_sum A i g     the sum of g over the entries of row i, "from start i up to but not including start i + 1"
--     product          "element i of Av is the sum of value × v[column] over row i, modulo p"
--     transposed       "the same entries with row and column exchanged"
--     power p A k v    Aᵏv
--     apply p A g v    "g(A)v is the sum of g[i] × Aⁱv", g's lowest power first
-- and document 02, request (iii): "how many entries it multiplied, which is the entry count".
--     entry_count       the number of entries
--     row_entries A i   how many of them a product multiplies in row i: each of the row's counts once
--     per_product A     .. and in all rows
--     multiplied k A   .. and in k products, one after the other
-- and request (vi): "document 002 multiplies A by a diagonal X", a list of "n scales, all 1 if not given": an empty list stands for n ones.
--     scale_at X j      the scale of column j
--     scaled p A X     AX: the starts and columns of A, each value times the scale of its column
--     diagonal p X v   Xv
use Rattle.std.specs.Prelude.{cond, List, ℕ, zero, suc, ◌+◌, ◌-◌, ◌*◌, ◌%◌, eqb, length, get_or}
use Rattle.meaning.specs.List.{at, sum, sum_from, table}

pub record Matrix : Type 0 where
  pub starts : List ℕ
  pub columns : List ℕ
  pub values : List ℕ

abbrev pub matrix : List ℕ → List ℕ → List ℕ → Matrix
matrix s c v = record { starts = s; columns = c; values = v }

abbrev pub size : Matrix → ℕ
size A = length A.starts - 1

abbrev pub entry_count : Matrix → ℕ
entry_count A = length A.columns

abbrev pub row_sum : Matrix → ℕ → (ℕ → ℕ) → ℕ
row_sum A i g = sum_from (at A.starts i) (at A.starts (i + 1)) g

unfoldable pub product : ℕ → Matrix → List ℕ → List ℕ
product p A v = table (size A) (λ i. row_sum A i (λ k. at A.values k * at v (at A.columns k)) % p)

unfoldable pub transposed : ℕ → Matrix → List ℕ → List ℕ
transposed p A v =
    table (size A)
    (λ j. sum (size A) (λ i. row_sum A i (λ k. cond (eqb (at A.columns k) j) (at A.values k * at v i) 0)) % p)

unfoldable pub power : ℕ → Matrix → ℕ → List ℕ → List ℕ
power p A zero v = v
power p A (suc k) v = product p A (power p A k v)

unfoldable pub apply : ℕ → Matrix → List ℕ → List ℕ → List ℕ
apply p A g v = table (size A) (λ j. sum (length g) (λ i. at g i * at (power p A i v) j) % p)

abbrev pub row_entries : Matrix → ℕ → ℕ
row_entries A i = row_sum A i (λ k. 1)

abbrev pub scale_at : List ℕ → ℕ → ℕ
scale_at X j = get_or X j 1

unfoldable pub scaled_values : ℕ → Matrix → List ℕ → List ℕ
scaled_values p A X = table (length A.values) (λ k. at A.values k * scale_at X (at A.columns k) % p)

abbrev pub scaled : ℕ → Matrix → List ℕ → Matrix
scaled p A X = matrix A.starts A.columns (scaled_values p A X)

unfoldable pub diagonal : ℕ → List ℕ → List ℕ → List ℕ
diagonal p X v = table (length v) (λ j. at v j * scale_at X j % p)

unfoldable pub per_product : Matrix → ℕ
per_product A = sum (size A) (row_entries A)

unfoldable pub multiplied : ℕ → Matrix → ℕ
multiplied k A = sum k (λ i. per_product A)
