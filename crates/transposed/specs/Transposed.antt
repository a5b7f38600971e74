-- The transposed product by scattering a row at a time.
--     hit              what entry k of a row with factor c adds at j: value × c if j is its column
--     scattered_at      its element j
--     scattered        a vector with the entries from a to b added at their columns
--     column_sum        the sum of the first i rows at j
--     set_table        a table with one place stored anew
--     scattered_none, scattered_more      no entry, and one entry more
--     vector_scattered, vector_gathered      what is reduced is below p
--     gathered         the transposed product of the first i rows
--     gathered_none, gathered_next, gathered_all      no row, one row more, all of them
use Rattle.std.specs.Prelude.{◌≡◌, ◌≢◌, cond, List, ℕ, suc, ◌+◌, ◌*◌, ◌%◌, ◌≤◌, ◌<◌, eqb, length, set}
use Rattle.std.proofs.Math.Path.{refl, sym, ap}
use Rattle.std.proofs.Common.{ap₂, ◌∙◌, add-zero, mod-lt, add_assoc, add-one, arith, length-set, get_or-set_same, get_or-set_other, eq-eqb, ne_eqb}
use Rattle.std.proofs.Math.Nat.{mod-eq_of_lt, mod-add-mod, add-mod-mod, mul_comm, zero-mod}
use Rattle.std.proofs.Math.Decide.{ℕ_discrete}
use Rattle.meaning.specs.List.{at, sum, sum_from, table, zeros}
use Rattle.meaning.specs.Field.{plus, times}
use Rattle.meaning.specs.Matrix.{Matrix, size, row_sum, transposed}
use Rattle.laws.specs.List.{sum_zero, sum_suc, length_table, get_or_table, table_ext, table_of}
use Rattle.modular.specs.Sums.{sum_from_empty, sum_from_next}
use Rattle.checks.specs.Valid.{Vector, vector_table}

abbrev pub hit : List ℕ → List ℕ → ℕ → ℕ → ℕ → ℕ
hit columns values c j k = cond (eqb (at columns k) j) (at values k * c) 0

abbrev pub scattered_at : ℕ → ℕ → ℕ → ℕ → List ℕ → List ℕ → List ℕ → ℕ → ℕ
scattered_at p c a b columns values v j = (at v j + sum_from a b (hit columns values c j)) % p

unfoldable pub scattered : ℕ → ℕ → ℕ → ℕ → List ℕ → List ℕ → List ℕ → List ℕ
scattered p c a b columns values v = table (length v) (scattered_at p c a b columns values v)

pub set_table : (n : ℕ) (f g : ℕ → ℕ) (i y : ℕ) → i < n → g i ≡ y → ((j : ℕ) → j < n → j ≢ i → g j ≡ f j) → set (table n f) i y ≡ table n g
set_table n f g i y l e h =
    table_of 0 (set (table n f) i y) n g (length-set (table n f) i y ∙ length_table n f) (λ j k. at_place j k (ℕ_discrete j i))
  where
    at_place : (j : ℕ) → j < n → Dec (j ≡ i) → at (set (table n f) i y) j ≡ g j
    at_place j k (yes q) =
        ap (at (set (table n f) i y)) q ∙ get_or-set_same (table n f) i y 0 (omega (arith, length_table n f)) ∙ sym e ∙ ap g (sym q)
    at_place j k (no q) = get_or-set_other (table n f) i j y 0 q ∙ get_or_table n f j 0 k ∙ sym (h j k q)

module _ (p c : ℕ) (columns values : List ℕ) where
  hit_same : (k : ℕ) → hit columns values c (at columns k) k ≡ at values k * c
  hit_same k = ap (λ t. cond t (at values k * c) 0) (eq-eqb (at columns k) (at columns k) refl)

  hit_other : (j k : ℕ) → j ≢ at columns k → hit columns values c j k ≡ 0
  hit_other j k q = ap (λ t. cond t (at values k * c) 0) (ne_eqb (at columns k) j (λ e. q (sym e)))

  pub scattered_none : (a n : ℕ) (v : List ℕ) → Vector p n v → v ≡ scattered p c a a columns values v
  unfolding scattered
  scattered_none a n v h =
      table_of 0 v (length v) (scattered_at p c a a columns values v) refl
      (λ i l. sym
      (ap (λ x. (at v i + x) % p) (sum_from_empty a (hit columns values c i)) ∙ ap (λ x. x % p) (add-zero (at v i))
      ∙ mod-eq_of_lt (h.below i (omega (arith, h.places)))))

  pub scattered_more : (a k : ℕ) (v : List ℕ) → a ≤ k → at columns k < length v
      → set (scattered p c a k columns values v) (at columns k)
      (plus p (at (scattered p c a k columns values v) (at columns k)) (times p c (at values k)))
      ≡ scattered p c a (k + 1) columns values v
  unfolding scattered plus times
  scattered_more a k v l m =
      set_table (length v) (scattered_at p c a k columns values v) (scattered_at p c a (k + 1) columns values v) (at columns k)
      ((at (table (length v) (scattered_at p c a k columns values v)) (at columns k) + c * at values k % p) % p) m here there
    where
      here : scattered_at p c a (k + 1) columns values v (at columns k)
          ≡ (at (table (length v) (scattered_at p c a k columns values v)) (at columns k) + c * at values k % p) % p
      here =
          ap (λ x. (at v (at columns k) + x) % p)
          (sum_from_next a k (hit columns values c (at columns k)) l
          ∙ ap (λ x. sum_from a k (hit columns values c (at columns k)) + x) (hit_same k ∙ mul_comm (at values k) c))
          ∙ ap (λ x. x % p) (sym (add_assoc (at v (at columns k)) (sum_from a k (hit columns values c (at columns k))) (c * at values k)))
          ∙ sym (mod-add-mod (at v (at columns k) + sum_from a k (hit columns values c (at columns k))) p (c * at values k))
          ∙ sym (add-mod-mod (scattered_at p c a k columns values v (at columns k)) (c * at values k) p)
          ∙ ap (λ x. (x + c * at values k % p) % p) (sym (get_or_table (length v) (scattered_at p c a k columns values v) (at columns k) 0 m))

      there : (j : ℕ) → j < length v → j ≢ at columns k → scattered_at p c a (k + 1) columns values v j ≡ scattered_at p c a k columns values v j
      there j b q =
          ap (λ x. (at v j + x) % p)
          (sum_from_next a k (hit columns values c j) l ∙ ap (λ x. sum_from a k (hit columns values c j) + x) (hit_other j k q)
          ∙ add-zero (sum_from a k (hit columns values c j)))

  pub vector_scattered : (a b n : ℕ) (v : List ℕ) → 0 < p → length v ≡ n → Vector p n (scattered p c a b columns values v)
  unfolding scattered
  vector_scattered a b n v l e =
      record {
        places = length_table (length v) (scattered_at p c a b columns values v) ∙ e;
        below =
            λ i k. rw (get_or_table (length v) (scattered_at p c a b columns values v) i 0 (omega (arith, e)))
            (mod-lt (at v i + sum_from a b (hit columns values c i)) l);
      }

-- ---- row after row

abbrev pub column_sum : Matrix → List ℕ → ℕ → ℕ → ℕ
column_sum A v i j = sum i (λ t. row_sum A t (hit A.columns A.values (at v t) j))

abbrev pub gathered : ℕ → Matrix → List ℕ → ℕ → List ℕ
gathered p A v i = table (size A) (λ j. column_sum A v i j % p)

pub gathered_all : (p : ℕ) (A : Matrix) (v : List ℕ) → gathered p A v (size A) ≡ transposed p A v
unfolding transposed
gathered_all p A v = refl

pub gathered_none : (p : ℕ) (A : Matrix) (v : List ℕ) → zeros (size A) ≡ gathered p A v 0
gathered_none p A v =
    table_ext (size A) (λ j. 0) (λ j. column_sum A v 0 j % p)
    (λ j l. sym (ap (λ x. x % p) (sum_zero (λ t. row_sum A t (hit A.columns A.values (at v t) j))) ∙ zero-mod p))

gathered_more : (p : ℕ) (A : Matrix) (v : List ℕ) (i : ℕ)
    → scattered p (at v i) (at A.starts i) (at A.starts (i + 1)) A.columns A.values (gathered p A v i) ≡ gathered p A v (suc i)
unfolding scattered
gathered_more p A v i =
    ap (λ n. table n (scattered_at p (at v i) from to A.columns A.values (gathered p A v i))) (length_table (size A) (λ j. column_sum A v i j % p))
    ∙ table_ext (size A) (scattered_at p (at v i) from to A.columns A.values (gathered p A v i)) (λ j. column_sum A v (suc i) j % p)
    (λ j l. ap (λ x. (x + row j) % p) (get_or_table (size A) (λ k. column_sum A v i k % p) j 0 l) ∙ mod-add-mod (column_sum A v i j) p (row j)
    ∙ ap (λ x. x % p) (sym (sum_suc i (λ t. row_sum A t (hit A.columns A.values (at v t) j)))))
  where
    from : ℕ
    from = at A.starts i

    to : ℕ
    to = at A.starts (i + 1)

    row : ℕ → ℕ
    row j = sum_from (at A.starts i) (at A.starts (i + 1)) (hit A.columns A.values (at v i) j)

-- by the bounds that a loop over rows carries
pub gathered_next : (p : ℕ) (A : Matrix) (v : List ℕ) (i from to : ℕ) (w w' : List ℕ) → from ≡ at A.starts i → to ≡ at A.starts (i + 1)
    → w ≡ gathered p A v i → w' ≡ scattered p (at v i) from to A.columns A.values w → w' ≡ gathered p A v (i + 1)
gathered_next p A v i from to w w' here next held made =
    made ∙ ap₂ (λ a e. scattered p (at v i) a e A.columns A.values w) here next
    ∙ ap (scattered p (at v i) (at A.starts i) (at A.starts (i + 1)) A.columns A.values) held ∙ gathered_more p A v i
    ∙ ap (gathered p A v) (sym (add-one i))

pub vector_gathered : (p : ℕ) (A : Matrix) (v : List ℕ) (i : ℕ) → 0 < p → Vector p (size A) (gathered p A v i)
vector_gathered p A v i l = vector_table p (size A) (column_sum A v i) l
