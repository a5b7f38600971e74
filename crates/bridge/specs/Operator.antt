-- The meaning's matrix is a linear operator over the residues modulo p, and what the solver does with it is the theory's. Nothing here asks
-- that the matrix passes the checks: whatever the three lists hold, the product is linear. n is the size.
--     operator             v ↦ Av on sequences of residues: at place i < n the sum over row i, zero from n on
--     operator_linear      it is linear, on vectors of n places
--     coef_product         the meaning's product is it
--     length_product, reduced_product      n elements, all below p
--     power_zero, power_suc, coef_power, length_power      Aᵏv
--     coef_apply, length_apply, reduced_apply      g(A)v
--     mk_inner             u·v, for v of n places
--     coef_terms           u·r, u·Ar, ..: the theory's projected sequence
--     coef_multiply, length_multiply, reduced_multiply      the product of polynomials
--     unit_vector n j, coef_unit      the unit vector with its 1 at place j
--     coef_zeros, zeros_from_null    the zero vector
--     is_zero_null, null_is_zero       what is_zero tests
use Rattle.std.specs.Prelude.{◌≡◌, true, cond, List, eqb}
use Rattle.std.proofs.Math.Path.{refl, sym, ap, fun_ext}
use Rattle.std.proofs.Common.{ap₂, ◌∙◌, add-one, arith, eq-eqb, ne_eqb}
use Rattle.std.proofs.Math.Logic.{ite, if_pos, if_neg}
use Prim.Native.Nat.{ℕ, zero, suc, ◌+◌, ◌-◌, ◌*◌, ◌%◌, ◌<◌}
use Rattle.std.proofs.Math.Decide.{dec_lt, ℕ_discrete}
use Rattle.std.proofs.Math.ListN.{length}
use Rattle.meaning.specs.List.{at, sum as sumℕ, table, zeros, is_zero}
use Rattle.meaning.specs.Matrix.{Matrix, size, row_sum, product, power, apply}
use Rattle.meaning.specs.Solver.{dot, terms, multiply}
use Rattle.laws.specs.List.{length_table, table_of, is_zero_at, is_zero_of}
use Rattle.algebra.specs.Ring as ring
use Rattle.algebra.specs.Sum.{sum, sum_ext, sum_add, sum_scale}
use Rattle.algebra.specs.Polynomial.{Below}
use Rattle.algebra.specs.Polynomial as polynomial
use Rattle.polynomial.specs.Product.{product_sum, product_below}
use Rattle.residue.specs.Prime.{Prime}
use Rattle.residue.specs.Residue.{residues, mk, mk_zero, mk_one, mk_inj}
use Rattle.residue.specs.Lists.{Reduced, coef, coef_below, coef_table}
use Rattle.krylov.specs.Operator.{Operator, Linear, plus, times, plus_at, times_at, null, null_at, seq, unit, unit_same, unit_other, apply_below}
use Rattle.krylov.specs.Operator as theory
use Rattle.bridge.specs.Lists.{reduced_table_mod, table_coef, mk_dot_mod}

module _ (p : ℕ) (h : Prime p) (A : Matrix) where
  open residues p h use {ring as R}
  open R use {C, add as ◌⊕◌, mul as ◌⊗◌, zero as 𝟎, one as 𝟏}

  infixl 60 ◌⊕◌
  infixl 70 ◌⊗◌
  -- entry j of row i: its value and its column
  value : ℕ → ℕ → C
  value i j = coef p h A.values (at A.starts i + j)

  column : ℕ → ℕ → ℕ
  column i j = at A.columns (at A.starts i + j)

  row_length : ℕ → ℕ
  row_length i = at A.starts (i + 1) - at A.starts i

  row : (ℕ → C) → ℕ → C
  row v i = sum R (row_length i) (λ j. value i j ⊗ v (column i j))

  pub operator : Operator R
  operator v i = ite (dec_lt i (size A)) (row v i) 𝟎

  operator_within : (v : ℕ → C) (i : ℕ) → i < size A → operator v i ≡ row v i
  unfolding operator
  operator_within v i l = if_pos (dec_lt i (size A)) l (row v i) 𝟎

  operator_past : (v : ℕ → C) → Below R (size A) (operator v)
  unfolding operator
  operator_past v i l = if_neg (dec_lt i (size A)) (λ k. omega arith) (row v i) 𝟎

  row_plus : (v w : ℕ → C) (i : ℕ) → row (plus R v w) i ≡ row v i ⊕ row w i
  unfolding row plus
  row_plus v w i =
      sum_ext R (row_length i) (λ j. value i j ⊗ (v (column i j) ⊕ w (column i j))) (λ j. value i j ⊗ v (column i j) ⊕ value i j ⊗ w (column i j)) (λ j l. ring.mul_add R (value i j) (v (column i j)) (w (column i j)))
      ∙ sum_add R (row_length i) (λ j. value i j ⊗ v (column i j)) (λ j. value i j ⊗ w (column i j))

  row_times : (c : C) (v : ℕ → C) (i : ℕ) → row (times R c v) i ≡ c ⊗ row v i
  unfolding row times
  row_times c v i =
      sum_ext R (row_length i) (λ j. value i j ⊗ (c ⊗ v (column i j))) (λ j. c ⊗ (value i j ⊗ v (column i j))) (λ j l. ring.mul_left_comm R (value i j) c (v (column i j)))
      ∙ sum_scale R c (row_length i) (λ j. value i j ⊗ v (column i j))

  pub operator_linear : Linear R (size A) operator
  operator_linear = record { additive = λ v w. fun_ext (λ i. additive v w i (dec_lt i (size A))); homogeneous = λ c v. fun_ext (λ i. homogeneous c v i (dec_lt i (size A))); below = operator_past }
    where
      additive : (v w : ℕ → C) (i : ℕ) → Dec (i < size A) → operator (plus R v w) i ≡ plus R (operator v) (operator w) i
      additive v w i (yes l) =
          operator_within (plus R v w) i l ∙ row_plus v w i ∙ sym (ap₂ ◌⊕◌ (operator_within v i l) (operator_within w i l)) ∙ sym (plus_at R (operator v) (operator w) i)
      additive v w i (no l) =
          operator_past (plus R v w) i (omega arith) ∙ sym (ring.add_zero R 𝟎) ∙ sym (ap₂ ◌⊕◌ (operator_past v i (omega arith)) (operator_past w i (omega arith))) ∙ sym (plus_at R (operator v) (operator w) i)

      homogeneous : (c : C) (v : ℕ → C) (i : ℕ) → Dec (i < size A) → operator (times R c v) i ≡ times R c (operator v) i
      homogeneous c v i (yes l) =
          operator_within (times R c v) i l ∙ row_times c v i ∙ sym (ap (λ x. c ⊗ x) (operator_within v i l)) ∙ sym (times_at R c (operator v) i)
      homogeneous c v i (no l) =
          operator_past (times R c v) i (omega arith) ∙ sym (ring.mul_zero R c) ∙ sym (ap (λ x. c ⊗ x) (operator_past v i (omega arith))) ∙ sym (times_at R c (operator v) i)

  -- ---- the product

  pub coef_product : (v : List ℕ) → coef p h (product p A v) ≡ operator (coef p h v)
  unfolding product row value column row_length
  coef_product v =
      table_coef p h (size A) (λ i. row_sum A i (λ k. at A.values k * at v (at A.columns k)) % p) (operator (coef p h v))
      (λ i l. mk_dot_mod p h (row_length i) (λ j. at A.values (at A.starts i + j)) (λ j. at v (column i j)) ∙ sym (operator_within (coef p h v) i l))
      (operator_past (coef p h v))

  pub length_product : (v : List ℕ) → length (product p A v) ≡ size A
  unfolding product
  length_product v = length_table (size A) (λ i. row_sum A i (λ k. at A.values k * at v (at A.columns k)) % p)

  pub reduced_product : (v : List ℕ) → Reduced p (product p A v)
  unfolding product
  reduced_product v =
      reduced_table_mod p (size A) (λ i. row_sum A i (λ k. at A.values k * at v (at A.columns k))) (omega (arith, h.two_le))

  -- ---- powers

  pub power_zero : (v : List ℕ) → power p A 0 v ≡ v
  unfolding power
  power_zero v = refl

  pub power_suc : (k : ℕ) (v : List ℕ) → power p A (suc k) v ≡ product p A (power p A k v)
  unfolding power
  power_suc k v = refl

  pub coef_power : (k : ℕ) (v : List ℕ) → coef p h (power p A k v) ≡ theory.power R operator k (coef p h v)
  coef_power zero v = ap (coef p h) (power_zero v) ∙ sym (theory.power_zero R operator (coef p h v))
  coef_power (suc k) v =
      ap (coef p h) (power_suc k v) ∙ coef_product (power p A k v) ∙ ap operator (coef_power k v) ∙ sym (theory.power_suc R operator k (coef p h v))

  pub length_power : (k : ℕ) (v : List ℕ) → length v ≡ size A → length (power p A k v) ≡ size A
  length_power zero v e = ap length (power_zero v) ∙ e
  length_power (suc k) v e = ap length (power_suc k v) ∙ length_product (power p A k v)

  -- ---- polynomials of the matrix

  coef_within : (v : List ℕ) → length v ≡ size A → Below R (size A) (coef p h v)
  coef_within v e i l = coef_below p h v i (omega arith)

  pub coef_apply : (g v : List ℕ) → length v ≡ size A → coef p h (apply p A g v) ≡ theory.apply R operator (length g) (coef p h g) (coef p h v)
  unfolding apply
  coef_apply g v e =
      table_coef p h (size A) (λ j. sumℕ (length g) (λ i. at g i * at (power p A i v) j) % p) (theory.apply R operator (length g) (coef p h g) (coef p h v))
      (λ j l. mk_dot_mod p h (length g) (λ i. at g i) (λ i. at (power p A i v) j)
      ∙ sum_ext R (length g) (λ i. coef p h g i ⊗ coef p h (power p A i v) j) (λ i. coef p h g i ⊗ theory.power R operator i (coef p h v) j) (λ i k. ap (λ (w : ℕ → C). coef p h g i ⊗ w j) (coef_power i v))
      ∙ sym (theory.apply_at R operator (length g) (coef p h g) (coef p h v) j))
      (apply_below R (size A) operator operator_linear (length g) (coef p h g) (coef p h v) (coef_within v e))

  pub length_apply : (g v : List ℕ) → length (apply p A g v) ≡ size A
  unfolding apply
  length_apply g v = length_table (size A) (λ j. sumℕ (length g) (λ i. at g i * at (power p A i v) j) % p)

  pub reduced_apply : (g v : List ℕ) → Reduced p (apply p A g v)
  unfolding apply
  reduced_apply g v =
      reduced_table_mod p (size A) (λ j. sumℕ (length g) (λ i. at g i * at (power p A i v) j)) (omega (arith, h.two_le))

  -- ---- projections

  pub mk_inner : (u v : List ℕ) → length v ≡ size A → mk p h (dot p u v) ≡ theory.dot R (size A) (coef p h u) (coef p h v)
  unfolding dot theory.dot
  mk_inner u v e =
      mk_dot_mod p h (length v) (λ i. at u i) (λ i. at v i) ∙ ap (λ n. sum R n (λ i. coef p h u i ⊗ coef p h v i)) e

  pub coef_terms : (left : ℕ) (u r : List ℕ) → length r ≡ size A → (i : ℕ) → i < 2 * left
      → coef p h (terms p A left u r) i ≡ seq R (size A) operator (coef p h u) (coef p h r) i
  unfolding terms
  coef_terms left u r e i l =
      coef_table p h (2 * left) (λ i. dot p u (power p A i r)) i l ∙ mk_inner u (power p A i r) (length_power i r e)
      ∙ ap (theory.dot R (size A) (coef p h u)) (coef_power i r)

-- ---- products of polynomials, unit vectors, the zero vector

abbrev pub unit_vector : ℕ → ℕ → List ℕ
unit_vector n j = table n (λ i. cond (eqb i j) 1 0)

module _ (p : ℕ) (h : Prime p) where
  open residues p h use {ring as R}
  open R use {C, add as ◌⊕◌, mul as ◌⊗◌, zero as 𝟎, one as 𝟏}

  infixl 60 ◌⊕◌
  infixl 70 ◌⊗◌
  pub coef_multiply : (f g : List ℕ) → 0 < length g → coef p h (multiply p f g) ≡ polynomial.product R (coef p h f) (coef p h g)
  unfolding multiply
  coef_multiply f g l =
      table_coef p h (length f + length g - 1) (λ k. sumℕ (k + 1) (λ i. at f i * at g (k - i)) % p) (polynomial.product R (coef p h f) (coef p h g))
      (λ k m. mk_dot_mod p h (k + 1) (λ i. at f i) (λ i. at g (k - i)) ∙ ap (λ n. sum R n (λ i. coef p h f i ⊗ coef p h g (k - i))) (add-one k)
      ∙ sym (product_sum R (coef p h f) (coef p h g) k))
      (λ i m. product_below R (length f) (length g - 1) (coef p h f) (coef p h g) (coef_below p h f) (λ j k. coef_below p h g j (omega arith)) i (omega arith))

  pub length_multiply : (f g : List ℕ) → length (multiply p f g) ≡ length f + length g - 1
  unfolding multiply
  length_multiply f g = length_table (length f + length g - 1) (λ k. sumℕ (k + 1) (λ i. at f i * at g (k - i)) % p)

  pub reduced_multiply : (f g : List ℕ) → Reduced p (multiply p f g)
  unfolding multiply
  reduced_multiply f g =
      reduced_table_mod p (length f + length g - 1) (λ k. sumℕ (k + 1) (λ i. at f i * at g (k - i))) (omega (arith, h.two_le))

  pub coef_unit : (n j : ℕ) → j < n → coef p h (unit_vector n j) ≡ unit R j
  coef_unit n j l = table_coef p h n (λ i. cond (eqb i j) 1 0) (unit R j) (λ i k. place i (ℕ_discrete i j)) (λ i k. unit_other R j i (λ e. omega arith))
    where
      place : (i : ℕ) → Dec (i ≡ j) → mk p h (cond (eqb i j) 1 0) ≡ unit R j i
      place i (yes e) = ap (λ b. mk p h (cond b 1 0)) (eq-eqb i j e) ∙ mk_one p h ∙ sym (unit_same R j) ∙ ap (unit R j) (sym e)
      place i (no e) = ap (λ b. mk p h (cond b 1 0)) (ne_eqb i j e) ∙ mk_zero p h ∙ sym (unit_other R j i e)

  pub coef_zeros : (n : ℕ) → coef p h (zeros n) ≡ null R
  coef_zeros n = table_coef p h n (λ i. 0) (null R) (λ i l. mk_zero p h ∙ sym (null_at R i)) (λ i l. null_at R i)

  pub is_zero_null : (l : List ℕ) → is_zero l ≡ true → coef p h l ≡ null R
  is_zero_null l e = fun_ext (λ i. ap (mk p h) (is_zero_at l e i) ∙ mk_zero p h ∙ sym (null_at R i))

  null_place : (l : List ℕ) → Reduced p l → coef p h l ≡ null R → (i : ℕ) → i < length l → at l i ≡ 0
  null_place l r e i k =
      mk_inj p h (at l i) 0 (r i k) (omega (arith, h.two_le)) (ap (λ (v : ℕ → C). v i) e ∙ null_at R i ∙ sym (mk_zero p h))

  pub null_is_zero : (l : List ℕ) → Reduced p l → coef p h l ≡ null R → is_zero l ≡ true
  null_is_zero l r e = is_zero_of l (null_place l r e)

  pub zeros_from_null : (n : ℕ) (l : List ℕ) → length l ≡ n → Reduced p l → coef p h l ≡ null R → l ≡ zeros n
  zeros_from_null n l k r e = table_of 0 l n (λ i. 0) k (λ i m. null_place l r e i (omega arith))
