-- The product of polynomials (and of power series): its laws as equalities of functions. NAME-at is the law NAME at one coefficient,
-- the form that `simp` applies.
--     product_suc_right    the clause from g's side
--     product_comm, product_assoc, product_one_left, product_one_right
--     product_add_left_at, product_scale_left_at, product_zeros_left_at      linear
--     product_const_left, product_shift_left      by a constant; by z
--     product_sum          coefficient k as a sum of k + 1 terms
--     product_below        m and n + 1 coefficients make m + n
--     product_lead         the leading coefficient is the product of both
--     product_lead_monic   by a monic polynomial: the leading coefficient stays
--     product_monic        the degrees add up
--     below_of_product     over a monic factor of degree e: product below m only for h below m − e
--     monic_of_product     and product monic of degree k only for h monic of degree k − e
use Rattle.std.specs.Prelude.{◌≡◌, ◌≢◌, ℕ, zero, suc, ◌+◌, ◌-◌, ◌≤◌, ◌<◌}
use Rattle.std.proofs.Common.{sym, ap, ap₂, ◌∙◌, arith}
use Rattle.std.proofs.Math.Path.{fun_ext}
use Rattle.std.proofs.Math.Decide.{dec_lt}
use Rattle.algebra.specs.Ring.{Ring, ring-laws}
use Rattle.algebra.specs.Ring as ring
use Rattle.algebra.specs.Sum.{sum, sum_zero, sum_suc, sum_ext, sum_head, sum_zeros, sum_single}
use Rattle.algebra.specs.Polynomial.{Below, Monic, const, const_zero, const_suc, shift, shift_zero, shift_suc, product, product_zero, product_suc}
use Rattle.polynomial.specs.Degree.{below_pred}

module _ (R : Ring) where
  open R use {C, add as ◌⊕◌, mul as ◌⊗◌, neg as ⊖◌, zero as 𝟎, one as 𝟏}

  infixl 60 ◌⊕◌
  infixl 70 ◌⊗◌
  infix 75 ⊖◌
  pub product_suc_right : (f g : ℕ → C) (k : ℕ) → product R f g (suc k) ≡ product R f (λ i. g (suc i)) k ⊕ f (suc k) ⊗ g 0
  product_suc_right f g zero = simp (product_suc R f g 0, product_zero, ring-laws)
  product_suc_right f g (suc k) =
      simp (product_suc R f g (suc k), product_suc R f (λ i. g (suc i)) k, product_suc_right (λ i. f (suc i)) g k, ring-laws)

  pub product_comm_at : (f g : ℕ → C) (k : ℕ) → product R f g k ≡ product R g f k
  product_comm_at f g zero = simp (product_zero, ring-laws)
  product_comm_at f g (suc k) =
      simp (product_suc R f g k, product_suc_right g f k, product_comm_at (λ i. f (suc i)) g k, ring-laws)

  pub product_comm : (f g : ℕ → C) → product R f g ≡ product R g f
  product_comm f g = fun_ext (product_comm_at f g)

  pub product_add_left_at : (f g h : ℕ → C) (k : ℕ) → product R (λ i. f i ⊕ g i) h k ≡ product R f h k ⊕ product R g h k
  product_add_left_at f g h zero = simp (product_zero, ring-laws)
  product_add_left_at f g h (suc k) =
      simp (product_suc, product_add_left_at (λ i. f (suc i)) (λ i. g (suc i)) h k, ring-laws)

  pub product_scale_left_at : (c : C) (f g : ℕ → C) (k : ℕ) → product R (λ i. c ⊗ f i) g k ≡ c ⊗ product R f g k
  product_scale_left_at c f g zero = simp (product_zero, ring-laws)
  product_scale_left_at c f g (suc k) = simp (product_suc, product_scale_left_at c (λ i. f (suc i)) g k, ring-laws)

  pub product_assoc_at : (f g h : ℕ → C) (k : ℕ) → product R (λ i. product R f g i) h k ≡ product R f (product R g h) k
  product_assoc_at f g h zero = simp (product_zero, ring-laws)
  product_assoc_at f g h (suc k) =
      simp (product_zero, product_suc, product_add_left_at, product_scale_left_at, product_assoc_at (λ i. f (suc i)) g h k, ring-laws)

  pub product_assoc : (f g h : ℕ → C) → product R (product R f g) h ≡ product R f (product R g h)
  product_assoc f g h = fun_ext (product_assoc_at f g h)

  pub product_zeros_left_at : (f : ℕ → C) (k : ℕ) → product R (λ i. 𝟎) f k ≡ 𝟎
  product_zeros_left_at f zero = simp (product_zero, ring-laws)
  product_zeros_left_at f (suc k) = simp (product_suc, product_zeros_left_at f k, ring-laws)

  pub product_const_left_at : (c : C) (f : ℕ → C) (k : ℕ) → product R (const R c) f k ≡ c ⊗ f k
  product_const_left_at c f zero = simp (product_zero, const_zero)
  product_const_left_at c f (suc k) = simp (product_suc, const_zero, const_suc, product_zeros_left_at, ring-laws)

  pub product_const_left : (c : C) (f : ℕ → C) → product R (const R c) f ≡ (λ i. c ⊗ f i)
  product_const_left c f = fun_ext (product_const_left_at c f)

  pub product_one_left : (f : ℕ → C) → product R (const R 𝟏) f ≡ f
  product_one_left f = product_const_left 𝟏 f ∙ simp ring.one_mul

  pub product_one_right : (f : ℕ → C) → product R f (const R 𝟏) ≡ f
  product_one_right f = product_comm f (const R 𝟏) ∙ product_one_left f

  pub product_shift_left_at : (f g : ℕ → C) (k : ℕ) → product R (shift R f) g k ≡ shift R (product R f g) k
  product_shift_left_at f g zero = simp (product_zero, shift_zero, ring-laws)
  product_shift_left_at f g (suc k) = simp (product_suc, shift_zero, shift_suc, ring-laws)

  pub product_shift_left : (f g : ℕ → C) → product R (shift R f) g ≡ shift R (product R f g)
  product_shift_left f g = fun_ext (product_shift_left_at f g)

  pub product_sum : (f g : ℕ → C) (k : ℕ) → product R f g k ≡ sum R (suc k) (λ i. f i ⊗ g (k - i))
  product_sum f g zero = simp (product_zero, sum_suc R 0, sum_zero, ring-laws)
  product_sum f g (suc k) =
      product_suc R f g k
      ∙ ap₂ (λ a b. f 0 ⊗ g a ⊕ b) (omega arith) (product_sum (λ i. f (suc i)) g k ∙ sum_ext R (suc k) (λ i. f (suc i) ⊗ g (k - i)) (λ i. f (suc i) ⊗ g (suc k - suc i)) (λ i l. ap (λ j. f (suc i) ⊗ g j) (omega arith)))
      ∙ sym (sum_head R (suc k) (λ i. f i ⊗ g (suc k - i)))

  pub product_below : (m n : ℕ) (f g : ℕ → C) → Below R m f → Below R (suc n) g → Below R (m + n) (product R f g)
  product_below m n f g p q k l =
      product_sum f g k ∙ sum_zeros R (suc k) (λ i. f i ⊗ g (k - i)) (λ i j. term i (dec_lt i m))
    where
      term : (i : ℕ) → Dec (i < m) → f i ⊗ g (k - i) ≡ 𝟎
      term i (yes a) = ap (λ x. f i ⊗ x) (q (k - i) (omega arith)) ∙ ring.mul_zero R (f i)
      term i (no a) = ap (λ x. x ⊗ g (k - i)) (p i (omega arith)) ∙ ring.zero_mul R (g (k - i))

  pub product_lead : (d e : ℕ) (f g : ℕ → C) → Below R (suc d) f → Below R (suc e) g → product R f g (d + e) ≡ f d ⊗ g e
  product_lead d e f g p q =
      product_sum f g (d + e) ∙ sum_single R (suc (d + e)) d (λ i. f i ⊗ g (d + e - i)) (omega arith) (λ i l j. term i j (dec_lt i d))
      ∙ ap (λ k. f d ⊗ g k) (omega arith)
    where
      term : (i : ℕ) → i ≢ d → Dec (i < d) → f i ⊗ g (d + e - i) ≡ 𝟎
      term i j (yes a) = ap (λ x. f i ⊗ x) (q (d + e - i) (omega arith)) ∙ ring.mul_zero R (f i)
      term i j (no a) = ap (λ x. x ⊗ g (d + e - i)) (p i (omega arith)) ∙ ring.zero_mul R (g (d + e - i))

  pub product_lead_monic : (n e : ℕ) (h g : ℕ → C) → Below R (suc n) h → Monic R e g → product R h g (n + e) ≡ h n
  product_lead_monic n e h g p q =
      product_lead n e h g p q.above ∙ ap (λ x. h n ⊗ x) q.lead ∙ ring.mul_one R (h n)

  pub product_monic : (d e : ℕ) (f g : ℕ → C) → Monic R d f → Monic R e g → Monic R (d + e) (product R f g)
  product_monic d e f g p q =
      record {
        lead = product_lead_monic d e f g p.above q ∙ p.lead;
        above = λ i l. product_below (suc d) e f g p.above q.above i (omega arith);
      }

  pub below_of_product : (n e m : ℕ) (h g : ℕ → C) → Below R n h → Monic R e g → Below R m (product R h g) → Below R (m - e) h
  below_of_product zero e m h g p q s i l = p i (omega arith)
  below_of_product (suc n) e m h g p q s i l = go (dec_lt n (m - e)) (λ b. below_of_product n e m h g b q s i l)
    where
      go : Dec (n < m - e) → (Below R n h → h i ≡ 𝟎) → h i ≡ 𝟎
      go (yes a) ih = p i (omega arith)
      go (no a) ih = ih (below_pred R n h p (sym (product_lead_monic n e h g p q) ∙ s (n + e) (omega arith)))

  pub monic_of_product : (n e k : ℕ) (h g : ℕ → C) → 𝟏 ≢ 𝟎 → Below R n h → Monic R e g → Monic R k (product R h g) → (e ≤ k) × Monic R (k - e) h
  monic_of_product n e k h g one≢zero p q s = (le, record { lead = lead; above = above })
    where
      low : Below R (suc k - e) h
      low = below_of_product n e (suc k) h g p q s.above

      go : Dec (k < e) → e ≤ k
      go (yes a) =
          absurd (one≢zero (sym s.lead ∙ ap (λ (f : ℕ → C). product R f g k) (fun_ext (λ i. low i (omega arith))) ∙ product_zeros_left_at g k))
      go (no a) = omega arith

      le : e ≤ k
      le = go (dec_lt k e)

      above : Below R (suc (k - e)) h
      above i l = low i (omega (arith, le))

      lead : h (k - e) ≡ 𝟏
      lead = sym (product_lead_monic (k - e) e h g above q) ∙ ap (product R h g) (omega (arith, le)) ∙ s.lead
