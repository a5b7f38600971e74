-- Laws of the product of power series in the form that the steps need; the product's own laws are the crate polynomial's.
--     product_shift        a coefficient of z·f times g
--     product_sub_scale    linear in the first factor
--     product_sum_within   a coefficient as a sum over the first factor's n + 1 coefficients
use Rattle.std.specs.Prelude.{◌≡◌, ℕ, zero, suc, ◌-◌, ◌≤◌}
use Rattle.std.proofs.Common.{◌∙◌, arith}
use Rattle.algebra.specs.Ring.{Ring, ring-laws}
use Rattle.algebra.specs.Sum.{sum, sum_extend}
use Rattle.algebra.specs.Polynomial.{Below, shift, shift_suc, product, product_zero, product_suc}
use Rattle.polynomial.specs.Product.{product_shift_left_at, product_sum}
use Rattle.sequence.specs.Zeros.{mul_eq_zero_left}

module _ (R : Ring) where
  open R use {C, add as ◌⊕◌, mul as ◌⊗◌, neg as ⊖◌}

  infixl 60 ◌⊕◌
  infixl 70 ◌⊗◌
  infix 75 ⊖◌
  pub product_shift : (f g : ℕ → C) (k : ℕ) → product R (shift R f) g (suc k) ≡ product R f g k
  product_shift f g k = product_shift_left_at R f g (suc k) ∙ shift_suc R (product R f g) k

  pub product_sub_scale : (f : ℕ → C) (c : C) (g s : ℕ → C) (k : ℕ) → product R (λ i. f i ⊕ ⊖ (c ⊗ g i)) s k ≡ product R f s k ⊕ ⊖ (c ⊗ product R g s k)
  product_sub_scale f c g s zero = simp (product_zero, ring-laws)
  product_sub_scale f c g s (suc k) = simp (product_suc, product_sub_scale (λ i. f (suc i)) c (λ i. g (suc i)) s k, ring-laws)

  pub product_sum_within : (n : ℕ) (f g : ℕ → C) (k : ℕ) → Below R (suc n) f → n ≤ k → product R f g k ≡ sum R (suc n) (λ i. f i ⊗ g (k - i))
  product_sum_within n f g k b l =
      product_sum R f g k
      ∙ sum_extend R (suc n) (suc k) (λ i. f i ⊗ g (k - i)) (omega arith) (λ i m h. mul_eq_zero_left R (g (k - i)) (b i m))
