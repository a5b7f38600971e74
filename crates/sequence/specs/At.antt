-- Laws of `at`: what a polynomial makes of a sequence at a place.
--     at_extend        a degree n ≥ d in place of d: absent coefficients add nothing
--     at_scale, at_sub     linear in the polynomial
--     at_exchange      f's sum of what g makes of s is g's sum of what f makes of s: both are what the product of f and g makes of s
use Rattle.std.specs.Prelude.{◌≡◌, ℕ, suc, ◌+◌, ◌≤◌}
use Rattle.std.proofs.Common.{sym, ap, ◌∙◌, arith}
use Rattle.std.proofs.Math.Nat.{add_left_comm}
use Rattle.algebra.specs.Ring.{Ring, ring-laws}
use Rattle.algebra.specs.Ring as ring
use Rattle.algebra.specs.Sum.{sum, sum_ext, sum_extend, sum_add, sum_neg, sum_scale, sum_swap}
use Rattle.algebra.specs.Polynomial.{Below, at}
use Rattle.sequence.specs.Zeros.{mul_eq_zero_left}

module _ (R : Ring) (s : ℕ → R.C) where
  open R use {C, add as ◌⊕◌, mul as ◌⊗◌, neg as ⊖◌}

  infixl 60 ◌⊕◌
  infixl 70 ◌⊗◌
  infix 75 ⊖◌
  pub at_extend : (d n : ℕ) (f : ℕ → C) → d ≤ n → Below R (suc d) f → (j : ℕ) → at R s n f j ≡ at R s d f j
  at_extend d n f l b j =
      sum_extend R (suc d) (suc n) (λ i. f i ⊗ s (i + j)) (omega arith) (λ i m h. mul_eq_zero_left R (s (i + j)) (b i m))

  pub at_scale : (d : ℕ) (c : C) (f : ℕ → C) (j : ℕ) → at R s d (λ i. c ⊗ f i) j ≡ c ⊗ at R s d f j
  at_scale d c f j =
      sum_ext R (suc d) (λ i. c ⊗ f i ⊗ s (i + j)) (λ i. c ⊗ (f i ⊗ s (i + j))) (λ i l. ring.mul_assoc R c (f i) (s (i + j)))
      ∙ sum_scale R c (suc d) (λ i. f i ⊗ s (i + j))

  pub at_sub : (d : ℕ) (f g : ℕ → C) (j : ℕ) → at R s d (λ i. f i ⊕ ⊖ g i) j ≡ at R s d f j ⊕ ⊖ at R s d g j
  at_sub d f g j =
      sum_ext R (suc d) (λ i. (f i ⊕ ⊖ g i) ⊗ s (i + j)) (λ i. f i ⊗ s (i + j) ⊕ ⊖ (g i ⊗ s (i + j))) (λ i l. sub_mul (f i) (g i) (s (i + j)))
      ∙ sum_add R (suc d) (λ i. f i ⊗ s (i + j)) (λ i. ⊖ (g i ⊗ s (i + j)))
      ∙ ap (λ x. at R s d f j ⊕ x) (sum_neg R (suc d) (λ i. g i ⊗ s (i + j)))
    where
      sub_mul : (a b c : C) → (a ⊕ ⊖ b) ⊗ c ≡ a ⊗ c ⊕ ⊖ (b ⊗ c)
      sub_mul a b c = simp ring-laws

  pub at_exchange : (k : ℕ) (g : ℕ → C) (L : ℕ) (f : ℕ → C) (c : ℕ)
      → sum R (suc L) (λ i. f i ⊗ at R s k g (i + c)) ≡ sum R (suc k) (λ j. g j ⊗ at R s L f (j + c))
  at_exchange k g L f c =
      sum_ext R (suc L) (λ i. f i ⊗ at R s k g (i + c)) (λ i. sum R (suc k) (term i)) (λ i l. sym (sum_scale R (f i) (suc k) (λ j. g j ⊗ s (j + (i + c)))))
      ∙ sum_swap R (suc L) (suc k) term
      ∙ sum_ext R (suc k) (λ j. sum R (suc L) (λ i. term i j)) (λ j. g j ⊗ at R s L f (j + c)) (λ j l. by_f j ∙ sum_scale R (g j) (suc L) (λ i. f i ⊗ s (i + (j + c))))
    where
      term : ℕ → ℕ → C
      term i j = f i ⊗ (g j ⊗ s (j + (i + c)))

      by_f : (j : ℕ) → sum R (suc L) (λ i. term i j) ≡ sum R (suc L) (λ i. g j ⊗ (f i ⊗ s (i + (j + c))))
      by_f j =
          sum_ext R (suc L) (λ i. term i j) (λ i. g j ⊗ (f i ⊗ s (i + (j + c)))) (λ i l. ring.mul_left_comm R (f i) (g j) (s (j + (i + c))) ∙ ap (λ x. g j ⊗ (f i ⊗ s x)) (add_left_comm j i c))
