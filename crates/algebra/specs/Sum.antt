-- Finite sums over a ring.
--     sum n f          f 0 ⊕ .. ⊕ f (n − 1)
--     sum_zero, sum_suc      its two clauses, for `simp`
--     sum_ext          terms that agree below n
--     sum_head         the first term apart
--     sum_add, sum_neg, sum_scale, sum_scale_right      linear
--     sum_zeros        all terms zero
--     sum_split        m + n terms as m and then n
--     sum_extend       zeros after the first m terms
--     sum_single       only one term that is not zero
--     sum_swap         two sums exchanged
--     sum_reverse      the last term first
use Rattle.std.specs.Prelude.{◌≡◌, ◌≢◌, ℕ, zero, suc, ◌+◌, ◌-◌, ◌≤◌, ◌<◌}
use Rattle.std.proofs.Math.Path.{refl}
use Rattle.std.proofs.Common.{sym, ap, ap₂, ◌∙◌, add-zero, add-suc, add-sub_of_le, arith}
use Rattle.algebra.specs.Ring.{Ring, ring-laws}
use Rattle.algebra.specs.Ring as ring

module _ (R : Ring) where
  open R use {C, add as ◌⊕◌, mul as ◌⊗◌, neg as ⊖◌, zero as 𝟎, one as 𝟏}

  infixl 60 ◌⊕◌
  infixl 70 ◌⊗◌
  infix 75 ⊖◌
  pub sum : ℕ → (ℕ → C) → C
  sum zero f = 𝟎
  sum (suc n) f = sum n f ⊕ f n

  pub sum_zero : (f : ℕ → C) → sum 0 f ≡ 𝟎
  unfolding sum
  sum_zero f = refl

  pub sum_suc : (n : ℕ) (f : ℕ → C) → sum (suc n) f ≡ sum n f ⊕ f n
  unfolding sum
  sum_suc n f = refl

  pub sum_ext : (n : ℕ) (f g : ℕ → C) → ((i : ℕ) → i < n → f i ≡ g i) → sum n f ≡ sum n g
  sum_ext zero f g h = sum_zero f ∙ sym (sum_zero g)
  sum_ext (suc n) f g h =
      sum_suc n f ∙ ap₂ ◌⊕◌ (sum_ext n f g (λ i l. h i (omega arith))) (h n (omega arith)) ∙ sym (sum_suc n g)

  pub sum_head : (n : ℕ) (f : ℕ → C) → sum (suc n) f ≡ f 0 ⊕ sum n (λ i. f (suc i))
  sum_head zero f = simp (sum_suc 0, sum_zero, ring-laws)
  sum_head (suc n) f = simp (sum_suc (suc n), sum_head n f, sum_suc n (λ i. f (suc i)), ring-laws)

  pub sum_add : (n : ℕ) (f g : ℕ → C) → sum n (λ i. f i ⊕ g i) ≡ sum n f ⊕ sum n g
  sum_add zero f g = simp (sum_zero, ring-laws)
  sum_add (suc n) f g = simp (sum_suc, sum_add n f g, ring-laws)

  pub sum_scale : (c : C) (n : ℕ) (f : ℕ → C) → sum n (λ i. c ⊗ f i) ≡ c ⊗ sum n f
  sum_scale c zero f = simp (sum_zero, ring-laws)
  sum_scale c (suc n) f = simp (sum_suc, sum_scale c n f, ring-laws)

  pub sum_scale_right : (c : C) (n : ℕ) (f : ℕ → C) → sum n (λ i. f i ⊗ c) ≡ sum n f ⊗ c
  sum_scale_right c n f = sum_ext n (λ i. f i ⊗ c) (λ i. c ⊗ f i) (λ i l. ring.mul_comm R (f i) c) ∙ sum_scale c n f ∙ ring.mul_comm R c (sum n f)

  pub sum_neg : (n : ℕ) (f : ℕ → C) → sum n (λ i. ⊖ f i) ≡ ⊖ sum n f
  sum_neg zero f = simp (sum_zero, ring-laws)
  sum_neg (suc n) f = simp (sum_suc, sum_neg n f, ring-laws)

  pub sum_zeros : (n : ℕ) (f : ℕ → C) → ((i : ℕ) → i < n → f i ≡ 𝟎) → sum n f ≡ 𝟎
  sum_zeros zero f h = sum_zero f
  sum_zeros (suc n) f h =
      sum_suc n f ∙ ap₂ ◌⊕◌ (sum_zeros n f (λ i l. h i (omega arith))) (h n (omega arith)) ∙ ring.add_zero R 𝟎

  pub sum_split : (m n : ℕ) (f : ℕ → C) → sum (m + n) f ≡ sum m f ⊕ sum n (λ i. f (m + i))
  sum_split m zero f = ap (λ k. sum k f) (add-zero m) ∙ simp (sum_zero, ring-laws)
  sum_split m (suc n) f =
      ap (λ k. sum k f) (add-suc m n) ∙ simp (sum_suc, sum_split m n f, ring-laws)

  pub sum_extend : (m n : ℕ) (f : ℕ → C) → m ≤ n → ((i : ℕ) → m ≤ i → i < n → f i ≡ 𝟎) → sum n f ≡ sum m f
  sum_extend m n f l h =
      ap (λ k. sum k f) (sym (add-sub_of_le l)) ∙ sum_split m (n - m) f
      ∙ ap (λ x. sum m f ⊕ x) (sum_zeros (n - m) (λ i. f (m + i)) (λ i k. h (m + i) (omega arith) (omega arith)))
      ∙ ring.add_zero R (sum m f)

  pub sum_single : (n k : ℕ) (f : ℕ → C) → k < n → ((i : ℕ) → i < n → i ≢ k → f i ≡ 𝟎) → sum n f ≡ f k
  sum_single n k f l h =
      sum_extend (suc k) n f l (λ i a b. h i b (omega arith)) ∙ sum_suc k f
      ∙ ap (λ x. x ⊕ f k) (sum_zeros k f (λ i a. h i (omega arith) (omega arith))) ∙ ring.zero_add R (f k)

  pub sum_swap : (m n : ℕ) (f : ℕ → ℕ → C) → sum m (λ i. sum n (λ j. f i j)) ≡ sum n (λ j. sum m (λ i. f i j))
  sum_swap zero n f = sum_zero (λ i. sum n (λ j. f i j)) ∙ sym (sum_zeros n (λ j. sum 0 (λ i. f i j)) (λ j l. sum_zero (λ i. f i j)))
  sum_swap (suc m) n f =
      sum_suc m (λ i. sum n (λ j. f i j)) ∙ ap (λ x. x ⊕ sum n (λ j. f m j)) (sum_swap m n f)
      ∙ sym (sum_add n (λ j. sum m (λ i. f i j)) (λ j. f m j))
      ∙ sum_ext n (λ j. sum m (λ i. f i j) ⊕ f m j) (λ j. sum (suc m) (λ i. f i j)) (λ j l. sym (sum_suc m (λ i. f i j)))

  pub sum_reverse : (n : ℕ) (f : ℕ → C) → sum (suc n) f ≡ sum (suc n) (λ i. f (n - i))
  sum_reverse zero f = simp (sum_suc 0, sum_zero)
  sum_reverse (suc n) f =
      sum_suc (suc n) f ∙ ap (λ x. x ⊕ f (suc n)) (sum_reverse n f) ∙ ring.add_comm R (sum (suc n) (λ i. f (n - i))) (f (suc n))
      ∙ ap₂ ◌⊕◌ (ap f (omega arith)) (sum_ext (suc n) (λ i. f (n - i)) (λ i. f (suc n - suc i)) (λ i l. ap f (omega arith)))
      ∙ sym (sum_head (suc n) (λ i. f (suc n - i)))
