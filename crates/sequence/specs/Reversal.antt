-- A generator and its coefficients read backwards: f = z^L·q(1/z).
--     reverse L q      coefficient i is q (L − i), for i = 0 .. L, and zero above
--     reverse_within, reverse_above     these two cases
--     reverse_monic    monic of degree L where q 0 is 1
--     reverse_at       what f makes of s at place j is the coefficient L + j of q·S
--     reverse_recurs   f recurs on N terms exactly where q·S has no term from L up to N − 1
use Rattle.std.specs.Prelude.{◌≡◌, ◌↔◌}
use Rattle.std.proofs.Math.Path.{refl, ap}
use Rattle.std.proofs.Common.{sym, ap₂, ◌∙◌, arith}
use Prim.Native.Nat.{ℕ, zero, suc, ◌+◌, ◌-◌, ◌≤◌, ◌<◌}
use Rattle.algebra.specs.Ring.{Ring}
use Rattle.algebra.specs.Sum.{sum_ext, sum_reverse}
use Rattle.algebra.specs.Polynomial.{Below, Monic, product, at, Recurs}
use Rattle.sequence.specs.Product.{product_sum_within}

module _ (R : Ring) where
  open R use {C, mul as ◌⊗◌, zero as 𝟎, one as 𝟏}

  infixl 70 ◌⊗◌
  pub reverse : ℕ → (ℕ → C) → ℕ → C
  reverse L q zero = q L
  reverse zero q (suc i) = 𝟎
  reverse (suc L) q (suc i) = reverse L q i

  pub reverse_within : (L : ℕ) (q : ℕ → C) (i : ℕ) → i ≤ L → reverse L q i ≡ q (L - i)
  unfolding reverse
  reverse_within L q zero l = ap q (omega arith)
  reverse_within zero q (suc i) l = absurd (omega arith)
  reverse_within (suc L) q (suc i) l = reverse_within L q i (omega arith) ∙ ap q (omega arith)

  pub reverse_above : (L : ℕ) (q : ℕ → C) → Below R (suc L) (reverse L q)
  unfolding reverse
  reverse_above L q zero l = absurd (omega arith)
  reverse_above zero q (suc i) l = refl
  reverse_above (suc L) q (suc i) l = reverse_above L q i (omega arith)

  pub reverse_monic : (L : ℕ) (q : ℕ → C) → q 0 ≡ 𝟏 → Monic R L (reverse L q)
  reverse_monic L q h =
      record { lead = reverse_within L q L (omega arith) ∙ ap q (omega arith) ∙ h; above = reverse_above L q }

  pub reverse_at : (s : ℕ → C) (L : ℕ) (q : ℕ → C) → Below R (suc L) q → (j : ℕ) → at R s L (reverse L q) j ≡ product R q s (L + j)
  reverse_at s L q b j =
      sum_reverse R L (λ i. reverse L q i ⊗ s (i + j))
      ∙ sum_ext R (suc L) (λ i. reverse L q (L - i) ⊗ s (L - i + j)) (λ i. q i ⊗ s (L + j - i)) (λ i l. ap₂ ◌⊗◌ (twice i (omega arith)) (ap s (omega arith)))
      ∙ sym (product_sum_within R L q s (L + j) b (omega arith))
    where
      twice : (i : ℕ) → i ≤ L → reverse L q (L - i) ≡ q i
      twice i l = reverse_within L q (L - i) (omega arith) ∙ ap q (omega arith)

  pub reverse_recurs : (N : ℕ) (s : ℕ → C) (L : ℕ) (q : ℕ → C) → Below R (suc L) q
      → ((j : ℕ) → L ≤ j → j < N → product R q s j ≡ 𝟎) ↔ Recurs R N s L (reverse L q)
  reverse_recurs N s L q b = (to, from)
    where
      to : ((j : ℕ) → L ≤ j → j < N → product R q s j ≡ 𝟎) → Recurs R N s L (reverse L q)
      to h j l = reverse_at s L q b j ∙ h (L + j) (omega arith) (omega arith)

      from : Recurs R N s L (reverse L q) → (j : ℕ) → L ≤ j → j < N → product R q s j ≡ 𝟎
      from h j l m = ap (product R q s) (omega arith) ∙ sym (reverse_at s L q b (j - L)) ∙ h (j - L) (omega arith)
