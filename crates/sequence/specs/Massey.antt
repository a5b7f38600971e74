-- Massey's bound: a generator that fails first at place j forces every generator that holds there to be longer than j.
--     massey           g of degree k recurs on M = j + k terms and not on M + 1, f monic of degree L recurs on M + 1: then M + 1 ≤ L + k
use Rattle.std.specs.Prelude.{◌≡◌, ◌≢◌, ℕ, suc, ◌+◌, ◌-◌, ◌≤◌}
use Rattle.std.proofs.Common.{sym, ap, ◌∙◌, arith}
use Rattle.std.proofs.Math.Decide.{dec_lt}
use Rattle.algebra.specs.Ring.{Ring}
use Rattle.algebra.specs.Ring as ring
use Rattle.algebra.specs.Sum.{sum_zeros, sum_single}
use Rattle.algebra.specs.Polynomial.{Monic, at, Recurs}
use Rattle.sequence.specs.Zeros.{mul_eq_zero_right}
use Rattle.sequence.specs.At.{at_exchange}

module _ (R : Ring) where
  open R use {C, mul as ◌⊗◌, zero as 𝟎}

  infixl 70 ◌⊗◌
  pub massey : (s : ℕ → C) (j k : ℕ) (g : ℕ → C) → Recurs R (j + k) s k g → at R s k g j ≢ 𝟎
      → (L : ℕ) (f : ℕ → C) → Monic R L f → Recurs R (suc (j + k)) s L f → suc (j + k) ≤ L + k
  massey s j k g G n L f m F = elim (dec_lt j L) [ yes l ↦ omega arith | no h ↦ absurd (n (holds (j - L) (omega arith))) ]
    where
      -- what the product of f and g makes of s at place c: by g its top term alone is left, by f nothing
      holds : (c : ℕ) → L + c ≡ j → at R s k g j ≡ 𝟎
      holds c e =
          ap (at R s k g) (sym e) ∙ sym (ring.one_mul R (at R s k g (L + c))) ∙ ap (λ x. x ⊗ at R s k g (L + c)) (sym m.lead)
          ∙ sym (sum_single R (suc L) L (λ i. f i ⊗ at R s k g (i + c)) (omega arith) (λ i l h. mul_eq_zero_right R (f i) (G (i + c) (omega arith))))
          ∙ at_exchange R s k g L f c
          ∙ sum_zeros R (suc k) (λ i. g i ⊗ at R s L f (i + c)) (λ i l. mul_eq_zero_right R (g i) (F (i + c) (omega arith)))
