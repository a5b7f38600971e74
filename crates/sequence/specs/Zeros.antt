-- Laws on zeros that algebra's Ring lacks.
--     mul_eq_zero_left, mul_eq_zero_right      a product with a factor that is zero
--     sub_eq_zero      the difference of equal elements
--     zero_place       v i is zero if v n is, and if v i is wherever i is not n
use Rattle.std.specs.Prelude.{◌≡◌, ◌≢◌, ℕ}
use Rattle.std.proofs.Common.{ap, ◌∙◌}
use Rattle.std.proofs.Math.Decide.{ℕ_discrete}
use Rattle.algebra.specs.Ring.{Ring}
use Rattle.algebra.specs.Ring as ring

module _ (R : Ring) where
  open R use {C, add as ◌⊕◌, mul as ◌⊗◌, neg as ⊖◌, zero as 𝟎}

  infixl 60 ◌⊕◌
  infixl 70 ◌⊗◌
  infix 75 ⊖◌
  pub mul_eq_zero_left : {a : C} (b : C) → a ≡ 𝟎 → a ⊗ b ≡ 𝟎
  mul_eq_zero_left b e = ap (λ x. x ⊗ b) e ∙ ring.zero_mul R b

  pub mul_eq_zero_right : (a : C) {b : C} → b ≡ 𝟎 → a ⊗ b ≡ 𝟎
  mul_eq_zero_right a e = ap (λ x. a ⊗ x) e ∙ ring.mul_zero R a

  pub sub_eq_zero : {a b : C} → a ≡ b → a ⊕ ⊖ b ≡ 𝟎
  sub_eq_zero {a} {b} e = ap (λ x. x ⊕ ⊖ b) e ∙ ring.add_neg R b

  pub zero_place : (v : ℕ → C) (n i : ℕ) → v n ≡ 𝟎 → (i ≢ n → v i ≡ 𝟎) → v i ≡ 𝟎
  zero_place v n i e h = elim (ℕ_discrete i n) [ yes p ↦ ap v p ∙ e | no m ↦ h m ]
