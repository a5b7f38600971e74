-- Degrees: how far a polynomial reaches, and over a field its leading coefficient.
--     below_pred           one coefficient less, if it is zero
--     below_scale          of multiples
--     one_monic            the polynomial 1
--     Degree n f           f's degree, below n: the place of its last coefficient that is not zero
--     zeros_or_degree      over a field: f is zero everywhere or has a degree
--     monic_made           f divided by its leading coefficient is monic
use Rattle.std.specs.Prelude.{◌≡◌, ◌≢◌, ◌⊎◌, ℕ, zero, suc, ◌<◌}
use Rattle.std.proofs.Common.{sym, ap, ◌∙◌, inl, inr, arith}
use Rattle.std.proofs.Math.Logic.{⊎_map}
use Rattle.std.proofs.Math.Decide.{ℕ_discrete}
use Rattle.algebra.specs.Ring.{Ring, Field}
use Rattle.algebra.specs.Ring as ring
use Rattle.algebra.specs.Polynomial.{Below, Monic, const, const_zero, const_suc}

module _ (R : Ring) where
  open R use {C, add as ◌⊕◌, mul as ◌⊗◌, zero as 𝟎, one as 𝟏}

  infixl 60 ◌⊕◌
  infixl 70 ◌⊗◌
  pub below_pred : (n : ℕ) (f : ℕ → C) → Below R (suc n) f → f n ≡ 𝟎 → Below R n f
  below_pred n f p z i l = at (ℕ_discrete n i)
    where
      at : Dec (n ≡ i) → f i ≡ 𝟎
      at (yes e) = ap f (sym e) ∙ z
      at (no e) = p i (omega arith)

  pub below_scale : (n : ℕ) (c : C) (f : ℕ → C) → Below R n f → Below R n (λ i. c ⊗ f i)
  below_scale n c f p i l = ap (λ x. c ⊗ x) (p i l) ∙ ring.mul_zero R c

  pub one_monic : Monic R 0 (const R 𝟏)
  one_monic = record { lead = const_zero R 𝟏; above = above }
    where
      above : Below R 1 (const R 𝟏)
      above zero l = absurd (omega arith)
      above (suc i) l = const_suc R 𝟏 i

  pub record Degree (n : ℕ) (f : ℕ → C) : Type 0 where
    pub degree : ℕ
    pub degree_lt : degree < n
    pub lead_nonzero : f degree ≢ 𝟎
    pub above : Below R (suc degree) f

module _ (F : Field) where
  open F use {ring as R, inv, zero?}
  open R use {C, mul as ◌⊗◌, zero as 𝟎}

  infixl 70 ◌⊗◌
  pub zeros_or_degree : (n : ℕ) (f : ℕ → C) → Below R n f → ((i : ℕ) → f i ≡ 𝟎) ⊎ Degree R n f
  zeros_or_degree zero f p = inl (λ i. p i (omega arith))
  zeros_or_degree (suc n) f p = go (zero? (f n)) (zeros_or_degree n f)
    where
      wider : Degree R n f → Degree R (suc n) f
      wider s = record { degree = s.degree; degree_lt = omega (arith, s.degree_lt); lead_nonzero = s.lead_nonzero; above = s.above }

      go : Dec (f n ≡ 𝟎) → (Below R n f → ((i : ℕ) → f i ≡ 𝟎) ⊎ Degree R n f) → ((i : ℕ) → f i ≡ 𝟎) ⊎ Degree R (suc n) f
      go (yes z) ih = ⊎_map (λ a. a) wider (ih (below_pred R n f p z))
      go (no z) ih = inr (record { degree = n; degree_lt = omega arith; lead_nonzero = z; above = p })

  pub monic_made : (k : ℕ) (f : ℕ → C) → f k ≢ 𝟎 → Below R (suc k) f → Monic R k (λ i. inv (f k) ⊗ f i)
  monic_made k f z p = record { lead = ring.inv_mul F (f k) z; above = below_scale R (suc k) (inv (f k)) f p }
