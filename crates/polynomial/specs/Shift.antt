-- Powers of z: `shifts j f` is zʲ · f.
--     shifts_zero, shifts_suc      its two clauses
--     shifts_low           zero at the first j places
--     shifts_high          f from place j on
--     shifts_below         the degree grows by j
--     product_shifts_left  zʲ comes out of a product
use Rattle.std.specs.Prelude.{◌≡◌, ℕ, zero, suc, ◌+◌, ◌-◌, ◌<◌}
use Rattle.std.proofs.Math.Path.{refl}
use Rattle.std.proofs.Common.{sym, ap, ◌∙◌, zero-add, suc-add, arith}
use Rattle.algebra.specs.Ring.{Ring}
use Rattle.algebra.specs.Polynomial.{Below, shift, shift_zero, shift_suc, product}
use Rattle.polynomial.specs.Product.{product_shift_left}

module _ (R : Ring) where
  open R use {C, zero as 𝟎}

  pub shifts : ℕ → (ℕ → C) → ℕ → C
  shifts zero f = f
  shifts (suc j) f = shift R (shifts j f)

  pub shifts_zero : (f : ℕ → C) → shifts 0 f ≡ f
  unfolding shifts
  shifts_zero f = refl

  pub shifts_suc : (j : ℕ) (f : ℕ → C) → shifts (suc j) f ≡ shift R (shifts j f)
  unfolding shifts
  shifts_suc j f = refl

  pub shifts_low : (j : ℕ) (f : ℕ → C) (i : ℕ) → i < j → shifts j f i ≡ 𝟎
  shifts_low zero f i l = absurd (omega arith)
  shifts_low (suc j) f zero l = rw (shifts_suc j f) (shift_zero R (shifts j f))
  shifts_low (suc j) f (suc i) l = rw (shifts_suc j f) (shift_suc R (shifts j f) i ∙ shifts_low j f i (omega arith))

  pub shifts_high : (j : ℕ) (f : ℕ → C) (i : ℕ) → shifts j f (j + i) ≡ f i
  shifts_high zero f i = rw (shifts_zero f, zero-add)
  shifts_high (suc j) f i = rw (shifts_suc j f, suc-add) (shift_suc R (shifts j f) (j + i) ∙ shifts_high j f i)

  pub shifts_below : (j n : ℕ) (f : ℕ → C) → Below R n f → Below R (j + n) (shifts j f)
  shifts_below j n f p i l =
      ap (shifts j f) (omega arith) ∙ shifts_high j f (i - j) ∙ p (i - j) (omega arith)

  pub product_shifts_left : (j : ℕ) (f g : ℕ → C) → product R (shifts j f) g ≡ shifts j (product R f g)
  product_shifts_left zero f g = ap (λ a. product R a g) (shifts_zero f) ∙ sym (shifts_zero (product R f g))
  product_shifts_left (suc j) f g =
      ap (λ a. product R a g) (shifts_suc j f) ∙ product_shift_left R (shifts j f) g ∙ ap (shift R) (product_shifts_left j f g) ∙ sym (shifts_suc j (product R f g))
