-- Division by a monic polynomial.
--     Division d f k g     quotient and remainder of g, below k, by f of degree d: g = quotient · f + remainder
--     divide               there is one if f is monic
--     exact_quotient       g = quotient · f, if the remainder is zero
--     monic_quotient       then, for g monic of degree k: d ≤ k, and the quotient is monic of degree k − d
use Rattle.std.specs.Prelude.{◌≡◌, refl, ◌≢◌, ℕ, zero, suc, ◌+◌, ◌-◌, ◌≤◌}
use Rattle.std.proofs.Common.{sym, ap, ◌∙◌, subst, arith}
use Rattle.std.proofs.Math.Path.{fun_ext}
use Rattle.std.proofs.Math.Decide.{ℕ_discrete}
use Rattle.algebra.specs.Ring.{Ring, ring-laws}
use Rattle.algebra.specs.Polynomial.{Below, Monic, cons, cons_zero, cons_suc, cons_below, product, product_zero, product_suc}
use Rattle.polynomial.specs.Product.{product_zeros_left_at, monic_of_product}

module _ (R : Ring) where
  open R use {C, add as ◌⊕◌, mul as ◌⊗◌, neg as ⊖◌, zero as 𝟎, one as 𝟏}

  infixl 60 ◌⊕◌
  infixl 70 ◌⊗◌
  infix 75 ⊖◌
  pub record Division (d : ℕ) (f : ℕ → C) (k : ℕ) (g : ℕ → C) : Type 0 where
    pub quotient : ℕ → C
    pub remainder : ℕ → C
    pub equation : g ≡ (λ i. product R quotient f i ⊕ remainder i)
    pub quotient_below : Below R (k - d) quotient
    pub remainder_below : Below R d remainder

  -- one coefficient more at g's foot: the quotient gets c at its foot, w less c · f is the new remainder
  divide_suc : (d k : ℕ) (f g : ℕ → C) → Monic R d f → Division d f (d + k) (λ i. g (suc i)) → Division d f (d + suc k) g
  divide_suc d k f g p s =
      record {
        quotient = cons R c s.quotient;
        remainder = λ i. w i ⊕ ⊖ (c ⊗ f i);
        equation = fun_ext equation;
        quotient_below = λ i l. cons_below R (d + k - d) c s.quotient s.quotient_below i (omega arith);
        remainder_below = λ i l. below i l (ℕ_discrete d i);
      }
    where
      w : ℕ → C
      w = cons R (g 0) s.remainder

      c : C
      c = w d

      equation : (i : ℕ) → g i ≡ product R (cons R c s.quotient) f i ⊕ (w i ⊕ ⊖ (c ⊗ f i))
      equation zero = simp (product_zero, cons_zero, ring-laws)
      equation (suc i) = ap (λ (a : ℕ → C). a i) s.equation ∙ simp (product_suc, cons_zero, cons_suc, ring-laws)

      below : (i : ℕ) → d ≤ i → Dec (d ≡ i) → w i ⊕ ⊖ (c ⊗ f i) ≡ 𝟎
      below i l (yes e) = ap (λ j. w j ⊕ ⊖ (c ⊗ f j)) (sym e) ∙ simp (p.lead, ring-laws)
      below i l (no e) =
          simp (cons_below R d (g 0) s.remainder s.remainder_below i (omega arith), p.above i (omega arith), ring-laws)

  divide_from : (d k : ℕ) (f g : ℕ → C) → Monic R d f → Below R (d + k) g → Division d f (d + k) g
  divide_from d zero f g p q =
      record {
        quotient = λ i. 𝟎;
        remainder = g;
        equation = fun_ext (λ i. simp (product_zeros_left_at, ring-laws));
        quotient_below = λ i l. refl;
        remainder_below = λ i l. q i (omega arith);
      }
  divide_from d (suc k) f g p q =
      divide_suc d k f g p (divide_from d k f (λ i. g (suc i)) p (λ i l. q (suc i) (omega arith)))

  pub divide : (d k : ℕ) (f g : ℕ → C) → Monic R d f → Below R k g → Division d f k g
  divide d k f g p q =
      record {
        quotient = s.quotient;
        remainder = s.remainder;
        equation = s.equation;
        quotient_below = λ i l. s.quotient_below i (omega arith);
        remainder_below = s.remainder_below;
      }
    where
      s : Division d f (d + (k - d)) g
      s = divide_from d (k - d) f g p (λ i l. q i (omega arith))

  pub exact_quotient : (d k : ℕ) (f g : ℕ → C) (s : Division d f k g) → ((i : ℕ) → s.remainder i ≡ 𝟎) → g ≡ product R s.quotient f
  exact_quotient d k f g s z = s.equation ∙ fun_ext (λ i. simp (z, ring-laws))

  pub monic_quotient : (d k : ℕ) (f g : ℕ → C) → 𝟏 ≢ 𝟎 → Monic R d f → Monic R k g → (s : Division d f (suc k) g) → ((i : ℕ) → s.remainder i ≡ 𝟎) → (d ≤ k) × Monic R (k - d) s.quotient
  monic_quotient d k f g one≢zero p q s z =
      monic_of_product R (suc k - d) d k s.quotient f one≢zero s.quotient_below p (subst (Monic R k) (exact_quotient d (suc k) f g s z) q)
