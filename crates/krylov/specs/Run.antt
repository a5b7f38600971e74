-- The run: any number of passes, with any projections, and what they keep. F is document 01's polynomial.
--     Reached us r D F     from b, 1 and 0, passes with the projections us (the last one first) lead to r, F and its degree D; a pass
--                          takes any shortest recurrence of the first 2·(n − D) terms
--     Kept us r D F        F is monic of degree D ≤ n; r = F(A)b; whatever kills b has the factor F; a used projection sees nothing
--                          of r, Ar, A²r, ..
--     kept                 whatever is reached is kept
--   of what is kept:
--     kept_annihilator     some monic polynomial of degree at most n − D kills r
--     kept_below           r has n places
--     kept_full            r is null once D is n
--     kept_units           r is null once all n unit vectors are used
--     kept_progress        the next pass finds a degree above 0, if its projection sees r; waits for request (x)
use Rattle.std.specs.Prelude.{◌≡◌, ◌≢◌, ◌⊎◌, ℕ, suc, ◌+◌, ◌-◌, ◌≤◌, ◌<◌}
use Rattle.std.proofs.Common.{sym, ap, subst, ◌∙◌, inl, inr, arith}
use mathlib.Core.List.Memᴰ
use mathlib.Core.List.{List, [], ◌∷◌, Memᴰ}
use Rattle.algebra.specs.Ring.{Ring, Field}
use Rattle.algebra.specs.Polynomial.{Below, Monic, const, product, Shortest}
use Rattle.polynomial.specs.Degree.{one_monic}
use Rattle.polynomial.specs.Product.{product_one_right, product_assoc, product_comm, product_monic}
use Rattle.krylov.specs.Operator.{Operator, Linear, Kills, Annihilator, apply, null, dot, seq, unit}
use Rattle.krylov.specs.Operator as operator
use Rattle.krylov.specs.Dependence.{annihilator}
use Rattle.krylov.specs.Pass.{Factor, product_factor, blind_apply, pass_degree, pass_blind, pass_factor, pass_progress}

module _ (R : Ring) (n : ℕ) (A : Operator R) (b : ℕ → R.C) where
  open R use {C, zero as 𝟎, one as 𝟏}

  pub data Reached : List (ℕ → C) → (ℕ → C) → ℕ → (ℕ → C) → Type 0 where
    start : Reached [] b 0 (const R 𝟏)
    pass : {us : List (ℕ → C)} {r : ℕ → C} {D : ℕ} {F u : ℕ → C} {t : ℕ} {f : ℕ → C} → Reached us r D F → Shortest R (n - D + (n - D)) (seq R n A u r) t f → Reached (u ∷ us) (apply R A (suc t) f r) (D + t) (product R F f)

  pub record Kept (us : List (ℕ → C)) (r : ℕ → C) (D : ℕ) (F : ℕ → C) : Type 0 where
    pub monic : Monic R D F
    pub degree_le : D ≤ n
    pub image : r ≡ apply R A (suc D) F b
    pub factor : (k : ℕ) (g : ℕ → C) → Kills R A k g b → Factor R A k g D F b
    pub blind : (u : ℕ → C) → Memᴰ u us → (j : ℕ) → seq R n A u r j ≡ 𝟎

module _ (K : Field) (n : ℕ) (A : Operator K.ring) (b : ℕ → K.ring.C) (L : Linear K.ring n A) (B : Below K.ring n b) where
  open K use {ring as R}
  open R use {C, zero as 𝟎, one as 𝟏}

  kept_start : Kept R n A b [] b 0 (const R 𝟏)
  kept_start =
      record {
        monic = one_monic R;
        degree_le = omega arith;
        image = sym (operator.apply_degree_zero R A (one_monic R) b);
        factor = λ k g G. product_factor K n A L (one_monic R) G (omega arith) (subst (λ i. Monic R i g) (omega arith) G.monic) (sym (product_one_right R g));
        blind = λ u m. absurd (Memᴰ.not-nil m);
      }

  module _ {us : List (ℕ → C)} {r : ℕ → C} {D : ℕ} {F : ℕ → C} (h : Kept R n A b us r D F) where
    factor_kills : {k : ℕ} {g : ℕ → C} (p : Factor R A k g D F b) → Kills R A (k - D) p.cofactor r
    factor_kills {k} p = subst (Kills R A (k - D) p.cofactor) (sym h.image) p.kills

    pub kept_annihilator : Annihilator R A (n - D) r
    kept_annihilator =
        record {
          degree = M.degree - D;
          degree_le = omega (arith, M.degree_le);
          polynomial = p.cofactor;
          kills = factor_kills p;
        }
      where
        M : Annihilator R A n b
        M = annihilator K n A b L B

        p : Factor R A M.degree M.polynomial D F b
        p = h.factor M.degree M.polynomial M.kills

    pub kept_below : Below R n r
    kept_below = subst (Below R n) (sym h.image) (operator.apply_below R n A L (suc D) F b B)

    pub kept_full : n ≤ D → r ≡ null R
    kept_full l = sym (operator.apply_degree_zero R A k.monic r) ∙ k.vanishes
      where
        M : Annihilator R A (n - D) r
        M = kept_annihilator

        k : Kills R A 0 M.polynomial r
        k = subst (λ i. Kills R A i M.polynomial r) (omega (arith, M.degree_le)) M.kills

    pub kept_units : ((i : ℕ) → i < n → Memᴰ (unit R i) us) → r ≡ null R
    kept_units a =
        operator.null_from_places R n r kept_below
        (λ i l. sym (operator.dot_unit R n i r l) ∙ ap (dot R n (unit R i)) (sym (operator.power_zero R A r)) ∙ h.blind (unit R i) (a i l) 0)

    module _ {t : ℕ} {f : ℕ → C} (u : ℕ → C) (S : Shortest R (n - D + (n - D)) (seq R n A u r) t f) where
      pub kept_progress : dot R n u r ≢ 𝟎 → 0 < t
      kept_progress = pass_progress K n A L u kept_annihilator S

      pass_factor_kept : (k : ℕ) (g : ℕ → C) → Kills R A k g b → Factor R A k g (D + t) (product R F f) b
      pass_factor_kept k g G =
          product_factor K n A L (product_monic R D t F f h.monic S.monic) G
          (omega (arith, p.degree_le, q.degree_le)) (subst (λ i. Monic R i q.cofactor) (omega arith) q.kills.monic)
          (p.equation ∙ ap (λ x. product R x F) q.equation ∙ product_assoc R q.cofactor f F ∙ ap (product R q.cofactor) (product_comm R f F))
        where
          p : Factor R A k g D F b
          p = h.factor k g G

          q : Factor R A (k - D) p.cofactor t f r
          q = pass_factor K n A L u kept_annihilator S (factor_kills p)

      pass_blind_kept : (v : ℕ → C) → (v ≡ u) ⊎ Memᴰ v us → (j : ℕ) → seq R n A v (apply R A (suc t) f r) j ≡ 𝟎
      pass_blind_kept v (inl e) j =
          ap (λ x. seq R n A x (apply R A (suc t) f r) j) e ∙ pass_blind K n A L u kept_annihilator S j
      pass_blind_kept v (inr m) j = blind_apply K n A L v r (h.blind v m) (suc t) f j

      pass_degree_kept : D + t ≤ n
      pass_degree_kept =
          omega (arith, h.degree_le, M.degree_le, pass_degree K n A L u S M.kills)
        where
          M : Annihilator R A (n - D) r
          M = kept_annihilator

      kept_pass : Kept R n A b (u ∷ us) (apply R A (suc t) f r) (D + t) (product R F f)
      kept_pass =
          record {
            monic = product_monic R D t F f h.monic S.monic;
            degree_le = pass_degree_kept;
            image =
                ap (apply R A (suc t) f) h.image ∙ operator.apply_apply R n A L (suc t) (suc D) f F b
                ∙ sym (operator.apply_product_monic R n A L h.monic S.monic b);
            factor = pass_factor_kept;
            blind = λ v m. pass_blind_kept v (Memᴰ.cases_cons m);
          }

  pub kept : {us : List (ℕ → C)} {r : ℕ → C} {D : ℕ} {F : ℕ → C} → Reached R n A b us r D F → Kept R n A b us r D F
  kept start = kept_start
  kept (pass {u} p S) = kept_pass (kept p) u S
