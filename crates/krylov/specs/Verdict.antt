-- The verdict on A and b that a run ends with, and that it depends on A and b alone.
--     tail F               (F − F[0])/z: document 01's G
--     Span n A b           b is a sum of multiples of Ab, A²b, .., Aⁿb
--     solution A b D F     −G(A)b / F[0]: document 01's x
--     solution_zero        null for D = 0
--     Settles n A b D F    the third condition. F is monic of degree D ≤ n and kills b; every other one that does has a higher degree;
--                          F[0] is not 0 exactly if b is in the span, and then A takes the solution to b; otherwise A takes G(A)b to
--                          zero, and G(A)b is not null
--     verdict              so it is for whatever is reached with r null
--     verdict_unique       D and F are determined by A and b
--     reached_unique       so two runs end with the same D and F, whatever their projections: one kind, one vector; waits for request (ix)
use Rattle.std.specs.Prelude.{◌≡◌, ◌≢◌, ◌↔◌, List}
use Rattle.std.proofs.Common.{sym, subst, ◌∙◌, le_antisymm, arith}
use Rattle.std.proofs.Math.Path.{ap, fun_ext}
use Prim.Native.Nat.{ℕ, zero, suc, ◌≤◌, ◌<◌}
use Rattle.std.proofs.Math.Numerals.{lt_of_le_of_ne}
use Rattle.algebra.specs.Ring.{Ring, Field}
use Rattle.algebra.specs.Ring as ring
use Rattle.algebra.specs.Sum.{sum}
use Rattle.algebra.specs.Polynomial.{Below, Monic, const, const_zero, const_suc, product}
use Rattle.polynomial.specs.Degree.{below_scale}
use Rattle.polynomial.specs.Product.{product_one_left}
use Rattle.krylov.specs.Operator.{Operator, Linear, Kills, power, apply, null, plus, times, vector-laws}
use Rattle.krylov.specs.Operator as operator
use Rattle.krylov.specs.Run.{Reached, Kept, kept}

module _ (R : Ring) where
  open R use {C, mul as ◌⊗◌, one as 𝟏}

  infixl 70 ◌⊗◌
  abbrev pub tail : (ℕ → C) → ℕ → C
  tail F = λ i. F (suc i)

  pub record Span (n : ℕ) (A : Operator R) (b : ℕ → C) : Type 0 where
    pub coefficient : ℕ → C
    pub equation : b ≡ (λ place. sum R n (λ i. coefficient i ⊗ power R A (suc i) b place))

  monic_one : {f : ℕ → C} → Monic R 0 f → f ≡ const R 𝟏
  monic_one {f} h = fun_ext at
    where
      at : (i : ℕ) → f i ≡ const R 𝟏 i
      at zero = h.lead ∙ sym (const_zero R 𝟏)
      at (suc i) = h.above (suc i) (omega arith) ∙ sym (const_suc R 𝟏 i)

module _ (K : Field) where
  open K use {ring as R, inv}
  open R use {C, neg as ⊖◌, zero as 𝟎}

  infix 75 ⊖◌
  abbrev pub solution : Operator R → (ℕ → C) → ℕ → (ℕ → C) → ℕ → C
  solution A b D F = times R (⊖ inv (F 0)) (apply R A D (tail R F) b)

  pub record Settles (n : ℕ) (A : Operator R) (b : ℕ → C) (D : ℕ) (F : ℕ → C) : Type 0 where
    pub kills : Kills R A D F b
    pub degree_le : D ≤ n
    pub least : (k : ℕ) (g : ℕ → C) → Kills R A k g b → D ≤ k
    pub only : (g : ℕ → C) → Kills R A D g b → g ≡ F
    pub other : (k : ℕ) (g : ℕ → C) → Kills R A k g b → g ≢ F → D < k
    pub solvable : (F 0 ≢ 𝟎) ↔ Span R n A b
    pub solved : F 0 ≢ 𝟎 → A (solution A b D F) ≡ b
    pub singular : F 0 ≡ 𝟎 → A (apply R A D (tail R F) b) ≡ null R
    pub nonzero : F 0 ≡ 𝟎 → apply R A D (tail R F) b ≢ null R

module _ (K : Field) (n : ℕ) (A : Operator K.ring) (b : ℕ → K.ring.C) (L : Linear K.ring n A) where
  open K use {ring as R, inv, one≢zero}
  open R use {C, add as ◌⊕◌, mul as ◌⊗◌, neg as ⊖◌, zero as 𝟎}

  infixl 60 ◌⊕◌
  infixl 70 ◌⊗◌
  infix 75 ⊖◌
  -- F(A)b = F[0]·b + A(G(A)b), at one place
  kills_head : {D : ℕ} {F : ℕ → C} → Kills R A D F b → (p : ℕ) → F 0 ⊗ b p ⊕ A (apply R A D (tail R F) b) p ≡ 𝟎
  unfolding null plus times
  kills_head {D} {F} h p = ap (λ (v : ℕ → C). v p) (sym (operator.apply_horner R n A L D F b) ∙ h.vanishes)

  divided : (c x y : C) → c ≢ 𝟎 → c ⊗ x ⊕ y ≡ 𝟎 → ⊖ inv c ⊗ y ≡ x
  divided c x y z e =
      ap (λ w. ⊖ inv c ⊗ w) (ring.neg_unique R (c ⊗ x) y e) ∙ simp (ring.neg_mul, ring.mul_neg, ring.neg_neg, ← ring.mul_assoc, ring.inv_mul K c z, ring.one_mul)

  kills_solved : {D : ℕ} {F : ℕ → C} → Kills R A D F b → F 0 ≢ 𝟎 → A (solution K A b D F) ≡ b
  unfolding times
  kills_solved {D} {F} h z =
      L.homogeneous (⊖ inv (F 0)) (apply R A D (tail R F) b)
      ∙ fun_ext (λ p. divided (F 0) (b p) (A (apply R A D (tail R F) b) p) z (kills_head h p))

  kills_singular : {D : ℕ} {F : ℕ → C} → Kills R A D F b → F 0 ≡ 𝟎 → A (apply R A D (tail R F) b) ≡ null R
  unfolding null
  kills_singular h z = fun_ext (λ p. simp (z, ring.zero_mul, ring.zero_add) at (kills_head h p))

  kills_span : {D : ℕ} {F : ℕ → C} → Kills R A D F b → D ≤ n → F 0 ≢ 𝟎 → Span R n A b
  unfolding times
  kills_span {D} {F} h l z = record { coefficient = c; equation = e ∙ fun_ext (operator.apply_operator_at R A n c b) }
    where
      c : ℕ → C
      c = times R (⊖ inv (F 0)) (tail R F)

      e : b ≡ apply R A n c (A b)
      e =
          sym (kills_solved h z) ∙ ap A (sym (operator.apply_times R A D (⊖ inv (F 0)) (tail R F) b)) ∙ operator.operator_apply R n A L D c b
          ∙ sym (operator.apply_extend R A D n c (A b) l (below_scale R D (⊖ inv (F 0)) (tail R F) (λ i a. h.monic.above (suc i) (omega arith))))

  -- G is monic of degree D − 1
  tail_nonzero : {D : ℕ} {F : ℕ → C} → Monic R D F → ((k : ℕ) (g : ℕ → C) → Kills R A k g b → D ≤ k) → F 0 ≡ 𝟎 → apply R A D (tail R F) b ≢ null R
  tail_nonzero {D = zero} m h z e = one≢zero (sym m.lead ∙ z)
  tail_nonzero {D = suc d} {F} m h z e =
      omega (arith, h d (tail R F) (record { monic = record { lead = m.lead; above = λ i l. m.above (suc i) (omega arith) }; vanishes = e }))

  -- with b = A(c(A)b): g(A)b = c(A)(A(g(A)b))
  span_null : (m : ℕ) (g : ℕ → C) → Span R n A b → A (apply R A m g b) ≡ null R → apply R A m g b ≡ null R
  span_null m g s z =
      ap (apply R A m g) (s.equation ∙ sym (fun_ext (operator.apply_operator_at R A n s.coefficient b)))
      ∙ operator.apply_apply R n A L m n g s.coefficient (A b)
      ∙ ap (apply R A n s.coefficient) (sym (operator.operator_apply R n A L m g b) ∙ z) ∙ operator.apply_vector_null R n A L n s.coefficient

  pub solution_zero : (F : ℕ → C) → solution K A b 0 F ≡ null R
  solution_zero F = ap (times R (⊖ inv (F 0))) (operator.apply_zero R A (tail R F) b) ∙ fun_ext (λ p. simp vector-laws)

  pub verdict_unique : {D D' : ℕ} {F F' : ℕ → C} → Settles K n A b D F → Settles K n A b D' F' → (D ≡ D') × (F ≡ F')
  verdict_unique {D} {D'} {F} {F'} p q = (e, q.only F (subst (λ d. Kills R A d F b) e p.kills))
    where
      e : D ≡ D'
      e = le_antisymm (p.least D' F' q.kills) (q.least D F p.kills)

  module _ (B : Below R n b) where
    pub verdict : {us : List (ℕ → C)} {r : ℕ → C} {D : ℕ} {F : ℕ → C} → Reached R n A b us r D F → r ≡ null R → Settles K n A b D F
    verdict {us} {r} {D} {F} p e =
        record {
          kills = k;
          degree_le = h.degree_le;
          least = least;
          only = only D (omega arith);
          other = λ d g G x. lt_of_le_of_ne (least d g G) (λ a. x (only d (sym a) g G));
          solvable = (kills_span k h.degree_le, λ s z. tail_nonzero h.monic least z (span_null D (tail R F) s (kills_singular k z)));
          solved = kills_solved k;
          singular = kills_singular k;
          nonzero = tail_nonzero h.monic least;
        }
      where
        h : Kept R n A b us r D F
        h = kept K n A b L B p

        k : Kills R A D F b
        k = record { monic = h.monic; vanishes = sym h.image ∙ e }

        least : (d : ℕ) (g : ℕ → C) → Kills R A d g b → D ≤ d
        least d g G = (h.factor d g G).degree_le

        only : (d : ℕ) → d ≡ D → (g : ℕ → C) → Kills R A d g b → g ≡ F
        only d a g G = (h.factor d g G).equation ∙ ap (λ x. product R x F) (monic_one R (subst (λ i. Monic R i q) (omega arith) (h.factor d g G).kills.monic)) ∙ product_one_left R F
          where
            q : ℕ → C
            q = (h.factor d g G).cofactor

    pub reached_unique : {us us' : List (ℕ → C)} {r r' : ℕ → C} {D D' : ℕ} {F F' : ℕ → C} → Reached R n A b us r D F → r ≡ null R → Reached R n A b us' r' D' F' → r' ≡ null R → (D ≡ D') × (F ≡ F')
    reached_unique p e p' e' = verdict_unique (verdict p e) (verdict p' e')
