-- Any n + 1 vectors of n places are dependent, by elimination on n; so every vector has an annihilator of degree at most n.
--     Dependent n v        coefficients of v 0 .. v n, not all zero, with sum zero at every place
--     dependent            there are such
--     annihilator          some monic polynomial of degree at most n kills b
use Rattle.std.specs.Prelude.{◌≡◌, ◌≢◌, ◌⊎◌}
use Rattle.std.proofs.Math.Path.{refl, fun_ext}
use Rattle.std.proofs.Common.{sym, ap, ◌∙◌, inl, inr, arith}
use Prim.Native.Nat.{ℕ, zero, suc, ◌≤◌, ◌<◌}
use Rattle.algebra.specs.Ring.{Ring, Field, ring-laws}
use Rattle.algebra.specs.Ring as ring
use Rattle.algebra.specs.Sum.{sum, sum_head, sum_add, sum_scale_right, sum_zeros}
use Rattle.algebra.specs.Polynomial.{Below, const, const_zero, const_suc, cons, cons_zero, cons_suc, cons_below}
use Rattle.polynomial.specs.Degree.{Degree, zeros_or_degree, monic_made, one_monic}
use Rattle.krylov.specs.Operator.{Operator, Linear, Annihilator, power, apply, null, times, vector-laws}
use Rattle.krylov.specs.Operator as operator

-- the place that place i was before place p was taken out
skip : ℕ → ℕ → ℕ
skip zero i = suc i
skip (suc p) zero = zero
skip (suc p) (suc i) = suc (skip p i)

skip_after : (p i : ℕ) → p ≤ i → skip p i ≡ suc i
unfolding skip
skip_after zero i l = refl
skip_after (suc p) zero l = absurd (omega arith)
skip_after (suc p) (suc i) l = ap suc (skip_after p i (omega arith))

module _ (R : Ring) where
  open R use {C, mul as ◌⊗◌, zero as 𝟎}

  infixl 70 ◌⊗◌
  every_place : (p : ℕ) (f : ℕ → C) → f p ≡ 𝟎 → ((i : ℕ) → f (skip p i) ≡ 𝟎) → (i : ℕ) → f i ≡ 𝟎
  unfolding skip
  every_place zero f a h zero = a
  every_place zero f a h (suc i) = h i
  every_place (suc p) f a h zero = h 0
  every_place (suc p) f a h (suc i) = every_place p (λ j. f (suc j)) a (λ j. h (suc j)) i

  pub record Dependent (n : ℕ) (v : ℕ → ℕ → C) : Type 0 where
    pub coefficient : ℕ → C
    pub below : Below R (suc n) coefficient
    pub index : ℕ
    pub index_le : index ≤ n
    pub nonzero : coefficient index ≢ 𝟎
    pub relation : (place : ℕ) → sum R (suc n) (λ i. coefficient i ⊗ v i place) ≡ 𝟎

module _ (F : Field) where
  open F use {ring as R, inv, one≢zero}
  open R use {C, add as ◌⊕◌, mul as ◌⊗◌, neg as ⊖◌, zero as 𝟎, one as 𝟏}

  infixl 60 ◌⊕◌
  infixl 70 ◌⊗◌
  infix 75 ⊖◌
  first_zero : (n : ℕ) (v : ℕ → ℕ → C) → ((i : ℕ) → v 0 i ≡ 𝟎) → Dependent R n v
  first_zero n v h =
      record {
        coefficient = const R 𝟏;
        below = λ i l. (one_monic R).above i (omega arith);
        index = 0;
        index_le = omega arith;
        nonzero = λ e. one≢zero (sym (const_zero R 𝟏) ∙ e);
        relation = λ i. sum_head R n (λ k. const R 𝟏 k ⊗ v k i) ∙ simp (h, const_suc, ring-laws) (sum_zeros R n (λ k. 𝟎) (λ k l. refl));
      }

  -- vector i + 1 less the multiple of vector 0 that clears place p
  cleared : (ℕ → ℕ → C) → ℕ → ℕ → ℕ → C
  cleared v p i place = v (suc i) place ⊕ ⊖ (v (suc i) p ⊗ inv (v 0 p)) ⊗ v 0 place

  cleared_at : (v : ℕ → ℕ → C) (p i place : ℕ) → cleared v p i place ≡ v (suc i) place ⊕ ⊖ (v (suc i) p ⊗ inv (v 0 p)) ⊗ v 0 place
  unfolding cleared
  cleared_at v p i place = refl

  cleared_pivot : (v : ℕ → ℕ → C) (p : ℕ) → v 0 p ≢ 𝟎 → (i : ℕ) → cleared v p i p ≡ 𝟎
  cleared_pivot v p z i = simp (cleared_at, ring.neg_mul R, ring.mul_assoc R) (simp (ring.inv_mul F (v 0 p) z, ring-laws))

  cleared_zero : (v : ℕ → ℕ → C) (p i place : ℕ) → v (suc i) place ≡ 𝟎 → v 0 place ≡ 𝟎 → cleared v p i place ≡ 𝟎
  cleared_zero v p i place a b = simp (cleared_at, a, b, ring-laws)

  -- the coefficient of vector 0 that makes up for what was cleared
  made_up : ℕ → (ℕ → ℕ → C) → ℕ → (ℕ → C) → C
  made_up n v p c = sum R n (λ i. c i ⊗ ⊖ (v (suc i) p ⊗ inv (v 0 p)))

  cleared_sum : (n : ℕ) (v : ℕ → ℕ → C) (p : ℕ) (c : ℕ → C) (place : ℕ) → sum R (suc n) (λ i. cons R (made_up n v p c) c i ⊗ v i place) ≡ sum R n (λ i. c i ⊗ cleared v p i place)
  unfolding made_up
  cleared_sum n v p c place =
      sum_head R n (λ i. cons R (made_up n v p c) c i ⊗ v i place)
      ∙ simp (cons_zero, cons_suc, ← sum_scale_right R (v 0 place) n (λ i. c i ⊗ ⊖ (v (suc i) p ⊗ inv (v 0 p))), ← sum_add) (simp (cleared_at, ring-laws))

  eliminate : (n : ℕ) (v : ℕ → ℕ → C) (p : ℕ) → v 0 p ≢ 𝟎 → Dependent R n (λ i q. cleared v p i (skip p q)) → Dependent R (suc n) v
  eliminate n v p z s =
      record {
        coefficient = cons R x c;
        below = cons_below R (suc n) x c s.below;
        index = suc s.index;
        index_le = omega (arith, s.index_le);
        nonzero = λ e. s.nonzero (sym (cons_suc R x c s.index) ∙ e);
        relation =
            every_place R p (λ place. sum R (suc (suc n)) (λ i. cons R x c i ⊗ v i place))
            (cleared_sum (suc n) v p c p ∙ sum_zeros R (suc n) (λ i. c i ⊗ cleared v p i p) (λ i l. simp (cleared_pivot v p z i, ring-laws)))
            (λ q. cleared_sum (suc n) v p c (skip p q) ∙ s.relation q);
      }
    where
      c : ℕ → C
      c = s.coefficient

      x : C
      x = made_up (suc n) v p c

  pub dependent : (n : ℕ) (v : ℕ → ℕ → C) → ((i : ℕ) → i ≤ n → Below R n (v i)) → Dependent R n v
  dependent zero v h = first_zero 0 v (λ i. h 0 (omega arith) i (omega arith))
  dependent (suc n) v h = go (zeros_or_degree F (suc n) (v 0) (h 0 (omega arith))) (λ p. dependent n (λ i q. cleared v p i (skip p q)))
    where
      below : (p : ℕ) → p < suc n → (i : ℕ) → i ≤ n → Below R n (λ q. cleared v p i (skip p q))
      below p l i a q b =
          ap (cleared v p i) (skip_after p q (omega arith))
          ∙ cleared_zero v p i (suc q) (h (suc i) (omega arith) (suc q) (omega arith)) (h 0 (omega arith) (suc q) (omega arith))

      go : ((i : ℕ) → v 0 i ≡ 𝟎) ⊎ Degree R (suc n) (v 0) → ((p : ℕ) → ((i : ℕ) → i ≤ n → Below R n (λ q. cleared v p i (skip p q))) → Dependent R n (λ i q. cleared v p i (skip p q))) → Dependent R (suc n) v
      go (inl a) ih = first_zero (suc n) v a
      go (inr a) ih = eliminate n v a.degree a.lead_nonzero (ih a.degree (below a.degree a.degree_lt))

  pub annihilator : (n : ℕ) (A : Operator R) (b : ℕ → C) → Linear R n A → Below R n b → Annihilator R A n b
  unfolding times
  annihilator n A b L h = go (zeros_or_degree F (suc n) f s.below)
    where
      s : Dependent R n (λ i. power R A i b)
      s = dependent n (λ i. power R A i b) (λ i l. operator.power_below R n A L i b h)

      f : ℕ → C
      f = s.coefficient

      vanishes : (d : ℕ) → d ≤ n → Below R (suc d) f → apply R A (suc d) f b ≡ null R
      vanishes d l a =
          sym (operator.apply_extend R A (suc d) (suc n) f b (omega arith) a)
          ∙ fun_ext (λ p. operator.apply_at R A (suc n) f b p ∙ s.relation p ∙ sym (operator.null_at R p))

      go : ((i : ℕ) → f i ≡ 𝟎) ⊎ Degree R (suc n) f → Annihilator R A n b
      go (inl a) = absurd (s.nonzero (a s.index))
      go (inr a) =
          record {
            degree = d;
            degree_le = omega (arith, a.degree_lt);
            polynomial = times R c f;
            kills = record {
              monic = monic_made F d f a.lead_nonzero a.above;
              vanishes = operator.apply_times R A (suc d) c f b ∙ ap (times R c) (vanishes d (omega (arith, a.degree_lt)) a.above) ∙ fun_ext (λ p. simp vector-laws);
            };
          }
        where
          d : ℕ
          d = a.degree

          c : C
          c = inv (f d)
