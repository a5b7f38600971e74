-- What the steps keep. S is the power series of the sequence s, r the number of terms taken.
--     Gap s n r u      u has degree at most n, and u·S has no term from n up to r − 1
--     gap_shift, gap_sub_scale, gap_suc    the gap of z·u, that of u − c·v, one term more
--     Invariant s r st     q begins with 1; L ≤ r; q has a gap from L on, z·t one from r + 1 − L on; e is not zero and, where L is not,
--                          z·t·S's coefficient at r; nothing monic of a degree below L recurs on r terms
--     discrepancy_product      the discrepancy is q·S's coefficient at r
--     next_gap, next_head      next_q has a gap up to r, and begins with 1
--     invariant_start, invariant_stay, invariant_grow, invariant_step      kept from the start on
--     invariant        of N steps
use Rattle.std.specs.Prelude.{◌≡◌, ◌≢◌, ℕ, zero, suc, ◌+◌, ◌-◌, ◌*◌, ◌≤◌, ◌<◌}
use Rattle.std.proofs.Common.{sym, ap, subst, ◌∙◌, arith}
use Rattle.std.proofs.Math.Decide.{dec_lt}
use Rattle.algebra.specs.Ring.{Ring, Field, ring-laws, inv_mul}
use Rattle.algebra.specs.Ring as ring
use Rattle.algebra.specs.Polynomial.{Below, Monic, at, Recurs, const, const_zero, const_suc, shift, shift_zero, shift_suc, product}
use Rattle.sequence.specs.Zeros.{mul_eq_zero_right, sub_eq_zero, zero_place}
use Rattle.sequence.specs.Product.{product_shift, product_sub_scale, product_sum_within}
use Rattle.sequence.specs.Massey.{massey}
use Rattle.sequence.specs.Reversal.{reverse, reverse_at, reverse_recurs}
use Rattle.sequence.specs.Steps.{State, start, discrepancy, next_q, stay, grow, advance_zero, advance_grow, advance_stay, step, steps, steps_zero, steps_suc}

module _ (R : Ring) (s : ℕ → R.C) where
  open R use {C, add as ◌⊕◌, mul as ◌⊗◌, neg as ⊖◌, zero as 𝟎}

  infixl 60 ◌⊕◌
  infixl 70 ◌⊗◌
  infix 75 ⊖◌
  pub record Gap (n r : ℕ) (u : ℕ → C) : Type 0 where
    pub below : Below R (suc n) u
    pub zeros : (j : ℕ) → n ≤ j → j < r → product R u s j ≡ 𝟎

  pub gap_shift : (n r : ℕ) (u : ℕ → C) → Gap n r u → Gap (suc n) (suc r) (shift R u)
  gap_shift n r u g = record { below = below; zeros = zeros }
    where
      below : Below R (suc (suc n)) (shift R u)
      below zero l = shift_zero R u
      below (suc i) l = shift_suc R u i ∙ g.below i (omega arith)

      zeros : (j : ℕ) → suc n ≤ j → j < suc r → product R (shift R u) s j ≡ 𝟎
      zeros zero l m = absurd (omega arith)
      zeros (suc j) l m = product_shift R u s j ∙ g.zeros j (omega arith) (omega arith)

  pub gap_sub_scale : (n m k r : ℕ) (u : ℕ → C) (c : C) (v : ℕ → C) → n ≤ k → m ≤ k → Gap n r u → Gap m r v → Gap k r (λ i. u i ⊕ ⊖ (c ⊗ v i))
  gap_sub_scale n m k r u c v l h gu gv = record { below = below; zeros = zeros }
    where
      below : Below R (suc k) (λ i. u i ⊕ ⊖ (c ⊗ v i))
      below i a = sub_eq_zero R (gu.below i (omega arith) ∙ sym (mul_eq_zero_right R c (gv.below i (omega arith))))

      zeros : (j : ℕ) → k ≤ j → j < r → product R (λ i. u i ⊕ ⊖ (c ⊗ v i)) s j ≡ 𝟎
      zeros j a b =
          product_sub_scale R u c v s j
          ∙ sub_eq_zero R (gu.zeros j (omega arith) b ∙ sym (mul_eq_zero_right R c (gv.zeros j (omega arith) b)))

  pub gap_suc : (n r : ℕ) (u : ℕ → C) → Gap n r u → (n ≤ r → product R u s r ≡ 𝟎) → Gap n (suc r) u
  gap_suc n r u g h =
      record { below = g.below; zeros = λ j l m. zero_place R (product R u s) r j (h (omega arith)) (λ k. g.zeros j l (omega arith)) }

module _ (F : Field) (s : ℕ → F.ring.C) where
  open F use {ring as R, inv, zero?, one≢zero}
  open R use {C, add as ◌⊕◌, mul as ◌⊗◌, neg as ⊖◌, zero as 𝟎, one as 𝟏}

  infixl 60 ◌⊕◌
  infixl 70 ◌⊗◌
  infix 75 ⊖◌
  pub record Invariant (r : ℕ) (st : State F) : Type 0 where
    pub head : st.q 0 ≡ 𝟏
    pub within : st.L ≤ r
    pub gap : Gap R s st.L r st.q
    pub helper : Gap R s (suc r - st.L) r (shift R st.t)
    pub value : 0 < st.L → product R (shift R st.t) s r ≡ st.e
    pub nonzero : st.e ≢ 𝟎
    pub least : (k : ℕ) (g : ℕ → C) → Monic R k g → Recurs R r s k g → st.L ≤ k

  pub invariant_start : Invariant 0 (start F)
  invariant_start =
      record {
        head = const_zero R 𝟏;
        within = omega arith;
        gap = record { below = below; zeros = λ j l m. absurd (omega arith) };
        helper = record { below = helper_below; zeros = λ j l m. absurd (omega arith) };
        value = λ l. absurd (omega arith);
        nonzero = one≢zero;
        least = λ k g m h. omega arith;
      }
    where
      below : Below R 1 (const R 𝟏)
      below zero l = absurd (omega arith)
      below (suc i) l = const_suc R 𝟏 i

      helper_below : Below R 2 (shift R (λ i. 𝟎))
      helper_below zero l = absurd (omega arith)
      helper_below (suc i) l = shift_suc R (λ i. 𝟎) i

  module _ (r : ℕ) (st : State F) (I : Invariant r st) where
    pub discrepancy_product : discrepancy F s r st ≡ product R st.q s r
    discrepancy_product = sym (product_sum_within R st.L st.q s r I.gap.below I.within)

    -- (d/e)·z·t takes the discrepancy d away
    pub next_gap : (n : ℕ) → st.L ≤ n → suc r ≤ n + st.L → Gap R s n (suc r) (next_q F st (discrepancy F s r st))
    next_gap n l m = gap_suc R s n r (next_q F st d) (gap_sub_scale R s st.L (suc r - st.L) n r st.q c (shift R st.t) l (omega arith) I.gap I.helper) last
      where
        d : C
        d = discrepancy F s r st

        c : C
        c = d ⊗ inv st.e

        taken : c ⊗ st.e ≡ d
        taken = ring.mul_assoc R d (inv st.e) st.e ∙ ap (λ x. d ⊗ x) (inv_mul F st.e I.nonzero) ∙ ring.mul_one R d

        last : n ≤ r → product R (next_q F st d) s r ≡ 𝟎
        last k =
            product_sub_scale R st.q c (shift R st.t) s r
            ∙ sub_eq_zero R (sym discrepancy_product ∙ sym taken ∙ ap (λ x. c ⊗ x) (sym (I.value (omega arith))))

    pub next_head : (d : C) → next_q F st d 0 ≡ 𝟏
    next_head d = ap (λ x. st.q 0 ⊕ ⊖ (d ⊗ inv st.e ⊗ x)) (shift_zero R st.t) ∙ simp ring-laws I.head

    pub invariant_stay : (q' : ℕ → C) → q' 0 ≡ 𝟏 → Gap R s st.L (suc r) q' → Invariant (suc r) (stay F st q')
    invariant_stay q' h g =
        record {
          head = h;
          within = omega arith;
          gap = g;
          helper = subst (λ n. Gap R s n (suc r) (shift R (shift R st.t))) (omega arith) (gap_shift R s (suc r - st.L) r (shift R st.t) I.helper);
          value = λ l. product_shift R (shift R st.t) s r ∙ I.value l;
          nonzero = I.nonzero;
          least = λ k g m h. I.least k g m (λ j l. h j (omega arith));
        }

    -- the old generator fails at the term that is taken, so that by Massey's bound no shorter one than the new recurs
    pub invariant_grow : discrepancy F s r st ≢ 𝟎 → 2 * st.L < suc r → Invariant (suc r) (grow F r st (discrepancy F s r st))
    invariant_grow d≢0 l =
        record {
          head = next_head (discrepancy F s r st);
          within = omega arith;
          gap = next_gap (suc r - st.L) (omega arith) (omega arith);
          helper = subst (λ n. Gap R s n (suc r) (shift R st.q)) (omega arith) (gap_shift R s st.L r st.q I.gap);
          value = λ k. product_shift R st.q s r ∙ sym discrepancy_product;
          nonzero = d≢0;
          least = λ k g m h. omega (arith, massey R s (r - st.L) st.L old recurs fails k g m (λ j a. h j (omega arith)));
        }
      where
        old : ℕ → C
        old = reverse R st.L st.q

        recurs : Recurs R (r - st.L + st.L) s st.L old
        recurs = (reverse_recurs R (r - st.L + st.L) s st.L st.q I.gap.below).0 (λ j a b. I.gap.zeros j a (omega arith))

        fails : at R s st.L old (r - st.L) ≢ 𝟎
        fails e =
            d≢0 (discrepancy_product ∙ ap (product R st.q s) (omega arith) ∙ sym (reverse_at R s st.L st.q I.gap.below (r - st.L)) ∙ e)

    pub invariant_step : Invariant (suc r) (step F s r st)
    invariant_step =
        elim (zero? d) [
          | yes z ↦ rw (advance_zero F r st d z) (invariant_stay st.q I.head (gap_suc R s st.L r st.q I.gap (λ l. sym discrepancy_product ∙ z)))
          | no n ↦ elim (dec_lt (2 * st.L) (suc r)) [
            | yes l ↦ rw (advance_grow F r st d n l) (invariant_grow n l)
            | no h ↦ rw (advance_stay F r st d n (omega arith)) (invariant_stay (next_q F st d) (next_head d) (next_gap st.L (omega arith) (omega arith)))
          ]
        ]
      where
        d : C
        d = discrepancy F s r st

  pub invariant : (N : ℕ) → Invariant N (steps F s N)
  invariant zero = rw steps_zero invariant_start
  invariant (suc N) = rw steps_suc (invariant_step N (steps F s N) (invariant N))
