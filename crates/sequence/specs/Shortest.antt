-- The steps give the shortest recurrence, and where it is at most half as long as the list, no other fits.
--     generator s N    what the steps end with: f of document 01, of degree steps s N .L
--     shortest         it is a shortest recurrence of the first N terms
--     shorter_never    where 2·L ≤ N, no monic polynomial of degree below L is zero at the places where L terms follow within N
--     shorter_zero     where 2·L ≤ N, a polynomial of degree below the least L that recurs as if it had degree L is zero
--     unique           where 2·L ≤ N, one generator of the least length L alone recurs
use Rattle.std.specs.Prelude.{◌≡◌, ◌≢◌, ◌⊎◌, ℕ, suc, ◌+◌, ◌-◌, ◌*◌, ◌≤◌, ◌<◌}
use Rattle.std.proofs.Common.{sym, ◌∙◌, inl, inr, arith}
use Rattle.std.proofs.Math.Path.{fun_ext}
use Rattle.std.proofs.Math.Decide.{dec_lt}
use Rattle.algebra.specs.Ring.{Field, sub_zero_eq}
use Rattle.algebra.specs.Polynomial.{Below, Monic, at, Recurs, Shortest}
use Rattle.polynomial.specs.Degree.{zeros_or_degree, monic_made}
use Rattle.sequence.specs.Zeros.{mul_eq_zero_right, sub_eq_zero, zero_place}
use Rattle.sequence.specs.At.{at_extend, at_scale, at_sub}
use Rattle.sequence.specs.Massey.{massey}
use Rattle.sequence.specs.Search.{First, first_nonzero}
use Rattle.sequence.specs.Reversal.{reverse, reverse_monic, reverse_recurs}
use Rattle.sequence.specs.Steps.{State, steps}
use Rattle.sequence.specs.Invariant.{Invariant, invariant}

module _ (F : Field) where
  open F use {ring as R, inv}
  open R use {C, add as ◌⊕◌, mul as ◌⊗◌, neg as ⊖◌, zero as 𝟎}

  infixl 60 ◌⊕◌
  infixl 70 ◌⊗◌
  infix 75 ⊖◌
  abbrev pub generator : (ℕ → C) → ℕ → ℕ → C
  generator s N = reverse R (steps F s N).L (steps F s N).q

  pub shortest : (s : ℕ → C) (N : ℕ) → Shortest R N s (steps F s N).L (generator s N)
  shortest s N =
      record {
        monic = reverse_monic R st.L st.q I.head;
        recurs = (reverse_recurs R N s st.L st.q I.gap.below).0 I.gap.zeros;
        least = I.least;
      }
    where
      st : State F
      st = steps F s N

      I : Invariant F s N st
      I = invariant F s N

  module _ (N : ℕ) (s : ℕ → C) (L : ℕ) (f : ℕ → C) (half : 2 * L ≤ N) (S : Shortest R N s L f) where
    -- a monic g of a lower degree has to fail below N, and first at a place from N − L on: too late by Massey's bound
    pub shorter_never : (k : ℕ) (g : ℕ → C) → Monic R k g → k < L → ((j : ℕ) → j + L < N → at R s k g j ≡ 𝟎) → ⊥
    shorter_never k g m l z = go (first_nonzero F (N - k) (at R s k g))
      where
        go : ((j : ℕ) → j < N - k → at R s k g j ≡ 𝟎) ⊎ First F (N - k) (at R s k g) → ⊥
        go (inl h) = omega (arith, S.least k g m (λ j a. h j (omega arith)))
        go (inr p) =
            elim (dec_lt (p.place + L) N) [
              | yes a ↦ p.nonzero (z p.place a)
              | no a ↦ omega (arith, massey R s p.place k g (λ i b. p.before i (omega arith)) p.nonzero L f S.monic (λ i b. S.recurs i (omega arith)))
            ]

    pub shorter_zero : (h : ℕ → C) → Below R L h → Recurs R N s L h → Below R 0 h
    shorter_zero h b H = elim (zeros_or_degree F L h b) [ inl z ↦ λ i l. z i | inr l ↦ absurd (never l.degree l.degree_lt l.lead_nonzero l.above) ]
      where
        never : (k : ℕ) → k < L → h k ≢ 𝟎 → Below R (suc k) h → ⊥
        never k l n a = shorter_never k (λ i. inv (h k) ⊗ h i) (monic_made F k h n a) l (λ j m. at_scale R s k (inv (h k)) h j ∙ mul_eq_zero_right R (inv (h k)) (sym (at_extend R s k L h (omega arith) a j) ∙ H j m))

    pub unique : (g : ℕ → C) → Monic R L g → Recurs R N s L g → g ≡ f
    unique g m H = fun_ext (λ i. sub_zero_eq R (g i) (f i) (shorter_zero (λ i. g i ⊕ ⊖ f i) below recurs i (omega arith)))
      where
        below : Below R L (λ i. g i ⊕ ⊖ f i)
        below i l =
            zero_place R (λ i. g i ⊕ ⊖ f i) L i (sub_eq_zero R (m.lead ∙ sym S.monic.lead)) (λ n. sub_eq_zero R (m.above i (omega arith) ∙ sym (S.monic.above i (omega arith))))

        recurs : Recurs R N s L (λ i. g i ⊕ ⊖ f i)
        recurs j l = at_sub R s L g f j ∙ sub_eq_zero R (H j l ∙ sym (S.recurs j l))
