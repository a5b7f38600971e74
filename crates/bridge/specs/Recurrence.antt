-- The meaning's shortest recurrence is the theory's over the residues modulo p, and so it is a shortest recurrence.
--     state c                  q, t, L and e as the theory's: lists by coef, e by mk
--     mk_discrepancy, coef_update, state_start, state_step      through it the meaning's are the theory's
--     state_steps              and so are r steps, of any list s
--     degree_is, coef_generator      L and f are the theory's
--     reduced_generator, generator_monic     f's elements are below p; it is monic
--     IsMonic p d f, monic_to, monic_from        what is_monic tests
--     recurs_to, recurs_from   what recurs tests
--     generator_shortest       f is the theory's shortest recurrence of the list's terms
--     is_shortest               document 01's sentence: the least L, f recurs, and where 2 × L ≤ N no other does
use Rattle.std.specs.Prelude.{◌≡◌, refl, ◌≢◌, true, List, ◌∷◌, length}
use Rattle.std.proofs.Math.Path.{sym, ap}
use Rattle.std.proofs.Common.{ap₂, ◌∙◌, mod-lt, mod-eq_of_lt, add-one, arith}
use Prim.Native.Nat.{ℕ, zero, suc, ◌+◌, ◌-◌, ◌*◌, ◌%◌, ◌≤◌, ◌<◌, max}
use Rattle.std.proofs.Math.Decide.{dec_lt, ℕ_discrete}
use Rattle.std.proofs.Math.Dec.{eqb}
use borrow.Author.Tests.{eqb-true, eq-eqb}
use Rattle.meaning.specs.List.{at, sum as sumℕ}
use Rattle.meaning.specs.Field.{minus, times, inverse}
use Rattle.meaning.specs.Recurrence.{is_monic, recurs, IsShortest, Steps, start, discrepancy, update, step, steps, reversed, degree, generator}
use Rattle.laws.specs.Bool.{and_both}
use Rattle.laws.specs.List.{all_at, all_of}
use Rattle.laws.specs.Recurrence.{monic_length, monic_elements, monic_leading, times_lt, step_zero, step_grow, step_stay, steps_zero, steps_suc, discrepancy_lt, length_generator, generator_below}
use Rattle.algebra.specs.Ring.{ring-laws}
use Rattle.algebra.specs.Sum.{sum, sum_ext}
use Rattle.algebra.specs.Polynomial.{Below, Monic, Recurs, Shortest, shift, const}
use Rattle.algebra.specs.Polynomial as polynomial
use Rattle.residue.specs.Prime.{Prime}
use Rattle.residue.specs.Residue.{residues, mk, mk_zero, mk_one, mk_inj, mk_zero_iff, mk_inv}
use Rattle.residue.specs.Lists.{Reduced, coef, coef_below, coef_ext}
use Rattle.sequence.specs.Reversal.{reverse, reverse_within, reverse_above}
use Rattle.sequence.specs.Steps.{State, advance_zero, advance_grow, advance_stay, next_q}
use Rattle.sequence.specs.Steps as theory
use Rattle.sequence.specs.Shortest as shortest
use Rattle.bridge.specs.Lists.{every_reduced, reduced_every, table_coef, coef_nil, coef_one, coef_shift, mk_dot_mod, mk_times, mk_difference}

positive : (p : ℕ) → Prime p → 0 < p
positive p h = omega (arith, h.two_le)

-- ---- the steps

module _ (p : ℕ) (h : Prime p) where
  open residues p h use {ring as R, inv}
  open R use {C, add as ◌⊕◌, mul as ◌⊗◌, neg as ⊖◌, zero as 𝟎, one as 𝟏}

  infixl 60 ◌⊕◌
  infixl 70 ◌⊗◌
  infix 75 ⊖◌
  abbrev pub state : Steps → State (residues p h)
  state c = record { q = coef p h c.q; t = coef p h c.t; L = c.L; e = mk p h c.e }

  same_state : {q q' t t' : ℕ → C} {L : ℕ} {e e' : C} → q ≡ q' → t ≡ t' → e ≡ e'
      → ◌≡◌ {A = State (residues p h)} (record { q = q; t = t; L = L; e = e }) (record { q = q'; t = t'; L = L; e = e' })
  same_state {L} a b c = λ i. record { q = a i; t = b i; L = L; e = c i }

  pub state_start : state start ≡ theory.start (residues p h)
  unfolding start
  state_start = same_state (coef_one p h 1 ∙ ap (const R) (mk_one p h)) (coef_nil p h) (mk_one p h)

  pub mk_discrepancy : (s : List ℕ) (r : ℕ) (c : Steps) → mk p h (discrepancy p s (suc r) c) ≡ theory.discrepancy (residues p h) (coef p h s) r (state c)
  unfolding discrepancy
  mk_discrepancy s r c =
      mk_dot_mod p h (c.L + 1) (λ i. at c.q i) (λ i. at s (suc r - 1 - i))
      ∙ ap (λ n. sum R n (λ i. coef p h c.q i ⊗ coef p h s (suc r - 1 - i))) (add-one c.L)
      ∙ sum_ext R (suc c.L) (λ i. coef p h c.q i ⊗ coef p h s (suc r - 1 - i)) (λ i. coef p h c.q i ⊗ coef p h s (r - i)) (λ i l. ap (λ j. coef p h c.q i ⊗ coef p h s j) (omega arith))

  pub coef_update : (d : ℕ) (c : Steps) → coef p h (update p d c) ≡ next_q (residues p h) (state c) (mk p h d)
  unfolding update
  coef_update d c = table_coef p h n f (next_q (residues p h) (state c) (mk p h d)) (λ i k. place i) above
    where
      n : ℕ
      n = max (length c.q) (length c.t + 1)

      f : ℕ → ℕ
      f i = minus p (at c.q i) (times p (times p d (inverse p c.e)) (at (0 ∷ c.t) i))

      shifted : (i : ℕ) → coef p h (0 ∷ c.t) i ≡ shift R (coef p h c.t) i
      shifted i = ap (λ (g : ℕ → C). g i) (coef_shift p h c.t)

      vanish : (x : C) → 𝟎 ⊕ ⊖ (x ⊗ 𝟎) ≡ 𝟎
      vanish x = simp ring-laws

      place : (i : ℕ) → mk p h (f i) ≡ next_q (residues p h) (state c) (mk p h d) i
      place i =
          mk_difference p h (at c.q i) (times p (times p d (inverse p c.e)) (at (0 ∷ c.t) i)) (times_lt p (times p d (inverse p c.e)) (at (0 ∷ c.t) i) (positive p h))
          ∙ ap (λ x. coef p h c.q i ⊕ ⊖ x)
          (mk_times p h (times p d (inverse p c.e)) (at (0 ∷ c.t) i)
          ∙ ap₂ ◌⊗◌ (mk_times p h d (inverse p c.e) ∙ ap (λ x. mk p h d ⊗ x) (mk_inv p h c.e)) (shifted i))

      above : Below R n (next_q (residues p h) (state c) (mk p h d))
      above i l =
          ap₂ (λ a b. a ⊕ ⊖ (mk p h d ⊗ inv (mk p h c.e) ⊗ b)) (coef_below p h c.q i (omega arith)) (sym (shifted i) ∙ coef_below p h (0 ∷ c.t) i (omega arith))
          ∙ vanish (mk p h d ⊗ inv (mk p h c.e))

  pub state_step : (s : List ℕ) (r : ℕ) (c : Steps) → state (step p s (suc r) c) ≡ theory.step (residues p h) (coef p h s) r (state c)
  state_step s r c =
      elim (ℕ_discrete d 0) [
        | yes z ↦ ap state (step_zero p s (suc r) c z) ∙ same_state refl (coef_shift p h c.t) refl ∙ sym (advance_zero (residues p h) r (state c) D (sym (mk_discrepancy s r c) ∙ ap (mk p h) z ∙ mk_zero p h))
        | no z ↦ elim (dec_lt (2 * c.L) (suc r)) [
          | yes l ↦ ap state (step_grow p s (suc r) c z l) ∙ same_state updated refl (mk_discrepancy s r c) ∙ sym (advance_grow (residues p h) r (state c) D (nonzero z) l)
          | no l ↦ ap state (step_stay p s (suc r) c z (omega arith)) ∙ same_state updated (coef_shift p h c.t) refl ∙ sym (advance_stay (residues p h) r (state c) D (nonzero z) (omega arith))
        ]
      ]
    where
      d : ℕ
      d = discrepancy p s (suc r) c

      D : C
      D = theory.discrepancy (residues p h) (coef p h s) r (state c)

      updated : coef p h (update p d c) ≡ next_q (residues p h) (state c) D
      updated = coef_update d c ∙ ap (next_q (residues p h) (state c)) (mk_discrepancy s r c)

      nonzero : d ≢ 0 → D ≢ 𝟎
      nonzero z e =
          z (sym (mod-eq_of_lt (discrepancy_lt p s (positive p h) (suc r) c)) ∙ (mk_zero_iff p h d).0 (mk_discrepancy s r c ∙ e))

  pub state_steps : (s : List ℕ) (r : ℕ) → state (steps p s r) ≡ theory.steps (residues p h) (coef p h s) r
  state_steps s zero = ap state (steps_zero p s) ∙ state_start ∙ sym (theory.steps_zero (residues p h) (coef p h s))
  state_steps s (suc r) =
      ap state (steps_suc p s r) ∙ state_step s r (steps p s r) ∙ ap (theory.step (residues p h) (coef p h s) r) (state_steps s r)
      ∙ sym (theory.steps_suc (residues p h) (coef p h s) r)

  -- ---- the generator

  pub reduced_generator : (s : List ℕ) → Reduced p (generator p s)
  reduced_generator s i k = generator_below p h.two_le s i

  pub degree_is : (s : List ℕ) → degree p s ≡ (theory.steps (residues p h) (coef p h s) (length s)).L
  unfolding degree
  degree_is s = ap (λ st. st.L) (state_steps s (length s))

  coef_reversed : (L : ℕ) (q : List ℕ) → coef p h (reversed L q) ≡ reverse R L (coef p h q)
  unfolding reversed
  coef_reversed L q =
      table_coef p h (L + 1) (λ i. at q (L - i)) (reverse R L (coef p h q)) (λ i k. sym (reverse_within R L (coef p h q) i (omega arith)))
      (λ i k. reverse_above R L (coef p h q) i (omega arith))

  pub coef_generator : (s : List ℕ) → coef p h (generator p s) ≡ shortest.generator (residues p h) (coef p h s) (length s)
  unfolding generator degree
  coef_generator s =
      coef_reversed (steps p s (length s)).L (steps p s (length s)).q ∙ ap (λ st. reverse R st.L st.q) (state_steps s (length s))

  pub generator_shortest : (s : List ℕ) → Shortest R (length s) (coef p h s) (degree p s) (coef p h (generator p s))
  generator_shortest s =
      rw (degree_is s, coef_generator s) (shortest.shortest (residues p h) (coef p h s) (length s))

-- ---- what is_monic and recurs test

module _ (p : ℕ) (h : Prime p) where
  open residues p h use {ring as R, inv}
  open R use {C, add as ◌⊕◌, mul as ◌⊗◌, neg as ⊖◌, zero as 𝟎, one as 𝟏}

  infixl 60 ◌⊕◌
  infixl 70 ◌⊗◌
  infix 75 ⊖◌
  pub record IsMonic (d : ℕ) (f : List ℕ) : Type 0 where
    pub size : length f ≡ d + 1
    pub reduced : Reduced p f
    pub monic : Monic R d (coef p h f)

  pub monic_to : (d : ℕ) (f : List ℕ) → is_monic p d f ≡ true → IsMonic d f
  monic_to d f e =
      let long = monic_length p d f e in
      record {
        size = long;
        reduced = every_reduced p f (monic_elements p d f e);
        monic = record { lead = ap (mk p h) (monic_leading p d f e) ∙ mk_one p h; above = λ i l. coef_below p h f i (omega (arith, long)) };
      }

  pub monic_from : (d : ℕ) (f : List ℕ) → IsMonic d f → is_monic p d f ≡ true
  unfolding is_monic
  monic_from d f m =
      and_both (and_both (eq-eqb (length f) (d + 1) m.size) (reduced_every p f m.reduced))
      (eq-eqb (at f d) 1 (mk_inj p h (at f d) 1 (m.reduced d (omega (arith, m.size))) h.two_le (m.monic.lead ∙ sym (mk_one p h))))

  mk_at : (s f : List ℕ) (d j : ℕ) → mk p h (sumℕ (d + 1) (λ i. at f i * at s (i + j)) % p) ≡ polynomial.at R (coef p h s) d (coef p h f) j
  mk_at s f d j =
      mk_dot_mod p h (d + 1) (λ i. at f i) (λ i. at s (i + j)) ∙ ap (λ n. sum R n (λ i. coef p h f i ⊗ coef p h s (i + j))) (add-one d)

  pub recurs_to : (s : List ℕ) (d : ℕ) (f : List ℕ) → recurs p s d f ≡ true → Recurs R (length s) (coef p h s) d (coef p h f)
  unfolding recurs
  recurs_to s d f e j l =
      sym (mk_at s f d j)
      ∙ ap (mk p h) (eqb-true (sumℕ (d + 1) (λ i. at f i * at s (i + j)) % p) 0 (all_at (length s - d) (λ j. eqb (sumℕ (d + 1) (λ i. at f i * at s (i + j)) % p) 0) e j (omega arith)))
      ∙ mk_zero p h

  pub recurs_from : (s : List ℕ) (d : ℕ) (f : List ℕ) → Recurs R (length s) (coef p h s) d (coef p h f) → recurs p s d f ≡ true
  unfolding recurs
  recurs_from s d f e =
      all_of (length s - d) (λ j. eqb (sumℕ (d + 1) (λ i. at f i * at s (i + j)) % p) 0)
      (λ j l. eq-eqb (sumℕ (d + 1) (λ i. at f i * at s (i + j)) % p) 0 (mk_inj p h (sumℕ (d + 1) (λ i. at f i * at s (i + j)) % p) 0 (mod-lt (sumℕ (d + 1) (λ i. at f i * at s (i + j))) (positive p h)) (positive p h) (mk_at s f d j ∙ e j (omega arith) ∙ sym (mk_zero p h))))

  pub generator_monic : (s : List ℕ) → IsMonic (degree p s) (generator p s)
  generator_monic s =
      record { size = length_generator p s; reduced = reduced_generator p h s; monic = (generator_shortest p h s).monic }

  pub is_shortest : (s : List ℕ) → IsShortest p s (degree p s) (generator p s)
  is_shortest s =
      record {
        monic = monic_from (degree p s) (generator p s) (generator_monic s);
        fits = recurs_from s (degree p s) (generator p s) S.recurs;
        shortest = λ k g m e. S.least k (coef p h g) (monic_to k g m).monic (recurs_to s k g e);
        only = only;
      }
    where
      S : Shortest R (length s) (coef p h s) (degree p s) (coef p h (generator p s))
      S = generator_shortest p h s

      only : 2 * degree p s ≤ length s → (g : List ℕ) → is_monic p (degree p s) g ≡ true → recurs p s (degree p s) g ≡ true → g ≡ generator p s
      only l g m e =
          coef_ext p h g (generator p s) M.reduced (reduced_generator p h s) (M.size ∙ sym (length_generator p s))
          (λ i k. ap (λ (f : ℕ → C). f i) (shortest.unique (residues p h) (length s) (coef p h s) (degree p s) (coef p h (generator p s)) l S (coef p h g) M.monic (recurs_to s (degree p s) g e)))
        where
          M : IsMonic (degree p s) g
          M = monic_to (degree p s) g m
