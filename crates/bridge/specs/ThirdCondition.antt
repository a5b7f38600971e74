-- The customer's third condition holds of the meaning's `solve`.
--     verdict_zero, verdict_singular, verdict_solved      the meaning's verdict by its cases: D = 0; D > 0 and F[0] = 0; neither is 0
--     verdict_vector       its vector has n elements, all below p
--     solved≢singular      the kinds differ
--     span_to, span_from   "b is a sum of multiples of Ab, A²b, .., Aⁿb" is the theory's Span
-- Of any c in which a run stands (Run's Stands) with r = 0, for any size, 0 included, and any projections:
--     end_verdict          D and F settle A and b, in the theory
--     end_monic, end_annihilates, end_lowest      F is monic of degree D, F(A)b = 0, and every other such g has a higher degree
--     IsSingular, IsSolved, end_singular, end_solved      kind and vector where F[0] is 0, and where it is not
--     end_exactly, end_solves, end_not_zero, end_to_zero      the kind is solved exactly if b is in the span; what the vector is then, and otherwise
--     end_found            D > 0 if b is not zero
--     same_ends            two such ends on one system agree
-- Of a run with any list of projections that ends with r = 0:
--     run_counted          its applications
--     same_answer           two such runs agree
--     projections_zero     the words' projections are such a list
-- Of such a run on AX, answered with X times its vector:
--     third_condition       the third condition: AX in A's place, but for what the vector meets
--     answered_same        two such runs agree
-- Of `solve`:
--     Accepted p A b, accepted_of, accepted      what the checks of a system, and of a run, say to the theory: p is prime, b has n elements, all below p
--     every_run             the third condition of every run, whatever the words and the scales
--     every_two_runs         every two runs on one system, its scales with it, give the same kind, vector and polynomial, whatever their words
--     every_empty_run        every run on size 0 ends with the empty vector and f = 1, and makes no pass
--     solve_same           runs whose columns have the same scales end alike
--     every_plain_run        every run with n ones as scales ends as the run without scales
use Rattle.std.specs.Prelude.{◌≡◌, refl, ◌≢◌, ◌⊎◌, ◌↔◌, true, false, cond, length, drop}
use Rattle.std.proofs.Math.Path.{sym, ap, ap₂, fun_ext}
use Rattle.std.proofs.Common.{subst, ◌∙◌, inl, inr, add-one, arith, length-drop, get_or-drop}
use mathlib.Core.List.{List, []}
use Prim.Native.Nat.{ℕ, suc, ◌+◌, ◌-◌, ◌*◌, ◌%◌, ◌<◌}
use Rattle.std.proofs.Math.Decide.{ℕ_discrete}
use borrow.Author.Tests.{eq-eqb, ne_eqb}
use Rattle.meaning.specs.List.{at, sum as sumℕ, table, zeros, every, is_zero}
use Rattle.meaning.specs.Field.{minus, times, inverse}
use Rattle.meaning.specs.Matrix.{Matrix, size, product, power, apply, multiplied, scale_at, scaled, diagonal}
use Rattle.meaning.specs.Recurrence.{is_monic}
use Rattle.meaning.specs.Solver.{vector_count, vectors, projections, Run, begin, run, Kind, solved, singular, Outcome, spent, applications, verdict, close, outcome, answered, solve, nothing_left}
use Rattle.meaning.specs.ThirdCondition.{in_span, term_cost, ThirdCondition, SameAnswer}
use Rattle.meaning.specs.Refusal.{first}
use Rattle.meaning.specs.Calls.{run_checks, EveryRun, EveryTwoRuns, EveryEmptyRun, EveryPlainRun}
use Rattle.laws.specs.Bool.{test_cases, never}
use Rattle.laws.specs.List.{length_table, length_none}
use Rattle.laws.specs.Accepted.{AcceptedSystem, AcceptedScales, run_accepted}
use Rattle.laws.specs.Solver.{length_projections, spent_nil}
use Rattle.algebra.specs.Ring.{ring-laws}
use Rattle.algebra.specs.Ring as ring
use Rattle.algebra.specs.Sum.{sum, sum_ext, sum_zeros}
use Rattle.algebra.specs.Polynomial.{Below}
use Rattle.residue.specs.Prime.{Prime, is_modulus_Prime}
use Rattle.residue.specs.Residue.{residues, mk, value, mk_zero, mk_inj, mk_inv, mk_value}
use Rattle.residue.specs.Lists.{Reduced, reduced_get_or, reduced_table, coef, coef_below, coef_ext, coef_table, values}
use Rattle.krylov.specs.Operator.{Kills, times_at, power_below, apply_below, apply_degree_zero}
use Rattle.krylov.specs.Operator as theory
use Rattle.krylov.specs.Verdict.{Span, tail, solution, Settles, verdict_unique, solution_zero}
use Rattle.krylov.specs.Verdict as theory_verdict
use Rattle.bridge.specs.Lists.{reduced_table_mod, every_reduced, table_coef, mk_dot_mod, mk_times, mk_difference}
use Rattle.bridge.specs.Scaled.{product_scaled, diagonal_same, scaled_same, scale_ones, diagonal_zero}
use Rattle.bridge.specs.Recurrence.{monic_to, monic_from}
use Rattle.bridge.specs.Operator.{operator, operator_linear, coef_product, length_product, reduced_product, coef_power, coef_apply, length_apply, reduced_apply, coef_zeros, is_zero_null, null_is_zero, zeros_from_null}
use Rattle.bridge.specs.Run.{Stands, run_begun, run_rest, run_few, run_cost, units_end}

-- ---- the meaning's verdict by its cases

module _ (p : ℕ) (A : Matrix) (b F : List ℕ) (D : ℕ) where
  pub verdict_zero : D ≡ 0 → verdict p A b F D ≡ (solved, zeros (size A))
  unfolding verdict
  verdict_zero e = rw (eq-eqb D 0 e)

  pub verdict_singular : D ≢ 0 → at F 0 ≡ 0 → verdict p A b F D ≡ (singular, apply p A (drop 1 F) b)
  unfolding verdict
  verdict_singular e z = rw (ne_eqb D 0 e, eq-eqb (at F 0) 0 z)

  pub verdict_solved : D ≢ 0 → at F 0 ≢ 0 → verdict p A b F D ≡ (solved, table (size A) (λ i. times p (minus p 0 (at (apply p A (drop 1 F) b) i)) (inverse p (at F 0))))
  unfolding verdict
  verdict_solved e z = rw (ne_eqb D 0 e, ne_eqb (at F 0) 0 z)

pub verdict_vector : (p : ℕ) (h : Prime p) (A : Matrix) (b F : List ℕ) (D : ℕ) → (length (verdict p A b F D).1 ≡ size A) × Reduced p (verdict p A b F D).1
unfolding times
verdict_vector p h A b F D = go (ℕ_discrete D 0) (ℕ_discrete (at F 0) 0)
  where
    go : Dec (D ≡ 0) → Dec (at F 0 ≡ 0) → (length (verdict p A b F D).1 ≡ size A) × Reduced p (verdict p A b F D).1
    go (yes e) z =
        rw (verdict_zero p A b F D e)
        (length_table (size A) (λ i. 0), reduced_table p (size A) (λ i. 0) (λ i l. omega (arith, h.two_le)))
    go (no e) (yes z) =
        rw (verdict_singular p A b F D e z) (length_apply p h A (drop 1 F) b, reduced_apply p h A (drop 1 F) b)
    go (no e) (no z) =
        rw (verdict_solved p A b F D e z) (
          length_table (size A) (λ i. times p (minus p 0 (at (apply p A (drop 1 F) b) i)) (inverse p (at F 0))),
          reduced_table_mod p (size A) (λ i. minus p 0 (at (apply p A (drop 1 F) b) i) * inverse p (at F 0)) (omega (arith, h.two_le)),
        )

pub solved≢singular : solved ≢ singular
solved≢singular e = let z : ◌≡◌ {A = ℕ} 0 1 = cc in omega arith

module _ (p : ℕ) (h : Prime p) (A : Matrix) (b : List ℕ) (size_b : length b ≡ size A) (reduced_b : Reduced p b) where
  open residues p h use {ring as R, inv, one≢zero}
  open R use {C, add as ◌⊕◌, mul as ◌⊗◌, neg as ⊖◌, zero as 𝟎, one as 𝟏}

  infixl 60 ◌⊕◌
  infixl 70 ◌⊗◌
  infix 75 ⊖◌
  below_b : Below R (size A) (coef p h b)
  below_b i l = coef_below p h b i (omega arith)

  positive : 0 < p
  positive = omega (arith, h.two_le)

  -- ---- the span

  spanned : List ℕ → ℕ → ℕ
  spanned c j = sumℕ (size A) (λ i. at c i * at (power p A (i + 1) b) j) % p

  mk_spanned : (c : List ℕ) (j : ℕ) → mk p h (spanned c j) ≡ sum R (size A) (λ i. coef p h c i ⊗ theory.power R (operator p h A) (suc i) (coef p h b) j)
  unfolding spanned
  mk_spanned c j =
      mk_dot_mod p h (size A) (λ i. at c i) (λ i. at (power p A (i + 1) b) j)
      ∙ sum_ext R (size A) (λ i. coef p h c i ⊗ coef p h (power p A (i + 1) b) j) (λ i. coef p h c i ⊗ theory.power R (operator p h A) (suc i) (coef p h b) j) (λ i l. ap (λ (v : ℕ → C). coef p h c i ⊗ v j) (coef_power p h A (i + 1) b ∙ ap (λ k. theory.power R (operator p h A) k (coef p h b)) (add-one i)))

  pub span_to : in_span p A b → Span R (size A) (operator p h A) (coef p h b)
  unfolding spanned
  span_to (c, e) =
      record {
        coefficient = coef p h c;
        equation = ap (coef p h) e ∙ table_coef p h (size A) (spanned c) (λ j. sum R (size A) (λ i. coef p h c i ⊗ theory.power R (operator p h A) (suc i) (coef p h b) j)) (λ j l. mk_spanned c j) below;
      }
    where
      below : Below R (size A) (λ j. sum R (size A) (λ i. coef p h c i ⊗ theory.power R (operator p h A) (suc i) (coef p h b) j))
      below j l =
          sum_zeros R (size A) (λ i. coef p h c i ⊗ theory.power R (operator p h A) (suc i) (coef p h b) j)
          (λ i k. ap (λ x. coef p h c i ⊗ x) (power_below R (size A) (operator p h A) (operator_linear p h A) (suc i) (coef p h b) below_b j l) ∙ ring.mul_zero R (coef p h c i))

  pub span_from : Span R (size A) (operator p h A) (coef p h b) → in_span p A b
  unfolding spanned
  span_from S = (c, coef_ext p h b (table (size A) (spanned c)) reduced_b (reduced_table_mod p (size A) (λ j. sumℕ (size A) (λ i. at c i * at (power p A (i + 1) b) j)) positive) (size_b ∙ sym (length_table (size A) (spanned c))) (λ j k. place j (omega arith)))
    where
      c : List ℕ
      c = values p h (size A) S.coefficient

      place : (j : ℕ) → j < size A → coef p h b j ≡ coef p h (table (size A) (spanned c)) j
      place j l =
          ap (λ (v : ℕ → C). v j) S.equation
          ∙ sum_ext R (size A) (λ i. S.coefficient i ⊗ theory.power R (operator p h A) (suc i) (coef p h b) j) (λ i. coef p h c i ⊗ theory.power R (operator p h A) (suc i) (coef p h b) j) (λ i k. ap (λ x. x ⊗ theory.power R (operator p h A) (suc i) (coef p h b) j) (sym (coef_table p h (size A) (λ i. value p h (S.coefficient i)) i k ∙ mk_value p h (S.coefficient i))))
          ∙ sym (mk_spanned c j) ∙ sym (coef_table p h (size A) (spanned c) j l)

  -- ---- a run that ends at r = 0

  -- g(A)b = 0 in the meaning, for g monic
  kills_from : (k : ℕ) (g : List ℕ) → is_monic p k g ≡ true → apply p A g b ≡ zeros (size A) → Kills R (operator p h A) k (coef p h g) (coef p h b)
  kills_from k g m e =
      record {
        monic = (monic_to p h k g m).monic;
        vanishes =
            ap (λ i. theory.apply R (operator p h A) i (coef p h g) (coef p h b)) (sym ((monic_to p h k g m).size ∙ add-one k))
            ∙ sym (coef_apply p h A g b size_b) ∙ ap (coef p h) e ∙ coef_zeros p h (size A);
      }

  module _ {us : List (ℕ → C)} (c : Run) (I : Stands p h A b us c) (z : is_zero c.residual ≡ true) where
    pub end_verdict : Settles (residues p h) (size A) (operator p h A) (coef p h b) c.found (coef p h c.factor)
    end_verdict =
        theory_verdict.verdict (residues p h) (size A) (operator p h A) (coef p h b) (operator_linear p h A) below_b I.reached (is_zero_null p h c.residual z)

    pub end_monic : is_monic p c.found c.factor ≡ true
    end_monic =
        monic_from p h c.found c.factor (record { size = I.size_factor; reduced = I.reduced_factor; monic = end_verdict.kills.monic })

    pub end_annihilates : apply p A c.factor b ≡ zeros (size A)
    end_annihilates =
        zeros_from_null p h (size A) (apply p A c.factor b) (length_apply p h A c.factor b) (reduced_apply p h A c.factor b)
        (coef_apply p h A c.factor b size_b
        ∙ ap (λ i. theory.apply R (operator p h A) i (coef p h c.factor) (coef p h b)) (I.size_factor ∙ add-one c.found)
        ∙ end_verdict.kills.vanishes)

    pub end_lowest : (k : ℕ) (g : List ℕ) → is_monic p k g ≡ true → apply p A g b ≡ zeros (size A) → g ≢ c.factor → c.found < k
    end_lowest k g m e x = go (ℕ_discrete k c.found)
      where
        G : Kills R (operator p h A) k (coef p h g) (coef p h b)
        G = kills_from k g m e

        go : Dec (k ≡ c.found) → c.found < k
        go (yes q) =
            absurd (x (coef_ext p h g c.factor (monic_to p h k g m).reduced I.reduced_factor
            ((monic_to p h k g m).size ∙ ap (λ i. i + 1) q ∙ sym I.size_factor)
            (λ i l. ap (λ (f : ℕ → C). f i) (end_verdict.only (coef p h g) (subst (λ d. Kills R (operator p h A) d (coef p h g) (coef p h b)) q G)))))
        go (no q) = omega (arith, end_verdict.least k (coef p h g) G)

    -- ---- kind and vector

    head_zero : at c.factor 0 ≡ 0 → coef p h c.factor 0 ≡ 𝟎
    head_zero e = ap (mk p h) e ∙ mk_zero p h

    head_nonzero : at c.factor 0 ≢ 0 → coef p h c.factor 0 ≢ 𝟎
    head_nonzero f e =
        f (mk_inj p h (at c.factor 0) 0 (reduced_get_or p c.factor positive I.reduced_factor 0) positive (e ∙ sym (mk_zero p h)))

    -- F is 1 if its degree is 0
    degree_nonzero : at c.factor 0 ≡ 0 → c.found ≢ 0
    degree_nonzero e d =
        one≢zero (sym end_verdict.kills.monic.lead ∙ ap (coef p h c.factor) d ∙ head_zero e)

    -- G(A)b, G = (F − F[0]) / z
    coef_tail : coef p h (apply p A (drop 1 c.factor) b) ≡ theory.apply R (operator p h A) c.found (tail R (coef p h c.factor)) (coef p h b)
    coef_tail =
        coef_apply p h A (drop 1 c.factor) b size_b
        ∙ ap₂ (λ m g. theory.apply R (operator p h A) m g (coef p h b)) (length-drop 1 c.factor ∙ omega (arith, I.size_factor)) (fun_ext (λ i. ap (mk p h) (get_or-drop 1 c.factor i 0 ∙ ap (at c.factor) (omega arith))))

    pub record IsSolved (k : Kind) (x : List ℕ) : Type 0 where
      pub kind : k ≡ solved
      pub vector : coef p h x ≡ solution (residues p h) (operator p h A) (coef p h b) c.found (coef p h c.factor)

    pub record IsSingular (k : Kind) (w : List ℕ) : Type 0 where
      pub kind : k ≡ singular
      pub vector : coef p h w ≡ theory.apply R (operator p h A) c.found (tail R (coef p h c.factor)) (coef p h b)

    pub end_singular : at c.factor 0 ≡ 0 → IsSingular (verdict p A b c.factor c.found).0 (verdict p A b c.factor c.found).1
    end_singular e =
        rw (verdict_singular p A b c.factor c.found (degree_nonzero e) e) (record { kind = refl; vector = coef_tail })

    pub end_solved : at c.factor 0 ≢ 0 → IsSolved (verdict p A b c.factor c.found).0 (verdict p A b c.factor c.found).1
    end_solved f = go (ℕ_discrete c.found 0)
      where
        w : List ℕ
        w = apply p A (drop 1 c.factor) b

        x : ℕ → C
        x = solution (residues p h) (operator p h A) (coef p h b) c.found (coef p h c.factor)

        signed : (a y : C) → (𝟎 ⊕ ⊖ a) ⊗ y ≡ ⊖ y ⊗ a
        signed a y = simp ring-laws

        place : (i : ℕ) → mk p h (times p (minus p 0 (at w i)) (inverse p (at c.factor 0))) ≡ x i
        place i =
            mk_times p h (minus p 0 (at w i)) (inverse p (at c.factor 0))
            ∙ ap₂ ◌⊗◌ (mk_difference p h 0 (at w i) (reduced_get_or p w positive (reduced_apply p h A (drop 1 c.factor) b) i) ∙ ap (λ a. a ⊕ ⊖ coef p h w i) (mk_zero p h)) (mk_inv p h (at c.factor 0))
            ∙ signed (coef p h w i) (inv (coef p h c.factor 0)) ∙ ap (λ (v : ℕ → C). ⊖ inv (coef p h c.factor 0) ⊗ v i) coef_tail
            ∙ sym (times_at R (⊖ inv (coef p h c.factor 0)) (theory.apply R (operator p h A) c.found (tail R (coef p h c.factor)) (coef p h b)) i)

        above : Below R (size A) x
        above i l =
            times_at R (⊖ inv (coef p h c.factor 0)) (theory.apply R (operator p h A) c.found (tail R (coef p h c.factor)) (coef p h b)) i
            ∙ ap (λ a. ⊖ inv (coef p h c.factor 0) ⊗ a) (apply_below R (size A) (operator p h A) (operator_linear p h A) c.found (tail R (coef p h c.factor)) (coef p h b) below_b i l)
            ∙ ring.mul_zero R (⊖ inv (coef p h c.factor 0))

        divided : coef p h (table (size A) (λ i. times p (minus p 0 (at w i)) (inverse p (at c.factor 0)))) ≡ x
        divided =
            table_coef p h (size A) (λ i. times p (minus p 0 (at w i)) (inverse p (at c.factor 0))) x (λ i l. place i) above

        go : Dec (c.found ≡ 0) → IsSolved (verdict p A b c.factor c.found).0 (verdict p A b c.factor c.found).1
        go (yes d) =
            rw (verdict_zero p A b c.factor c.found d)
            (record { kind = refl; vector = coef_zeros p h (size A) ∙ sym (solution_zero (residues p h) (size A) (operator p h A) (coef p h b) (operator_linear p h A) (coef p h c.factor)) ∙ ap (λ m. solution (residues p h) (operator p h A) (coef p h b) m (coef p h c.factor)) (sym d) })
        go (no d) = rw (verdict_solved p A b c.factor c.found d f) (record { kind = refl; vector = divided })

    -- ---- the sentences of the third condition

    when_solved : (close p A b c).kind ≡ solved → at c.factor 0 ≢ 0
    unfolding close
    when_solved k e = solved≢singular (sym k ∙ (end_singular e).kind)

    when_singular : (close p A b c).kind ≡ singular → at c.factor 0 ≡ 0
    unfolding close
    when_singular k =
        elim (ℕ_discrete (at c.factor 0) 0) [ yes e ↦ e | no f ↦ absurd (solved≢singular (sym (end_solved f).kind ∙ k)) ]

    pub end_exactly : ((close p A b c).kind ≡ solved) ↔ in_span p A b
    unfolding close
    end_exactly =
        (λ k. span_from (end_verdict.solvable.0 (head_nonzero (when_solved k))), λ s. (end_solved (λ e. end_verdict.solvable.1 (span_to s) (head_zero e))).kind)

    pub end_solves : (close p A b c).kind ≡ solved → product p A (close p A b c).vector ≡ b
    unfolding close
    end_solves k =
        coef_ext p h (product p A x) b (reduced_product p h A x) reduced_b (length_product p h A x ∙ sym size_b)
        (λ i l. ap (λ (v : ℕ → C). v i) (coef_product p h A x ∙ ap (operator p h A) (end_solved (when_solved k)).vector ∙ end_verdict.solved (head_nonzero (when_solved k))))
      where
        x : List ℕ
        x = (verdict p A b c.factor c.found).1

    pub end_not_zero : (close p A b c).kind ≡ singular → (close p A b c).vector ≢ zeros (size A)
    unfolding close
    end_not_zero k e =
        end_verdict.nonzero (head_zero (when_singular k)) (sym (end_singular (when_singular k)).vector ∙ ap (coef p h) e ∙ coef_zeros p h (size A))

    pub end_to_zero : (close p A b c).kind ≡ singular → product p A (close p A b c).vector ≡ zeros (size A)
    unfolding close
    end_to_zero k =
        zeros_from_null p h (size A) (product p A w) (length_product p h A w) (reduced_product p h A w)
        (coef_product p h A w ∙ ap (operator p h A) (end_singular (when_singular k)).vector ∙ end_verdict.singular (head_zero (when_singular k)))
      where
        w : List ℕ
        w = (verdict p A b c.factor c.found).1

    -- a degree of 0 is found of b = 0 only
    pub end_found : is_zero b ≡ false → 0 < c.found
    end_found e = go (ℕ_discrete c.found 0)
      where
        go : Dec (c.found ≡ 0) → 0 < c.found
        go (no d) = omega arith
        go (yes d) = never (is_zero b) (null_is_zero p h b reduced_b (sym (apply_degree_zero R (operator p h A) K.monic (coef p h b)) ∙ K.vanishes)) e
          where
            K : Kills R (operator p h A) 0 (coef p h c.factor) (coef p h b)
            K = subst (λ k. Kills R (operator p h A) k (coef p h c.factor) (coef p h b)) d end_verdict.kills

  -- two runs on one system
  module _ {us us' : List (ℕ → C)} (c c' : Run) (I : Stands p h A b us c) (I' : Stands p h A b us' c') (z : is_zero c.residual ≡ true) (z' : is_zero c'.residual ≡ true) where
    pub same_ends : SameAnswer (close p A b c) (close p A b c')
    unfolding close
    same_ends =
        record {
          kind = ap₂ (λ G k. (verdict p A b G k).0) factor found;
          vector = ap₂ (λ G k. (verdict p A b G k).1) factor found;
          polynomial = factor;
        }
      where
        both : (c.found ≡ c'.found) × (coef p h c.factor ≡ coef p h c'.factor)
        both =
            verdict_unique (residues p h) (size A) (operator p h A) (coef p h b) (operator_linear p h A) (end_verdict c I z) (end_verdict c' I' z')

        found : c.found ≡ c'.found
        found = both.0

        factor : c.factor ≡ c'.factor
        factor =
            coef_ext p h c.factor c'.factor I.reduced_factor I'.reduced_factor
            (I.size_factor ∙ ap (λ k. k + 1) found ∙ sym I'.size_factor) (λ i l. ap (λ (f : ℕ → C). f i) both.1)

  -- ---- runs from the beginning, with any list of projections

  pub run_counted : (w : ℕ) (us : List (List ℕ)) → is_zero (run p A w us (begin b)).residual ≡ true → w ≡ 0
      → applications (close p A b (run p A w us (begin b))) ≡ cond (is_zero b) 0 (term_cost (size A) (run p A w us (begin b)).passes + (2 * (run p A w us (begin b)).found - 1))
  unfolding close begin
  run_counted w us z none = go (test_cases (is_zero b))
    where
      c : Run
      c = run p A w us (begin b)

      go : (is_zero b ≡ true) ⊎ (is_zero b ≡ false) → spent c.passes + (c.found - 1) ≡ cond (is_zero b) 0 (term_cost (size A) c.passes + (2 * c.found - 1))
      go (inl e) =
          ap (λ (r : Run). spent r.passes + (r.found - 1)) (run_rest p h A b w us (begin b) e) ∙ omega (arith, spent_nil)
          ∙ ap (λ t. cond t 0 (term_cost (size A) c.passes + (2 * c.found - 1))) (sym e)
      go (inr e) =
          omega (arith, run_cost p h A b size_b reduced_b w us none, end_found c (run_begun p h A b size_b reduced_b w us).stands z e)
          ∙ ap (λ t. cond t 0 (term_cost (size A) c.passes + (2 * c.found - 1))) (sym e)

  pub same_answer : (w w' : ℕ) (us us' : List (List ℕ)) → is_zero (run p A w us (begin b)).residual ≡ true → is_zero (run p A w' us' (begin b)).residual ≡ true
      → SameAnswer (close p A b (run p A w us (begin b))) (close p A b (run p A w' us' (begin b)))
  same_answer w w' us us' z z' =
      same_ends (run p A w us (begin b)) (run p A w' us' (begin b)) (run_begun p h A b size_b reduced_b w us).stands (run_begun p h A b size_b reduced_b w' us').stands z z'

  pub projections_zero : (w : ℕ) (words : List ℕ) → is_zero (run p A w (projections p (size A) words) (begin b)).residual ≡ true
  unfolding projections
  projections_zero w words = units_end p h A b size_b reduced_b w (vectors p (size A) words)

-- ---- runs on AX, answered with X times their vector

module _ (p : ℕ) (h : Prime p) (A : Matrix) (X b : List ℕ) (size_b : length b ≡ size A) (reduced_b : Reduced p b) (scales : AcceptedScales p (size A) X) where
  pub third_condition : (w : ℕ) (us : List (List ℕ)) (words : List ℕ) → is_zero (run p (scaled p A X) w us (begin b)).residual ≡ true → length us ≡ vector_count (size A) words + size A
      → ThirdCondition p A X b words w (answered p X (close p (scaled p A X) b (run p (scaled p A X) w us (begin b))))
  unfolding answered close
  third_condition w us words z l =
      record {
        monic = end_monic p h AX b size_b reduced_b c I z;
        annihilates = end_annihilates p h AX b size_b reduced_b c I z;
        lowest = end_lowest p h AX b size_b reduced_b c I z;
        exactly = end_exactly p h AX b size_b reduced_b c I z;
        solves = λ k. sym (product_scaled p A X y) ∙ end_solves p h AX b size_b reduced_b c I z k;
        not_zero = λ k e. end_not_zero p h AX b size_b reduced_b c I z k (loses_nothing y (verdict_vector p h AX b c.factor c.found) e);
        to_zero = λ k. sym (product_scaled p A X y) ∙ end_to_zero p h AX b size_b reduced_b c I z k;
        few = omega (arith, run_few p h AX b size_b reduced_b w us);
        summed = refl;
        counted = run_counted p h AX b size_b reduced_b w us z;
      }
    where
      AX : Matrix
      AX = scaled p A X

      c : Run
      c = run p AX w us (begin b)

      I : Stands p h AX b (run_begun p h AX b size_b reduced_b w us).used c
      I = (run_begun p h AX b size_b reduced_b w us).stands

      -- the vector that X is to multiply
      y : List ℕ
      y = (verdict p AX b c.factor c.found).1

      loses_nothing : (v : List ℕ) → (length v ≡ size A) × Reduced p v → diagonal p X v ≡ zeros (size A) → v ≡ zeros (size A)
      loses_nothing v (e, r) d =
          diagonal_zero h (subst (λ n. AcceptedScales p n X) (sym e) scales) r (d ∙ ap zeros (sym e)) ∙ ap zeros e

pub answered_same : (p : ℕ) (X : List ℕ) {o o' : Outcome} → SameAnswer o o' → SameAnswer (answered p X o) (answered p X o')
unfolding answered
answered_same p X s = record { kind = s.kind; vector = ap (diagonal p X) s.vector; polynomial = s.polynomial }

-- ---- every run

pub record Accepted (p : ℕ) (A : Matrix) (b : List ℕ) : Type 0 where
  pub prime : Prime p
  pub size_b : length b ≡ size A
  pub reduced_b : Reduced p b

pub accepted_of : {p : ℕ} {A : Matrix} {b : List ℕ} → AcceptedSystem p A b → Accepted p A b
accepted_of {p} {A} {b} a =
    record {
      prime = is_modulus_Prime p a.prime;
      size_b = a.right_length;
      reduced_b = every_reduced p b a.right_below;
    }

pub accepted : (p : ℕ) (A : Matrix) (X b words : List ℕ) (w : ℕ) → first (run_checks p A X b words w) ≡ 0 → Accepted p A b
accepted p A X b words w e = accepted_of (run_accepted p A X b words w e).system

pub every_run : EveryRun
unfolding solve outcome
every_run p A X b words w e =
    third_condition p a.prime A X b a.size_b a.reduced_b (run_accepted p A X b words w e).scales w (projections p (size A) words) words
    (projections_zero p a.prime (scaled p A X) b a.size_b a.reduced_b w words) (length_projections p (size A) words)
  where
    a : Accepted p A b
    a = accepted p A X b words w e

pub every_two_runs : EveryTwoRuns
unfolding solve outcome
every_two_runs p A X b words words' w w' e e' =
    answered_same p X
    (same_answer p a.prime (scaled p A X) b a.size_b a.reduced_b w w' (projections p (size A) words) (projections p (size A) words')
    (projections_zero p a.prime (scaled p A X) b a.size_b a.reduced_b w words) (projections_zero p a.prime (scaled p A X) b a.size_b a.reduced_b w' words'))
  where
    a : Accepted p A b
    a = accepted p A X b words w e

empty_close : (p : ℕ) (A : Matrix) (X : List ℕ) → size A ≡ 0 → answered p X (close p A [] (begin [])) ≡ nothing_left
unfolding answered close begin verdict diagonal table multiplied spent sumℕ
empty_close p A X none = rw none refl

pub every_empty_run : EveryEmptyRun
unfolding solve outcome begin every
every_empty_run p A X b words w e none =
    let a = accepted p A X b words w e in
    let AX = scaled p A X in
    let us = projections p (size A) words in
    ap (λ v. answered p X (close p AX v (run p AX w us (begin v)))) (length_none b (a.size_b ∙ none))
    ∙ ap (λ c. answered p X (close p AX [] c)) (run_rest p a.prime AX [] w us (begin []) refl) ∙ empty_close p AX X none

-- what counts of a list of scales is the scale of each column
pub solve_same : (p : ℕ) (A : Matrix) (X Y : List ℕ) → ((j : ℕ) → scale_at X j ≡ scale_at Y j) → (b words : List ℕ) (w : ℕ) → solve p A X b words w ≡ solve p A Y b words w
unfolding solve answered
solve_same p A X Y same b words w =
    ap (λ M. answered p X (outcome p M b words w)) (scaled_same p X Y same A)
    ∙ ap (λ v. record { kind = o.kind; vector = v; polynomial = o.polynomial; degree = o.degree; passes = o.passes; multiplied = o.multiplied }) (diagonal_same p X Y same o.vector)
  where
    o : Outcome
    o = outcome p (scaled p A Y) b words w

pub every_plain_run : EveryPlainRun
every_plain_run p A b words w = solve_same p A (table (size A) (λ j. 1)) [] (scale_ones (size A)) b words w
