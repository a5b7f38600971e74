-- The meaning's passes and run are the theory's, for any size, 0 included, and any list of projections.
--     total qs             the degrees of passes, summed
--     term_cost_nil, term_cost_cons, term_cost_snoc      the terms' cost, by the first and by the last pass
--     shortest_ext         a shortest recurrence reads the first N terms alone
--     Stands us c          where the run c stands after passes with the projections us: r has n elements and F has D + 1, all below p; they are
--                          what the theory has reached; the passes are as many as the projections; D is the sum of the degrees
--     Costs c              its applications are those of the terms and D more: so it is for w = 0
--     terms_shortest       the generator of the first terms is the theory's shortest recurrence of as many of u·r, u·Ar, ..
--     taken_shortest       .. and so is a pass's of all 2 × left, also where the pass ended early (krylov's pass_early)
--     stands_begin, stands_pass, costs_pass      kept from the beginning on, with any window; for w = 0
--     run_nil, run_stop, run_pass, run_rest      the clauses of the run; where r is zero nothing is done
--     Ended vs us c        where a run that stood at vs ends with the projections us: r is zero, or all of vs and us are used
--     AllUsed vs us used   the latter
--     run_ended, run_begun      so it ends, from anywhere and from the beginning
--     run_found, run_few, run_cost      D ≤ n; at most as many passes as projections; the applications
--     Occurs us j          unit vector j is among the projections us
--     run_zero             r is zero at the end if each unit vector is
--     units_occur, units_end    so it is if the list ends with the n unit vectors
use Rattle.std.specs.Prelude.{◌≡◌, ◌⊎◌, true, false, length, get_or}
use Rattle.std.proofs.Math.Path.{refl, sym, ap, subst}
use Rattle.std.proofs.Common.{◌∙◌, inl, inr, add-one, get_or-append-add, get_or-take, length-take-le}
use Rattle.std.proofs.Math.Bool.{cond}
use mathlib.Core.List.Memᴰ
use mathlib.Core.List.{List, [], ◌∷◌, ◌++◌, Memᴰ}
use Prim.Native.Nat.{ℕ, zero, suc, ◌+◌, ◌-◌, ◌*◌, ◌≤◌, ◌<◌}
use native.Mathlib.Omega.{arith}
use Rattle.std.proofs.Math.ListN.{take, length-append}
use Rattle.std.proofs.Math.Seq.{take_all}
use Rattle.meaning.specs.List.{is_zero}
use Rattle.meaning.specs.Matrix.{Matrix, size, apply}
use Rattle.meaning.specs.Recurrence.{degree, generator}
use Rattle.meaning.specs.Solver.{units, multiply, Pass, Run, begin, pass_terms, end_pass, pass, run, spent}
use Rattle.meaning.specs.ThirdCondition.{term_cost}
use Rattle.laws.specs.Recurrence.{length_generator}
use Rattle.laws.specs.Bool.{test_cases}
use Rattle.laws.specs.Solver.{length_units, get_or_units, spent_nil, spent_snoc, length_pass_terms, Ends, pass_ends}
use Rattle.algebra.specs.Ring.{Ring}
use Rattle.algebra.specs.Sum.{sum_ext}
use Rattle.algebra.specs.Polynomial.{Shortest, Recurs, const}
use Rattle.residue.specs.Prime.{Prime}
use Rattle.residue.specs.Residue.{residues, mk, mk_one}
use Rattle.residue.specs.Lists.{Reduced, coef, coef_below}
use Rattle.krylov.specs.Operator.{seq, unit}
use Rattle.krylov.specs.Operator as theory
use Rattle.krylov.specs.Pass.{pass_early}
use Rattle.krylov.specs.Run.{Reached, Kept, kept, kept_units}
use Rattle.krylov.specs.Run as reach
use Rattle.bridge.specs.Lists.{coef_one}
use Rattle.bridge.specs.Recurrence.{generator_shortest}
use Rattle.bridge.specs.Operator.{operator, operator_linear, coef_apply, length_apply, reduced_apply, coef_terms, coef_multiply, length_multiply, reduced_multiply, unit_vector, coef_unit, null_is_zero, is_zero_null}

-- ---- the terms' cost

pub total : List Pass → ℕ
total [] = 0
total (q ∷ qs) = q.degree + total qs

total_nil : total [] ≡ 0
unfolding total
total_nil = refl

total_snoc : (qs : List Pass) (q : Pass) → total (qs ++ (q ∷ [])) ≡ total qs + q.degree
unfolding total
total_snoc [] q = omega arith
total_snoc (x ∷ qs) q = omega (arith, total_snoc qs q)

pub term_cost_nil : (left : ℕ) → term_cost left [] ≡ 0
unfolding term_cost
term_cost_nil left = refl

pub term_cost_cons : (left : ℕ) (q : Pass) (qs : List Pass) → term_cost left (q ∷ qs) ≡ 2 * left - 1 + term_cost (left - q.degree) qs
unfolding term_cost
term_cost_cons left q qs = refl

pub term_cost_snoc : (left : ℕ) (qs : List Pass) (q : Pass) → term_cost left (qs ++ (q ∷ [])) ≡ term_cost left qs + (2 * (left - total qs) - 1)
unfolding total
term_cost_snoc left [] q =
    omega (arith, term_cost_cons left q [], term_cost_nil (left - q.degree), term_cost_nil left)
term_cost_snoc left (x ∷ qs) q =
    term_cost_cons left x (qs ++ (q ∷ [])) ∙ ap (λ k. 2 * left - 1 + k) (term_cost_snoc (left - x.degree) qs q)
    ∙ rest (term_cost (left - x.degree) qs) (term_cost left (x ∷ qs)) (term_cost_cons left x qs)
  where
    rest : (a b : ℕ) → b ≡ 2 * left - 1 + a → 2 * left - 1 + (a + (2 * (left - x.degree - total qs) - 1)) ≡ b + (2 * (left - (x.degree + total qs)) - 1)
    rest a b e = omega arith

-- ---- a shortest recurrence

module _ (R : Ring) where
  open R use {C, mul as ◌⊗◌}

  infixl 70 ◌⊗◌
  recurs_ext : (N : ℕ) (s s' : ℕ → C) (d : ℕ) (f : ℕ → C) → ((i : ℕ) → i < N → s i ≡ s' i) → Recurs R N s d f → Recurs R N s' d f
  recurs_ext N s s' d f e r j l =
      sym (sum_ext R (suc d) (λ i. f i ⊗ s (i + j)) (λ i. f i ⊗ s' (i + j)) (λ i k. ap (λ x. f i ⊗ x) (e (i + j) (omega arith)))) ∙ r j l

  pub shortest_ext : (N : ℕ) (s s' : ℕ → C) {d : ℕ} {f : ℕ → C} → ((i : ℕ) → i < N → s i ≡ s' i) → Shortest R N s d f → Shortest R N s' d f
  shortest_ext N s s' {d} {f} e S =
      record {
        monic = S.monic;
        recurs = recurs_ext N s s' d f e S.recurs;
        least = λ k g m r. S.least k g m (recurs_ext N s' s k g (λ i l. sym (e i l)) r);
      }

-- ---- the passes

module _ (p : ℕ) (h : Prime p) (A : Matrix) (b : List ℕ) where
  open residues p h use {ring as R}
  open R use {C, zero as 𝟎, one as 𝟏}

  pub record Stands (us : List (ℕ → C)) (c : Run) : Type 0 where
    pub size_residual : length c.residual ≡ size A
    pub reduced_residual : Reduced p c.residual
    pub size_factor : length c.factor ≡ c.found + 1
    pub reduced_factor : Reduced p c.factor
    pub reached : Reached R (size A) (operator p h A) (coef p h b) us (coef p h c.residual) c.found (coef p h c.factor)
    pub passes : length c.passes ≡ length us
    pub degrees : c.found ≡ total c.passes

  abbrev Costs : Run → Type 0
  Costs c = spent c.passes ≡ term_cost (size A) c.passes + c.found

  pub stands_begin : length b ≡ size A → Reduced p b → Stands [] (begin b)
  unfolding begin
  stands_begin e r =
      record {
        size_residual = e;
        reduced_residual = r;
        size_factor = refl;
        reduced_factor = one;
        reached = subst (Reached R (size A) (operator p h A) (coef p h b) [] (coef p h b) 0) (sym (coef_one p h 1 ∙ ap (const R) (mk_one p h))) reach.start;
        passes = refl;
        degrees = sym total_nil;
      }
    where
      one : Reduced p (1 ∷ [])
      one zero k = h.two_le
      one (suc i) k = absurd (omega arith)

  costs_begin : Costs (begin b)
  unfolding begin
  costs_begin = omega (arith, spent_nil, term_cost_nil (size A))

  module _ (u : List ℕ) {us : List (ℕ → C)} (c : Run) (I : Stands us c) where
    left : ℕ
    left = size A - c.found

    s : List ℕ
    s = pass_terms p A u c

    -- the sequence u·r, u·Ar, ..
    S : ℕ → C
    S = seq R (size A) (operator p h A) (coef p h u) (coef p h c.residual)

    size_s : length s ≡ left + left
    unfolding s left
    size_s = length_pass_terms p A u c ∙ omega arith

    coef_pass_terms : (i : ℕ) → i < left + left → coef p h s i ≡ S i
    unfolding s left S pass_terms
    coef_pass_terms i l = coef_terms p h A (size A - c.found) u c.residual I.size_residual i (omega arith)

    pub terms_shortest : (i : ℕ) → i ≤ length (pass_terms p A u c) → Shortest R i (seq R (size A) (operator p h A) (coef p h u) (coef p h c.residual)) (degree p (take i (pass_terms p A u c))) (coef p h (generator p (take i (pass_terms p A u c))))
    unfolding s left S
    terms_shortest i l =
        shortest_ext R i (coef p h (take i s)) S
        (λ k a. ap (mk p h) (get_or-take i s k 0 a) ∙ coef_pass_terms k (omega (arith, a, l, size_s)))
        (subst (λ N. Shortest R N (coef p h (take i s)) (degree p (take i s)) (coef p h (generator p (take i s)))) (length-take-le i s l) (generator_shortest p h (take i s)))

    -- f(A)r, in the theory
    applied : (f : List ℕ) (t : ℕ) → length f ≡ t + 1 → coef p h (apply p A f c.residual) ≡ theory.apply R (operator p h A) (suc t) (coef p h f) (coef p h c.residual)
    applied f t size_f =
        coef_apply p h A f c.residual I.size_residual
        ∙ ap (λ m. theory.apply R (operator p h A) m (coef p h f) (coef p h c.residual)) (size_f ∙ add-one t)

    pub taken_shortest : (x : List ℕ) → (x ≡ pass_terms p A u c) ⊎ ((i : ℕ) × (i ≤ length (pass_terms p A u c)) × (x ≡ take i (pass_terms p A u c)) × (is_zero (apply p A (generator p x) c.residual) ≡ true))
        → length x ≤ 2 * (size A - c.found) → Shortest R (size A - c.found + (size A - c.found)) (seq R (size A) (operator p h A) (coef p h u) (coef p h c.residual)) (degree p x) (coef p h (generator p x))
    unfolding s left S
    taken_shortest x (inl e) few =
        let all : take (length s) s ≡ x = take_all (length s) s (omega arith) ∙ sym e in
        subst (λ N. Shortest R N S (degree p x) (coef p h (generator p x))) size_s
        (subst (λ y. Shortest R (length s) S (degree p y) (coef p h (generator p y))) all (terms_shortest (length s) (omega arith)))
    taken_shortest x (inr (i, l, e, z)) few =
        let S' = subst (λ y. Shortest R i S (degree p y) (coef p h (generator p y))) (sym e) (terms_shortest i l) in
        pass_early (residues p h) (size A) (operator p h A) (operator_linear p h A) (coef p h u) (omega (arith, l, size_s)) S'
        (record { monic = S'.monic; vanishes = sym (applied (generator p x) (degree p x) (length_generator p x)) ∙ is_zero_null p h (apply p A (generator p x) c.residual) z })

    module _ (w : ℕ) where
      -- what the pass took and found
      e : Ends p A w u c
      e = pass_ends p A h.two_le w u c

      f : List ℕ
      f = generator p e.taken

      t : ℕ
      t = degree p e.taken

      q : Pass
      q = record { left = left; degree = t; applications = e.made + t }

      size_f : length f ≡ t + 1
      unfolding f t e
      size_f = length_generator p e.taken

      pub stands_pass : Stands (coef p h u ∷ us) (pass p A w u c)
      unfolding end_pass s left e f t q
      stands_pass = rw e.is (
          record {
            size_residual = length_apply p h A f c.residual;
            reduced_residual = reduced_apply p h A f c.residual;
            size_factor = length_multiply p h c.factor f ∙ omega (arith, I.size_factor, size_f);
            reduced_factor = reduced_multiply p h c.factor f;
            reached =
                subst (λ r. Reached R (size A) (operator p h A) (coef p h b) (coef p h u ∷ us) r (c.found + t) (coef p h (multiply p c.factor f))) (sym (applied f t size_f))
                (subst (Reached R (size A) (operator p h A) (coef p h b) (coef p h u ∷ us) (theory.apply R (operator p h A) (suc t) (coef p h f) (coef p h c.residual)) (c.found + t)) (sym (coef_multiply p h c.factor f (omega (arith, size_f))))
                (reach.pass I.reached (taken_shortest e.taken e.shortest e.few)));
            passes = length-append c.passes (q ∷ []) ∙ omega (arith, I.passes);
            degrees = ap (λ d. d + t) I.degrees ∙ sym (total_snoc c.passes q);
          })

      costs_pass : w ≡ 0 → Costs c → Costs (pass p A w u c)
      unfolding end_pass left e f t q
      costs_pass z k = rw e.is (
          omega (arith, k, (e.present z).1, I.degrees, spent_snoc c.passes q, term_cost_snoc (size A) c.passes q, ap (λ d. 2 * (size A - d) - 1) I.degrees))

  -- ---- the run

  pub run_nil : (w : ℕ) (c : Run) → run p A w [] c ≡ c
  unfolding run
  run_nil w c = refl

  pub run_stop : (w : ℕ) (u : List ℕ) (us : List (List ℕ)) (c : Run) → is_zero c.residual ≡ true → run p A w (u ∷ us) c ≡ c
  unfolding run
  run_stop w u us c e = ap (λ t. cond t c (run p A w us (pass p A w u c))) e

  pub run_pass : (w : ℕ) (u : List ℕ) (us : List (List ℕ)) (c : Run) → is_zero c.residual ≡ false → run p A w (u ∷ us) c ≡ run p A w us (pass p A w u c)
  unfolding run
  run_pass w u us c e = ap (λ t. cond t c (run p A w us (pass p A w u c))) e

  pub run_rest : (w : ℕ) (us : List (List ℕ)) (c : Run) → is_zero c.residual ≡ true → run p A w us c ≡ c
  run_rest w [] c e = run_nil w c
  run_rest w (u ∷ us) c e = run_stop w u us c e

  -- every vector of vs, and every projection of us, is among the used ones
  pub record AllUsed (vs : List (ℕ → C)) (us : List (List ℕ)) (used : List (ℕ → C)) : Type 0 where
    pub before : (v : ℕ → C) → Memᴰ v vs → Memᴰ v used
    pub after : (i : ℕ) → i < length us → Memᴰ (coef p h (get_or us i [])) used

  pub record Ended (vs : List (ℕ → C)) (us : List (List ℕ)) (c : Run) : Type 0 where
    pub used : List (ℕ → C)
    pub stands : Stands used c
    pub few : length used ≤ length vs + length us
    pub over : (is_zero c.residual ≡ true) ⊎ AllUsed vs us used

  all_used_cons : (vs : List (ℕ → C)) (u : List ℕ) (us : List (List ℕ)) (used : List (ℕ → C)) → AllUsed (coef p h u ∷ vs) us used → AllUsed vs (u ∷ us) used
  all_used_cons vs u us used a = record { before = λ v m. a.before v (Memᴰ.tail m); after = after }
    where
      after : (i : ℕ) → i < suc (length us) → Memᴰ (coef p h (get_or (u ∷ us) i [])) used
      after zero l = a.before (coef p h u) (Memᴰ.head refl)
      after (suc i) l = a.after i (omega arith)

  pub run_ended : (w : ℕ) (us : List (List ℕ)) {vs : List (ℕ → C)} (c : Run) → Stands vs c → Ended vs us (run p A w us c)
  run_ended w [] {vs} c I =
      rw (run_nil w c) (record { used = vs; stands = I; few = omega arith; over = inr (record { before = λ v m. m; after = λ i l. absurd (omega arith) }) })
  run_ended w (u ∷ us) {vs} c I = go (test_cases (is_zero c.residual)) (run_ended w us (pass p A w u c) (stands_pass u c I w))
    where
      go : (is_zero c.residual ≡ true) ⊎ (is_zero c.residual ≡ false) → Ended (coef p h u ∷ vs) us (run p A w us (pass p A w u c)) → Ended vs (u ∷ us) (run p A w (u ∷ us) c)
      go (inl e) ih = rw (run_stop w u us c e) (record { used = vs; stands = I; few = omega arith; over = inl e })
      go (inr e) ih =
          rw (run_pass w u us c e)
          (record { used = ih.used; stands = ih.stands; few = omega (arith, ih.few); over = over ih.over })
        where
          over : (is_zero (run p A w us (pass p A w u c)).residual ≡ true) ⊎ AllUsed (coef p h u ∷ vs) us ih.used → (is_zero (run p A w us (pass p A w u c)).residual ≡ true) ⊎ AllUsed vs (u ∷ us) ih.used
          over (inl z) = inl z
          over (inr a) = inr (all_used_cons vs u us ih.used a)

  run_costs : (us : List (List ℕ)) {vs : List (ℕ → C)} (c : Run) → Stands vs c → Costs c → Costs (run p A 0 us c)
  run_costs [] c I k = rw (run_nil 0 c) k
  run_costs (u ∷ us) c I k = go (test_cases (is_zero c.residual)) (run_costs us (pass p A 0 u c) (stands_pass u c I 0) (costs_pass u c I 0 refl k))
    where
      go : (is_zero c.residual ≡ true) ⊎ (is_zero c.residual ≡ false) → Costs (run p A 0 us (pass p A 0 u c)) → Costs (run p A 0 (u ∷ us) c)
      go (inl e) ih = rw (run_stop 0 u us c e) k
      go (inr e) ih = rw (run_pass 0 u us c e) ih

  -- some place of us holds unit vector j
  pub record Occurs (us : List (List ℕ)) (j : ℕ) : Type 0 where
    pub place : ℕ
    pub within : place < length us
    pub found : get_or us place [] ≡ unit_vector (size A) j

  module _ (size_b : length b ≡ size A) (reduced_b : Reduced p b) (w : ℕ) (us : List (List ℕ)) where
    pub run_begun : Ended [] us (run p A w us (begin b))
    run_begun = run_ended w us (begin b) (stands_begin size_b reduced_b)

    run_kept : Kept R (size A) (operator p h A) (coef p h b) run_begun.used (coef p h (run p A w us (begin b)).residual) (run p A w us (begin b)).found (coef p h (run p A w us (begin b)).factor)
    run_kept =
        kept (residues p h) (size A) (operator p h A) (coef p h b) (operator_linear p h A) (λ i l. coef_below p h b i (omega arith)) run_begun.stands.reached

    pub run_found : (run p A w us (begin b)).found ≤ size A
    run_found = run_kept.degree_le

    pub run_few : length (run p A w us (begin b)).passes ≤ length us
    run_few = omega (arith, run_begun.stands.passes, run_begun.few)

    pub run_cost : w ≡ 0 → spent (run p A w us (begin b)).passes ≡ term_cost (size A) (run p A w us (begin b)).passes + (run p A w us (begin b)).found
    run_cost z =
        subst (λ v. Costs (run p A v us (begin b))) (sym z) (run_costs us (begin b) (stands_begin size_b reduced_b) costs_begin)

    pub run_zero : ((j : ℕ) → j < size A → Occurs us j) → is_zero (run p A w us (begin b)).residual ≡ true
    run_zero a = go run_begun.over
      where
        go : (is_zero (run p A w us (begin b)).residual ≡ true) ⊎ AllUsed [] us run_begun.used → is_zero (run p A w us (begin b)).residual ≡ true
        go (inl z) = z
        go (inr q) =
            null_is_zero p h (run p A w us (begin b)).residual run_begun.stands.reduced_residual
            (kept_units (residues p h) (size A) (operator p h A) (coef p h b) (operator_linear p h A) (λ i l. coef_below p h b i (omega arith)) run_kept unit_used)
          where
            unit_used : (j : ℕ) → j < size A → Memᴰ (unit R j) run_begun.used
            unit_used j l =
                Memᴰ.cast (sym (ap (coef p h) (a j l).found ∙ coef_unit p h (size A) j l)) (q.after (a j l).place (a j l).within)

  pub units_occur : (us : List (List ℕ)) (j : ℕ) → j < size A → Occurs (us ++ units (size A)) j
  units_occur us j l =
      record {
        place = length us + j;
        within = simp (length-append, length_units) (omega arith);
        found = get_or-append-add us (units (size A)) j [] ∙ get_or_units (size A) j l;
      }

  pub units_end : length b ≡ size A → Reduced p b → (w : ℕ) (us : List (List ℕ)) → is_zero (run p A w (us ++ units (size A)) (begin b)).residual ≡ true
  units_end e r w us = run_zero e r w (us ++ units (size A)) (units_occur us)
