-- The solver's run in its work slice, which is laid out as a pass has it (wiedemann's Pass).
--     CheckedSystem, system_of_law  what the checks leave known of a system with its scales; the run is one on AX
--     used, used_same, used_checked      the scales that a run multiplies by: none where all are 1
--     none, counted      the counts before the first pass, and after one more
--     Fits               what bounds the counts and the numbers of a pass that is added to them
--     begun              r = b, F = 1, D = 0 in the slice
--     run_append         a run with projections after others
--     run_more           one projection more, while r is not zero
--     run_left           while r is not zero, less than n has been found
--     Midway             the run with the first j projections is what is held, and its passes stand on the bill
--     midway_begin, midway_less, midway_state, midway_made, midway_next      at the start; r ≢ 0: a projection is left, a pass is not refused, and is made
--     Finished, midway_end     r = 0: the whole run is what is held
--     Bounded                  how large the counts of all passes may be
--     Closable, closable       what the end asks: F is monic of degree D ≤ n
use Rattle.std.specs.Prelude.{Result, Ok, Err, ◌≡◌, refl, ◌⊎◌, true, false, not, cond, List, [], ◌∷◌, ◌++◌, ℕ, ◌+◌, ◌*◌, ◌≤◌, ◌<◌, take, drop, get_or, set, eqb}
use Rattle.std.proofs.Math.Path.{sym, ap, subst}
use Rattle.std.proofs.Common.{ap₂, ◌∙◌, inl, inr, zero-add, eq-or-lt_of_le, add-one, arith, length-set, length-append, take-append-drop, take-suc, take_all, get_or-set_same, get_or-set_other, eqb-true}
use Rattle.std.proofs.Math.Decide.{dec_lt}
use Rattle.std.proofs.Math.ListN.{length, get_or-eq_default}
use Rattle.meaning.specs.List.{at, every, is_zero, padded}
use Rattle.meaning.specs.Matrix.{Matrix, size, multiplied, scale_at, scaled}
use Rattle.meaning.specs.Refusal.{check, first, scaled_checks, words_taken, window_taken}
use Rattle.meaning.specs.Calls.{system_checks, run_checks}
use Rattle.meaning.specs.Solver.{Pass, Run, projections, begin, spent, billed, pass, run}
use Rattle.laws.specs.Accepted.{scaled_plain}
use Rattle.laws.specs.Bool.{and_both, test_cases, never}
use Rattle.laws.specs.List.{every_at, length_table, table_of}
use Rattle.laws.specs.Products.{multiplied_none, multiplied_add, multiplied_most}
use Rattle.laws.specs.Recurrence.{monic_leading}
use Rattle.laws.specs.Refusal.{first_append_zero, numbered_scaled, numbered_system}
use Rattle.laws.specs.Solver.{spent_nil, spent_snoc, made_within}
use Rattle.residue.specs.Prime.{Prime}
use Rattle.residue.specs.Residue.{residues}
use Rattle.residue.specs.Lists.{coef, coef_below}
use Rattle.krylov.specs.Run.{kept, kept_full}
use Rattle.bridge.specs.Operator.{operator, operator_linear, null_is_zero}
use Rattle.bridge.specs.Run.{Stands, run_begun, run_nil, run_stop, run_pass, run_rest, run_found}
use Rattle.bridge.specs.ThirdCondition.{Accepted, accepted, projections_zero, end_monic}
use Rattle.checks.specs.Valid.{ValidScaled, Vector, valid_scaled, vector_elements}
use Rattle.checks.specs.Matrix.{vector_checks, scaled_valid}
use Rattle.checks.specs.Products.{per_product_low}
use Rattle.wiedemann.specs.declared.pass.Pass.{Pass as CodePass}
use Rattle.refusal.specs.declared.Refusal.{Refusal}
use Rattle.laws.specs.Part.{part, at_part, part_ext}
use Rattle.laws.specs.Lent.{lent, length_lent, part_lent, part_at, part_cons}
use Rattle.checks.specs.Pass.{residual_at, pass_refusal, refused_state, state_0}
use Rattle.wiedemann.specs.Pass.{held, pass_of, Passes}
use Rattle.solver.specs.declared.Counts.{Counts}
use Rattle.solver.specs.Bill.{entered, billed_nil, billed_next}

pub record CheckedSystem (p : ℕ) (A : Matrix) (X b : List ℕ) : Type 0 where
  pub checked : first (scaled_checks p A X) ≡ 0
  pub valid : ValidScaled p A X
  pub accepted : Accepted p A b

pub system_of_law : (p : ℕ) (A : Matrix) (X b words : List ℕ) (w : ℕ) → first (run_checks p A X b words w) ≡ 0 → CheckedSystem p A X b
unfolding run_checks system_checks
system_of_law p A X b words w e = record { checked = matrix; valid = scaled_valid p A X matrix; accepted = accepted p A X b words w e }
  where
    system : first (system_checks p A X b) ≡ 0
    system = (first_append_zero (system_checks p A X b) (check 10 (not (words_taken (size A) words)) ∷ check 13 (not (window_taken w)) ∷ []) (numbered_system p A X b) e).0

    matrix : first (scaled_checks p A X) ≡ 0
    matrix = (first_append_zero (scaled_checks p A X) (vector_checks p A b) (numbered_scaled p A X) system).0

-- ---- the scales that a run multiplies by

-- none where all of them are 1
abbrev pub used : List ℕ → ℕ
used X = cond (every (λ a. eqb a 1) X) 0 (length X)

used_cases : (X : List ℕ) → ((used X ≡ 0) × (every (λ a. eqb a 1) X ≡ true)) ⊎ (used X ≡ length X)
used_cases X = go (test_cases (every (λ a. eqb a 1) X))
  where
    go : (every (λ a. eqb a 1) X ≡ true) ⊎ (every (λ a. eqb a 1) X ≡ false) → ((used X ≡ 0) × (every (λ a. eqb a 1) X ≡ true)) ⊎ (used X ≡ length X)
    go (inl e) = inl (ap (λ t. cond t 0 (length X)) e, e)
    go (inr e) = inr (ap (λ t. cond t 0 (length X)) e)

-- these are as all of them
pub used_same : (X : List ℕ) (k : ℕ) → k ≡ used X → (j : ℕ) → scale_at (part 0 k X) j ≡ scale_at X j
used_same X k e j = go (used_cases X)
  where
    one : every (λ a. eqb a 1) X ≡ true → Dec (j < length X) → scale_at X j ≡ 1
    one h (yes l) = eqb-true (scale_at X j) 1 (every_at (λ a. eqb a 1) X 1 h j l)
    one h (no l) = get_or-eq_default X 1 {n = j} (omega (arith, l))

    go : ((used X ≡ 0) × (every (λ a. eqb a 1) X ≡ true)) ⊎ (used X ≡ length X) → scale_at (part 0 k X) j ≡ scale_at X j
    go (inl (z, h)) = ap (λ m. scale_at (part 0 m X) j) (e ∙ z) ∙ sym (one h (dec_lt j (length X)))
    go (inr f) = ap (λ l. scale_at l j) (take_all k X (omega (arith, e, f)))

-- .. and pass the checks that all of them pass
pub used_checked : {p : ℕ} {A : Matrix} {X b : List ℕ} (k : ℕ) → k ≡ used X → CheckedSystem p A X b → CheckedSystem p A (part 0 k X) b
used_checked {p} {A} {X} {b} k e s = go (used_cases X)
  where
    go : ((used X ≡ 0) × (every (λ a. eqb a 1) X ≡ true)) ⊎ (used X ≡ length X) → CheckedSystem p A (part 0 k X) b
    go (inl (z, h)) =
        subst (λ m. CheckedSystem p A (part 0 m X) b) (sym (e ∙ z))
        (record { checked = scaled_plain p A X s.checked; valid = scaled_valid p A [] (scaled_plain p A X s.checked); accepted = s.accepted })
    go (inr f) = subst (λ Y. CheckedSystem p A Y b) (sym (take_all k X (omega (arith, e, f)))) s

abbrev pub none : Counts
none = record { degree = 0; passes = 0; applications = 0; multiplied = 0 }

abbrev pub counted : Counts → CodePass → Counts
counted c q =
    record {
      degree = c.degree + q.degree;
      passes = c.passes + 1;
      applications = c.applications + q.applications;
      multiplied = c.multiplied + q.multiplied;
    }

-- what bounds the counts and the numbers of a pass that is added to them
pub record Fits (c : Counts) (q : CodePass) : Type 0 where
  pub degree_low : c.degree ≤ 4096
  pub passes_low : c.passes < 65536
  pub applications_low : c.applications < 4294967296
  pub multiplied_low : c.multiplied ≤ 13194139533312
  pub left_low : q.left ≤ 4096
  pub found_low : q.degree ≤ 8192
  pub cost_low : q.applications ≤ 24576
  pub entries_low : q.multiplied ≤ 1610612736

-- b in r's place, which was lent, and 1 in F's first: the run's beginning
pub begun : (W b : List ℕ) (from m : ℕ) (Y : List ℕ) → from ≡ residual_at (length b) → m ≡ length b → from + m ≤ length W → Y ≡ padded m b
    → (length (set (lent W from m Y) 0 1) ≡ length W) × (held (length b) (set (lent W from m Y) 0 1) 0 [] ≡ begin b)
unfolding begin
begun W b from m Y e f fits y = (long, ap₂ {C = Run} (λ r F. record { residual = r; factor = F; found = 0; passes = [] }) residual factor)
  where
    same : length Y ≡ m
    same = ap length y ∙ length_table m (λ i. at b i)

    X : List ℕ
    X = lent W from m Y

    long : length (set (lent W from m Y) 0 1) ≡ length W
    long = length-set (lent W from m Y) 0 1 ∙ length_lent W from m Y fits same

    whole : padded m b ≡ b
    whole = ap (λ k. padded k b) f ∙ sym (table_of 0 b (length b) (at b) refl (λ i l. refl))

    residual : part (residual_at (length b)) (length b) (set X 0 1) ≡ b
    residual =
        part_at (set X 0 1) (residual_at (length b)) (length b) from m (sym e) (sym f)
        ∙ part_ext from m (set X 0 1) X (omega (arith, long, fits)) (omega (arith, length_lent W from m Y fits same, fits))
        (λ i l. get_or-set_other X 0 (from + i) 1 0 (λ q. omega (arith, q, e)))
        ∙ part_lent W from m Y fits same ∙ y ∙ whole

    factor : part 0 (0 + 1) (set X 0 1) ≡ 1 ∷ []
    factor =
        part_cons 0 0 (set X 0 1) (omega (arith, long, fits, e))
        ∙ ap (λ x. x ∷ []) (get_or-set_same X 0 1 0 (omega (arith, length_lent W from m Y fits same, fits, e)))

-- ---- the run

module _ (p : ℕ) (h : Prime p) (A : Matrix) (b : List ℕ) (w : ℕ) where
  pub run_append : (us vs : List (List ℕ)) (c : Run) → run p A w (us ++ vs) c ≡ run p A w vs (run p A w us c)
  run_append [] vs c = ap (run p A w vs) (sym (run_nil p h A b w c))
  run_append (u ∷ us) vs c = go (test_cases (is_zero c.residual)) (run_append us vs (pass p A w u c))
    where
      go : (is_zero c.residual ≡ true) ⊎ (is_zero c.residual ≡ false) → run p A w (us ++ vs) (pass p A w u c) ≡ run p A w vs (run p A w us (pass p A w u c))
          → run p A w (u ∷ us ++ vs) c ≡ run p A w vs (run p A w (u ∷ us) c)
      go (inl z) ih =
          run_stop p h A b w u (us ++ vs) c z ∙ sym (ap (run p A w vs) (run_stop p h A b w u us c z) ∙ run_rest p h A b w vs c z)
      go (inr z) ih = run_pass p h A b w u (us ++ vs) c z ∙ ih ∙ ap (run p A w vs) (sym (run_pass p h A b w u us c z))

  -- one projection more, while r is not zero
  pub run_more : (us : List (List ℕ)) (j : ℕ) (c : Run) → j < length us → is_zero (run p A w (take j us) c).residual ≡ false
      → run p A w (take (j + 1) us) c ≡ pass p A w (get_or us j []) (run p A w (take j us) c)
  run_more us j c l z =
      ap (λ vs. run p A w vs c) (ap (λ k. take k us) (add-one j) ∙ take-suc us j [] l) ∙ run_append (take j us) (get_or us j [] ∷ []) c
      ∙ run_pass p h A b w (get_or us j []) [] (run p A w (take j us) c) z ∙ run_nil p h A b w (pass p A w (get_or us j []) (run p A w (take j us) c))

  module _ (size_b : length b ≡ size A) (reduced_b : (i : ℕ) → i < length b → get_or b i 0 < p) (us : List (List ℕ)) where
    open residues p h use {ring as R}

    -- while r is not zero, less than n has been found
    pub run_left : is_zero (run p A w us (begin b)).residual ≡ false → (run p A w us (begin b)).found < size A
    run_left z = go (dec_lt (run p A w us (begin b)).found (size A))
      where
        c : Run
        c = run p A w us (begin b)

        full : size A ≤ c.found → is_zero c.residual ≡ true
        full l =
            null_is_zero p h c.residual (run_begun p h A b size_b reduced_b w us).stands.reduced_residual
            (kept_full (residues p h) (size A) (operator p h A) (coef p h b) (operator_linear p h A) (λ i k. coef_below p h b i (omega arith))
            (kept (residues p h) (size A) (operator p h A) (coef p h b) (operator_linear p h A) (λ i k. coef_below p h b i (omega arith))
            (run_begun p h A b size_b reduced_b w us).stands.reached) l)

        go : Dec (c.found < size A) → c.found < size A
        go (yes l) = l
        go (no l) = never (is_zero c.residual) (full (omega (arith, l))) z

pub record Midway (p : ℕ) (A : Matrix) (b words : List ℕ) (w : ℕ) (B B' W : List ℕ) (j : ℕ) (c : Counts) : Type 0 where
  pub made : List Pass
  pub bill : B' ≡ billed B made
  pub passes : c.passes ≡ length made
  pub used : length made ≡ j
  pub applications : c.applications ≡ spent made
  pub by_entry : c.multiplied ≡ multiplied c.applications A
  pub few : c.applications ≤ j * 24576
  pub room : 16 * size A + 16 ≤ length W
  pub within : j ≤ length (projections p (size A) words)
  pub state : held (size A) W c.degree made ≡ run p A w (take j (projections p (size A) words)) (begin b)

pub midway_begin : {p : ℕ} {A : Matrix} {X b words : List ℕ} {w : ℕ} {B W : List ℕ} → CheckedSystem p A X b → 16 * size A + 16 ≤ length W → held (size A) W 0 [] ≡ begin b
    → Midway p (scaled p A X) b words w B B W 0 none
midway_begin {p} {A} {X} {b} {words} {w} {B} {W} s room e =
    record {
      made = [];
      bill = sym (billed_nil B);
      passes = refl;
      used = refl;
      applications = sym spent_nil;
      by_entry = sym (multiplied_none (scaled p A X));
      few = omega arith;
      room = room;
      within = omega arith;
      state = e ∙ sym (run_nil p s.accepted.prime (scaled p A X) b w (begin b));
    }

pub record Finished (p : ℕ) (A : Matrix) (b words : List ℕ) (w : ℕ) (B B' W : List ℕ) (c : Counts) : Type 0 where
  pub made : List Pass
  pub bill : B' ≡ billed B made
  pub passes : c.passes ≡ length made
  pub applications : c.applications ≡ spent made
  pub by_entry : c.multiplied ≡ multiplied c.applications A
  pub few : c.applications ≤ 201326592
  pub room : 16 * size A + 16 ≤ length W
  pub state : held (size A) W c.degree made ≡ run p A w (projections p (size A) words) (begin b)

module _ {p : ℕ} {A : Matrix} {X b words : List ℕ} {w : ℕ} {B B' W : List ℕ} {j : ℕ} {c : Counts} (s : CheckedSystem p A X b) (most : length (projections p (size A) words) ≤ 8192)
    (m : Midway p (scaled p A X) b words w B B' W j c) where
  -- the run is on AX
  abbrev M : Matrix
  M = scaled p A X

  h : Prime p
  h = s.accepted.prime

  us : List (List ℕ)
  us = projections p (size A) words

  zeroed : is_zero (run p M w (take j (projections p (size A) words)) (begin b)).residual ≡ is_zero (part (residual_at (size A)) (size A) W)
  zeroed = ap (λ (q : Run). is_zero q.residual) (sym m.state)

  pub midway_less : is_zero (part (residual_at (size A)) (size A) W) ≡ false → j < length (projections p (size A) words)
  unfolding h us
  midway_less z = go (eq-or-lt_of_le m.within)
    where
      go : (j ≡ length us) ⊎ (j < length us) → j < length us
      go (inl e) =
          never (is_zero (part (residual_at (size A)) (size A) W))
          (sym zeroed ∙ ap (λ vs. is_zero (run p M w vs (begin b)).residual) (take_all j us (omega (arith, e)))
          ∙ projections_zero p h M b s.accepted.size_b s.accepted.reduced_b w words)
          z
      go (inr l) = l

  next : is_zero (part (residual_at (size A)) (size A) W) ≡ false
      → run p M w (take (j + 1) (projections p (size A) words)) (begin b)
      ≡ pass p M w (get_or (projections p (size A) words) j []) (held (size A) W c.degree m.made)
  unfolding h us
  next z =
      run_more p h M b w us j (begin b) (midway_less z) (zeroed ∙ z) ∙ ap (pass p M w (get_or us j [])) (sym m.state)

  stands : Stands p s.accepted.prime M b
      (run_begun p s.accepted.prime M b s.accepted.size_b s.accepted.reduced_b w (take j (projections p (size A) words))).used
      (run p M w (take j (projections p (size A) words)) (begin b))
  stands = (run_begun p s.accepted.prime M b s.accepted.size_b s.accepted.reduced_b w (take j (projections p (size A) words))).stands

  residual : Vector p (size A) (part (residual_at (size A)) (size A) W)
  residual =
      record {
        places = ap (λ (q : Run). length q.residual) m.state ∙ stands.size_residual;
        below = λ i l. subst (λ (q : Run). at q.residual i < p) (sym m.state) (stands.reduced_residual i (omega (arith, stands.size_residual, l)));
      }

  factor : Vector p (c.degree + 1) (part 0 (c.degree + 1) W)
  factor =
      record {
        places = ap (λ (q : Run). length q.factor) m.state ∙ stands.size_factor ∙ ap (λ (q : Run). q.found + 1) (sym m.state);
        below =
            λ i l.
            subst (λ (q : Run). at q.factor i < p) (sym m.state)
            (stands.reduced_factor i (omega (arith, l, stands.size_factor, ap (λ (q : Run). q.found) m.state)));
      }

  below : is_zero (part (residual_at (size A)) (size A) W) ≡ false → c.degree < size A
  unfolding h us
  below z =
      subst (λ (q : Run). q.found < size A) (sym m.state)
      (run_left p h M b w s.accepted.size_b s.accepted.reduced_b (take j us) (zeroed ∙ z))

  -- what is held is a state that a pass takes
  pub midway_state : is_zero (part (residual_at (size A)) (size A) W) ≡ false → words_taken (size A) words ≡ true → pass_refusal p A X words c.degree W ≡ 0
  midway_state z t =
      refused_state p A X words c.degree W s.checked
      ∙ state_0 p (size A) c.degree words W (below z) t m.room
      (and_both (vector_elements factor) (vector_elements residual))

  -- whatever its projection
  pub midway_made : is_zero (part (residual_at (size A)) (size A) W) ≡ false → words_taken (size A) words ≡ true → (i : ℕ) (W' : List ℕ) (r : Result CodePass Refusal) (k : Refusal)
      → r ≡ Err k → Passes p A X words w i c.degree W r W' → ⊥
  midway_made z t i W' r k e said =
      let q = subst (λ x. Passes p A X words w i c.degree W x W') e said in q.1 (sym q.0 ∙ midway_state z t)

  -- the numbers that a pass adds, whatever its projection
  pub midway_fits : is_zero (part (residual_at (size A)) (size A) W) ≡ false → (i : ℕ) (W' : List ℕ) (r : Result CodePass Refusal) (q : CodePass) → r ≡ Ok q
      → Passes p A X words w i c.degree W r W' → Fits c q
  midway_fits z i W' r q e said =
      let made = subst (λ x. Passes p A X words w i c.degree W x W') e said in
      let sized = s.valid.valid.sized in
      let u = get_or (projections p (size A) words) i [] in
      let here = held (size A) W c.degree m.made in
      let there = held (size A) W' (c.degree + q.degree) (m.made ++ (pass_of q ∷ [])) in
      let within = made_within p M s.accepted.prime.two_le w u here there (pass_of q) refl (made.1.run m.made) in
      let low : q.left ≤ 4096 = omega (arith, within.left_low, sized) in
      let short : q.degree ≤ 8192 = omega (arith, within.degree_low, low) in
      let cost : q.applications ≤ 24576 = omega (arith, within.cost_low, within.degree_low, low) in
      record {
        degree_low = omega (arith, below z, sized);
        passes_low = omega (arith, m.passes, m.used, m.within, most);
        applications_low = omega (arith, m.few, m.within, most);
        multiplied_low =
            omega (arith, m.by_entry, multiplied_most M 65536 c.applications (per_product_low (valid_scaled X s.valid.valid)), m.few, m.within, most);
        left_low = low;
        found_low = short;
        cost_low = cost;
        entries_low = omega (arith, made.1.by_entry, multiplied_most M 65536 q.applications (per_product_low (valid_scaled X s.valid.valid)), cost);
      }

  pub midway_next : is_zero (part (residual_at (size A)) (size A) W) ≡ false → (W' : List ℕ) (r : Result CodePass Refusal) (q : CodePass) → r ≡ Ok q
      → Passes p A X words w j c.degree W r W' → (length W' ≡ length W) × Midway p M b words w B (entered B' j (pass_of q)) W' (j + 1) (counted c q)
  midway_next z W' r q e said =
      let made = subst (λ x. Passes p A X words w j c.degree W x W') e said in
      let fits = midway_fits z j W' r q e said in (
        made.1.same_length,
        record {
          made = m.made ++ (pass_of q ∷ []);
          bill = ap₂ (λ l k. entered l k (pass_of q)) m.bill (sym m.used) ∙ billed_next B m.made (pass_of q);
          passes = ap (λ k. k + 1) m.passes ∙ sym (length-append m.made (pass_of q ∷ []));
          used = length-append m.made (pass_of q ∷ []) ∙ ap (λ k. k + 1) m.used;
          applications = ap (λ k. k + q.applications) m.applications ∙ sym (spent_snoc m.made (pass_of q));
          by_entry = ap₂ ◌+◌ m.by_entry made.1.by_entry ∙ sym (multiplied_add M c.applications q.applications);
          few = omega (arith, m.few, fits.cost_low);
          room = omega (arith, made.1.same_length, m.room);
          within = omega (arith, midway_less z);
          state = made.1.run m.made ∙ sym (next z);
        },
      )

  pub midway_end : is_zero (part (residual_at (size A)) (size A) W) ≡ true → Finished p M b words w B B' W c
  unfolding h us
  midway_end z =
      record {
        made = m.made;
        bill = m.bill;
        passes = m.passes;
        applications = m.applications;
        by_entry = m.by_entry;
        few = omega (arith, m.few, m.within, most);
        room = m.room;
        state =
            m.state
            ∙ sym
            (ap (λ vs. run p M w vs (begin b)) (sym (take-append-drop j us)) ∙ run_append p h M b w (take j us) (drop j us) (begin b)
            ∙ run_rest p h M b w (drop j us) (run p M w (take j us) (begin b)) (zeroed ∙ z));
      }

-- ---- the end

pub record Bounded (c : Counts) : Type 0 where
  pub applications_low : c.applications ≤ 201326592
  -- 3 × 2⁴²
  pub multiplied_low : c.multiplied ≤ 13194139533312

pub record Closable (p : ℕ) (A : Matrix) (W : List ℕ) (c : Counts) : Type 0 where
  pub found : c.degree ≤ size A
  pub one : at W c.degree ≡ 1
  pub room : 16 * size A + 16 ≤ length W
  pub few : Bounded c
  pub elements : (i : ℕ) → i ≤ c.degree → at W i < p

pub closable : {p : ℕ} {A : Matrix} {X b words : List ℕ} {w : ℕ} {B B' W : List ℕ} {c : Counts} → CheckedSystem p A X b → Finished p (scaled p A X) b words w B B' W c → Closable p (scaled p A X) W c
closable {p} {A} {X} {b} {words} {w} {B} {B'} {W} {c} s f =
    record {
      found = found;
      one = sym (place c.degree (omega arith)) ∙ ap (λ (q : Run). at q.factor c.degree) f.state ∙ ap (at end.factor) (ap (λ (q : Run). q.found) f.state) ∙ monic_leading p end.found end.factor (end_monic p h M b size_b reduced_b end stands zero_end);
      room = f.room;
      few =
          record {
            applications_low = f.few;
            multiplied_low = omega (arith, f.by_entry, multiplied_most M 65536 c.applications (per_product_low (valid_scaled X s.valid.valid)), f.few);
          };
      elements = λ i l. rw (← place i l, ap (λ (q : Run). at q.factor i) f.state) (stands.reduced_factor i (omega (arith, l, stands.size_factor, ap (λ (q : Run). q.found) f.state)));
    }
  where
    M : Matrix
    M = scaled p A X

    h : Prime p
    h = s.accepted.prime

    size_b : length b ≡ size A
    size_b = s.accepted.size_b

    reduced_b : (i : ℕ) → i < length b → get_or b i 0 < p
    reduced_b = s.accepted.reduced_b

    us : List (List ℕ)
    us = projections p (size A) words

    end : Run
    end = run p M w us (begin b)

    stands : Stands p h M b (run_begun p h M b size_b reduced_b w us).used end
    stands = (run_begun p h M b size_b reduced_b w us).stands

    zero_end : is_zero end.residual ≡ true
    zero_end = projections_zero p h M b size_b reduced_b w words

    found : c.degree ≤ size A
    found = subst (λ (q : Run). q.found ≤ size A) (sym f.state) (run_found p h M b size_b reduced_b w us)

    place : (i : ℕ) → i ≤ c.degree → at (part 0 (c.degree + 1) W) i ≡ at W i
    place i l = at_part 0 (c.degree + 1) W i (omega (arith, l)) ∙ ap (at W) (zero-add i)
