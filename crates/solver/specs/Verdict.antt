-- What each case of the solver's answer says, and what a call leaves.
--     Counted            D, the passes, the applications of an outcome and the entries that they multiplied
--     Says               "kind, D, the passes and the applications", with request (iii)'s entries, or the refusal's number
--     ByEntry            request (iii): the entries multiplied are applications × entries, and fit
--     Leaves             each lent slice afterwards, and the third condition of what was found, with ByEntry
--     Solves             the answer, and that
--     same_answer, same_slices      two runs on one system, whatever their words and slices, agree in kind, vector and f, and leave the same
--     kind_of, SameRun, same_run      .. and answer the same
--     closing, closing_none      the counts at the end, with the products that it took; none if D = 0
--     Ends, Closed       what is made of F when r is zero, on the matrix that the run is on
--     Answered           .. and X times its vector; closed_vector: that has n elements
--     constant, divisor, coefficients, taken_in      F[0], its inverse and G in the polynomial slice; G(A)b is not refused
--     closed             so it is the meaning's `solve`; found_used: also where only the scales that count were used
-- A call that was refused, and one that was not, by these: proofs/Call.antt, `refused` and `taken`.
use Rattle.std.specs.Prelude.{Result, Ok, Err, ◌≡◌, refl, ◌≢◌, not, ◌&&◌, ℕ, ◌+◌, ◌-◌, ◌*◌, ◌≤◌, ◌<◌, eqb, leb, length, take, drop}
use Rattle.std.proofs.Common.{sym, ap, ap₂, ◌∙◌, subst, arith, length-drop, take_all, get_or-drop, eq-eqb, le-leb}
use mathlib.Core.List.{List, [], ◌∷◌}
use Rattle.meaning.specs.List.{at, padded}
use Rattle.meaning.specs.Field.{inverse}
use Rattle.meaning.specs.Matrix.{Matrix, size, entry_count, multiplied, scaled, diagonal}
use Rattle.meaning.specs.Solver.{Run, Kind, solved, singular, Outcome, pass_count, applications, billed, verdict, close, outcome, answered, solve}
use Rattle.meaning.specs.ThirdCondition.{ThirdCondition, SameAnswer}
use Rattle.meaning.specs.Refusal.{check, first, scaled_checks}
use Rattle.meaning.specs.Calls.{run_checks, solver_refusal, vector_after, polynomial_after, bill_after}
use Rattle.residue.specs.Inverse.{inverse_lt}
use Rattle.bridge.specs.ThirdCondition.{every_run, every_two_runs, solve_same, verdict_vector}
use Rattle.solver.specs.declared.Counts.{Counts}
use Rattle.solver.specs.declared.Verdict.{Verdict}
use Rattle.solver.specs.declared.Verdict.TheVariants.{Solved, Singular}
use Rattle.refusal.specs.declared.Refusal.{Refusal}
use Rattle.refusal.specs.Number.{number_of}
use Rattle.laws.specs.Part.{part, at_part, length_part}
use Rattle.laws.specs.Lent.{part_of_take, take_padded}
use Rattle.checks.specs.declared.Products.{Products}
use Rattle.checks.specs.Products.{products_with, per_product_low}
use Rattle.checks.specs.Valid.{Vector, valid_scaled, vector_elements}
use Rattle.checks.specs.Matrix.{scaled_apply_refusal}
use Rattle.wiedemann.specs.Pass.{held}
use Rattle.laws.specs.Bool.{and_both}
use Rattle.laws.specs.List.{length_table, get_or_table}
use Rattle.laws.specs.Products.{multiplied_none, multiplied_add, multiplied_most}
use Rattle.laws.specs.Refusal.{first_nil, first_pass, first_append_none, first_append_zero, numbered_scaled, numbered_run, unless_refused_none}
use Rattle.solver.specs.Run.{CheckedSystem, used, used_same, Closable, Finished, closable}

pub record Counted (c : Counts) (o : Outcome) : Type 0 where
  pub degree : c.degree ≡ o.degree
  pub passes : c.passes ≡ pass_count o
  pub applications : c.applications ≡ applications o
  pub multiplied : c.multiplied ≡ o.multiplied

-- request (iii)
pub record ByEntry (A : Matrix) (o : Outcome) : Type 0 where
  -- "equal to applications × entries"
  pub product : o.multiplied ≡ applications o * entry_count A
  -- 64 bits are enough: at most 3 × 2⁴² + 2²⁸
  pub fits : o.multiplied ≤ 13194407968768

-- "a refusal returns its number and no other answer"
abbrev pub Says : Result Verdict Refusal → ℕ → Outcome → Type 0
Says (Ok (Solved c)) number o = (number ≡ 0) × (o.kind ≡ solved) × Counted c o
Says (Ok (Singular c)) number o = (number ≡ 0) × (o.kind ≡ singular) × Counted c o
Says (Err r) number o = (number ≡ number_of r) × (number_of r ≢ 0)

pub record Leaves (p : ℕ) (A : Matrix) (X b words : List ℕ) (window : ℕ) (vector polynomial bill work vector' polynomial' bill' work' : List ℕ) : Type 0 where
  pub vector_after_law : vector' ≡ vector_after p A X b words window vector polynomial work
  pub polynomial_after_law : polynomial' ≡ polynomial_after p A X b words window vector polynomial work
  pub bill_after_law : bill' ≡ bill_after p A X b words window vector polynomial work bill
  -- "every lent slice keeps its contents"
  pub kept : solver_refusal p A X b words window vector polynomial work ≢ 0 → work' ≡ work
  -- the third condition of every run
  pub condition : solver_refusal p A X b words window vector polynomial work ≡ 0 → ThirdCondition p A X b words window (solve p A X b words window)
  pub by_entry : solver_refusal p A X b words window vector polynomial work ≡ 0 → ByEntry A (solve p A X b words window)

pub record Solves (p : ℕ) (A : Matrix) (X b words : List ℕ) (window : ℕ) (vector polynomial bill work : List ℕ) (r : Result Verdict Refusal) (vector' polynomial' bill' work' : List ℕ) : Type 0 where
  pub says : Says r (solver_refusal p A X b words window vector polynomial work) (solve p A X b words window)
  pub leaves : Leaves p A X b words window vector polynomial bill work vector' polynomial' bill' work'

-- ---- the checks

-- where nothing is refused, the checks of a run are passed
pub run_passed : (p : ℕ) (A : Matrix) (X b words : List ℕ) (window : ℕ) (vector polynomial work : List ℕ) → solver_refusal p A X b words window vector polynomial work ≡ 0
    → first (run_checks p A X b words window) ≡ 0
unfolding solver_refusal
run_passed p A X b words window vector polynomial work e =
    (first_append_zero (run_checks p A X b words window)
    (check 11 (not (eqb (length vector) (size A) && eqb (length polynomial) (size A + 1) && leb (16 * size A + 16) (length work))) ∷ [])
    (numbered_run p A X b words window) e).0

pub condition : (p : ℕ) (A : Matrix) (X b words : List ℕ) (window : ℕ) (vector polynomial work : List ℕ) → solver_refusal p A X b words window vector polynomial work ≡ 0
    → ThirdCondition p A X b words window (solve p A X b words window)
condition p A X b words window vector polynomial work e = every_run p A X b words window (run_passed p A X b words window vector polynomial work e)

-- ---- two runs

-- two calls on one system of which none is refused
pub same_answer : (p : ℕ) (A : Matrix) (X b words : List ℕ) (window : ℕ) (v f w words₁ : List ℕ) (window₁ : ℕ) (v₁ f₁ w₁ : List ℕ) → solver_refusal p A X b words window v f w ≡ 0
    → solver_refusal p A X b words₁ window₁ v₁ f₁ w₁ ≡ 0 → SameAnswer (solve p A X b words window) (solve p A X b words₁ window₁)
same_answer p A X b words window v f w words₁ window₁ v₁ f₁ w₁ e e₁ =
    every_two_runs p A X b words words₁ window window₁ (run_passed p A X b words window v f w e) (run_passed p A X b words₁ window₁ v₁ f₁ w₁ e₁)

pub same_slices : {p : ℕ} {A : Matrix} {X b words : List ℕ} {window : ℕ} {v f B w words₁ : List ℕ} {window₁ : ℕ} {v₁ f₁ B₁ w₁ v' f' B' w' v₁' f₁' B₁' w₁' : List ℕ} → Leaves p A X b words window v f B w v' f' B' w'
    → Leaves p A X b words₁ window₁ v₁ f₁ B₁ w₁ v₁' f₁' B₁' w₁' → solver_refusal p A X b words window v f w ≡ 0 → solver_refusal p A X b words₁ window₁ v₁ f₁ w₁ ≡ 0
    → (v' ≡ v₁') × (f' ≡ f₁')
same_slices {p} {A} {X} {b} {words} {window} {v} {f} {B} {w} {words₁} {window₁} {v₁} {f₁} {B₁} {w₁} s s₁ e e₁ =
    let same = same_answer p A X b words window v f w words₁ window₁ v₁ f₁ w₁ e e₁ in
    let here = solver_refusal p A X b words window v f w in
    let there = solver_refusal p A X b words₁ window₁ v₁ f₁ w₁ in
    let F : List ℕ → ℕ → List ℕ = λ ws k. padded (size A + 1) (solve p A X b ws k).polynomial in (
      s.vector_after_law ∙ unless_refused_none here (solve p A X b words window).vector v e ∙ same.vector
          ∙ sym (s₁.vector_after_law ∙ unless_refused_none there (solve p A X b words₁ window₁).vector v₁ e₁),
      s.polynomial_after_law ∙ unless_refused_none here (F words window) f e ∙ ap (padded (size A + 1)) same.polynomial
          ∙ sym (s₁.polynomial_after_law ∙ unless_refused_none there (F words₁ window₁) f₁ e₁),
    )

-- the kind of an answer that is no refusal
abbrev pub kind_of : Result Verdict Refusal → Kind → Type 0
kind_of (Ok (Solved c)) k = k ≡ solved
kind_of (Ok (Singular c)) k = k ≡ singular
kind_of (Err r) k = ⊥

pub record SameRun (p : ℕ) (A : Matrix) (X b : List ℕ) (r r' : Result Verdict Refusal) (vector vector' polynomial polynomial' : List ℕ) : Type 0 where
  pub kind : Kind
  pub this : kind_of r kind
  pub that : kind_of r' kind
  pub same_vector : vector ≡ vector'
  pub same_polynomial : polynomial ≡ polynomial'

kind_says : (r : Result Verdict Refusal) (number : ℕ) (o : Outcome) → number ≡ 0 → Says r number o → kind_of r o.kind
kind_says (Ok (Solved c)) number o e s = s.1
kind_says (Ok (Singular c)) number o e s = s.1
kind_says (Err r) number o e s = s.1 (sym s.0 ∙ e)

module _ (p : ℕ) (A : Matrix) (X b words : List ℕ) (window : ℕ) (v f B w words₁ : List ℕ) (window₁ : ℕ) (v₁ f₁ B₁ w₁ : List ℕ) (r r₁ : Result Verdict Refusal) (v' f' B' w' v₁' f₁' B₁' w₁' : List ℕ) where
  pub same_run : Solves p A X b words window v f B w r v' f' B' w' → Solves p A X b words₁ window₁ v₁ f₁ B₁ w₁ r₁ v₁' f₁' B₁' w₁' → solver_refusal p A X b words window v f w ≡ 0
      → solver_refusal p A X b words₁ window₁ v₁ f₁ w₁ ≡ 0 → SameRun p A X b r r₁ v' v₁' f' f₁'
  same_run s s₁ e e₁ =
      record {
        kind = (solve p A X b words window).kind;
        this = kind_says r (solver_refusal p A X b words window v f w) (solve p A X b words window) e s.says;
        that =
            subst (kind_of r₁) (sym same.kind)
            (kind_says r₁ (solver_refusal p A X b words₁ window₁ v₁ f₁ w₁) (solve p A X b words₁ window₁) e₁ s₁.says);
        same_vector = (same_slices s.leaves s₁.leaves e e₁).0;
        same_polynomial = (same_slices s.leaves s₁.leaves e e₁).1;
      }
    where
      same : SameAnswer (solve p A X b words window) (solve p A X b words₁ window₁)
      same = same_answer p A X b words window v f w words₁ window₁ v₁ f₁ w₁ e e₁

-- ---- the end

abbrev pub closing : Counts → Products → Counts
closing c done =
    record {
      degree = c.degree;
      passes = c.passes;
      applications = c.applications + done.made;
      multiplied = c.multiplied + done.multiplied;
    }

-- "0 if D = 0"
pub closing_none : (A : Matrix) (c : Counts) → c.degree ≡ 0 → c ≡ closing c (products_with (c.degree - 1) A)
closing_none A c e =
    let none : c.degree - 1 ≡ 0 = omega (arith, e) in
    ap₂ {C = Counts} (λ a m. record { degree = c.degree; passes = c.passes; applications = a; multiplied = m }) (omega (arith, none))
    (omega (arith, ap (λ k. multiplied k A) none, multiplied_none A))

abbrev pub Ends : Verdict → Kind → Counts → Type 0
Ends (Solved c) k d = (k ≡ solved) × (c ≡ d)
Ends (Singular c) k d = (k ≡ singular) × (c ≡ d)

pub record Closed (p : ℕ) (A : Matrix) (b W : List ℕ) (c : Counts) (r : Verdict) (vector polynomial : List ℕ) : Type 0 where
  -- "D − 1 for G(A)b where D is at least 1"
  pub ends : Ends r (verdict p A b (part 0 (c.degree + 1) W) c.degree).0 (closing c (products_with (c.degree - 1) A))
  pub vector_is : vector ≡ (verdict p A b (part 0 (c.degree + 1) W) c.degree).1
  pub polynomial_is : polynomial ≡ padded (size A + 1) (part 0 (c.degree + 1) W)

-- .. and X times the vector
pub record Answered (p : ℕ) (A : Matrix) (X b W : List ℕ) (c : Counts) (r : Verdict) (vector polynomial : List ℕ) : Type 0 where
  pub y : List ℕ
  pub ended : Closed p (scaled p A X) b W c r y polynomial
  pub vector_is : vector ≡ diagonal p X y

-- what X is multiplied with has n elements
pub closed_vector : {p : ℕ} {A : Matrix} {X b W : List ℕ} {c : Counts} {r : Verdict} {y polynomial : List ℕ} → CheckedSystem p A X b → Closed p (scaled p A X) b W c r y polynomial
    → Vector p (size A) y
closed_vector {p} {A} {X} {b} {W} {c} s q =
    let v = verdict_vector p s.accepted.prime (scaled p A X) b (part 0 (c.degree + 1) W) c.degree in
    subst (Vector p (size A)) (sym q.vector_is) (record { places = v.0; below = λ i l. v.1 i (omega (arith, l, v.0)) })

-- ---- G(AX)b

module _ {p : ℕ} {A : Matrix} {X b W : List ℕ} {c : Counts} (s : CheckedSystem p A X b) (q : Closable p (scaled p A X) W c) (P : List ℕ)
    (e : P ≡ padded (size A + 1) (part 0 (c.degree + 1) W)) where
  sized : length (part 0 (c.degree + 1) W) ≡ c.degree + 1
  sized = length_part 0 (c.degree + 1) W (omega (arith, q.found, q.room))

  -- F[0] stands in the polynomial slice's first place
  pub constant : at P 0 ≡ at (part 0 (c.degree + 1) W) 0
  constant = ap (λ l. at l 0) e ∙ get_or_table (size A + 1) (λ i. at (part 0 (c.degree + 1) W) i) 0 0 (omega arith)

  -- its inverse is an element
  pub divisor : {y : ℕ} → y ≡ inverse p (at P 0) → at P 0 ≢ 0 → y < p
  divisor {y} i n =
      subst (λ x. x < p) (sym i)
      (inverse_lt p s.accepted.prime (at P 0) (omega (arith, n))
      (subst (λ x. x < p) (sym (constant ∙ at_part 0 (c.degree + 1) W 0 (omega arith))) (q.elements 0 (omega arith))))

  -- G stands behind it
  pub coefficients : part 1 c.degree P ≡ drop 1 (part 0 (c.degree + 1) W)
  coefficients =
      sym (part_of_take 1 c.degree (c.degree + 1) P (omega arith) (omega (arith, ap length e, length_table (size A + 1) (λ i. at (part 0 (c.degree + 1) W) i), q.found)))
      ∙ ap (part 1 c.degree) front
      ∙ take_all c.degree (drop 1 (part 0 (c.degree + 1) W)) (omega (arith, length-drop 1 (part 0 (c.degree + 1) W), sized))
    where
      front : take (c.degree + 1) P ≡ part 0 (c.degree + 1) W
      front =
          ap (take (c.degree + 1)) e ∙ ap (λ k. take k (padded (size A + 1) (part 0 (c.degree + 1) W))) (sym sized)
          ∙ take_padded (size A + 1) (part 0 (c.degree + 1) W) (omega (arith, sized, q.found))

  below : (i : ℕ) → i < c.degree → at (part 1 c.degree P) i < p
  below i l =
      subst (λ g. at g i < p) (sym coefficients)
      (subst (λ x. x < p) (sym (get_or-drop 1 (part 0 (c.degree + 1) W) i 0 ∙ at_part 0 (c.degree + 1) W (1 + i) (omega (arith, l))))
      (q.elements (0 + (1 + i)) (omega (arith, l))))

  module _ (some : c.degree ≢ 0) (out work : List ℕ) (places : length out ≡ size A) (room : length work ≡ length W) where
    long : length (part 1 c.degree P) ≡ c.degree
    long = ap length coefficients ∙ length-drop 1 (part 0 (c.degree + 1) W) ∙ omega (arith, sized)

    pub taken_in : scaled_apply_refusal p A X (part 1 c.degree P) b out work ≡ 0
    unfolding scaled_apply_refusal
    taken_in =
        first_append_none (scaled_checks p A X) _ (numbered_scaled p A X) s.checked
        ∙ first_pass 8 _ _
        (and_both
        (and_both (le-leb 1 (length (part 1 c.degree P)) (omega (arith, long, some))) (le-leb (length (part 1 c.degree P)) (size A + 1) (omega (arith, long, q.found))))
        (eq-eqb (length b) (size A) s.accepted.size_b))
        (first_pass 9 _ _
        (and_both
        (vector_elements (record { places = long; below = below }))
        (vector_elements (record { places = refl; below = s.accepted.reduced_b })))
        (first_pass 11 _ [] (and_both (eq-eqb (length out) (size A) places) (le-leb (2 * size A) (length work) (omega (arith, room, q.room)))) first_nil))

-- what the whole run found
pub record Found (p : ℕ) (A : Matrix) (X b words : List ℕ) (window : ℕ) (bill : List ℕ) (r : Verdict) (vector polynomial bill' : List ℕ) : Type 0 where
  pub says : Says (Ok r) 0 (solve p A X b words window)
  pub vector_is : vector ≡ (solve p A X b words window).vector
  pub polynomial_is : polynomial ≡ padded (size A + 1) (solve p A X b words window).polynomial
  pub bill_is : bill' ≡ billed bill (solve p A X b words window).passes
  pub fits : (solve p A X b words window).multiplied ≤ 13194407968768

pub closed : {p : ℕ} {A : Matrix} {X b words : List ℕ} {window : ℕ} {B B' W : List ℕ} {c : Counts} {r : Verdict} {vector polynomial : List ℕ} → CheckedSystem p A X b → Finished p (scaled p A X) b words window B B' W c
    → Answered p A X b W c r vector polynomial → Found p A X b words window B r vector polynomial B'
unfolding solve answered outcome close
closed {p} {A} {X} {b} {words} {window} {B} {B'} {W} {c} {r} {vector} {polynomial} s f q =
    record {
      says = subst (λ o. Says (Ok r) 0 o) found (go r q.ended.ends);
      vector_is = q.vector_is ∙ ap (diagonal p X) q.ended.vector_is ∙ ap (λ (o : Outcome). o.vector) found;
      polynomial_is = q.ended.polynomial_is ∙ ap (λ (o : Outcome). padded (size A + 1) o.polynomial) found;
      bill_is = f.bill ∙ ap (λ (o : Outcome). billed B o.passes) found;
      fits = subst (λ (o : Outcome). o.multiplied ≤ 13194407968768) found (omega (arith, sym multiplied_here, bounds.few.multiplied_low, last));
    }
  where
    here : Run
    here = held (size A) W c.degree f.made

    M : Matrix
    M = scaled p A X

    end : Outcome
    end = answered p X (close p M b here)

    found : answered p X (close p (scaled p A X) b here) ≡ solve p A X b words window
    found = ap (λ c. answered p X (close p (scaled p A X) b c)) f.state

    bounds : Closable p (scaled p A X) W c
    bounds = closable s f

    last : multiplied (c.degree - 1) M ≤ 268435456
    last = omega (arith, multiplied_most M 65536 (c.degree - 1) (per_product_low (valid_scaled X s.valid.valid)), bounds.found, s.valid.valid.sized)

    multiplied_here : c.multiplied + multiplied (c.degree - 1) M ≡ end.multiplied
    multiplied_here =
        ap (λ k. k + multiplied (c.degree - 1) M) f.by_entry ∙ sym (multiplied_add M c.applications (c.degree - 1))
        ∙ ap (λ k. multiplied (k + (c.degree - 1)) M) f.applications

    counted : (d : Counts) → d ≡ closing c (products_with (c.degree - 1) M) → Counted d (end)
    counted d e =
        subst (λ k. Counted k (end)) (sym e)
        (record { degree = refl; passes = f.passes; applications = ap (λ k. k + (c.degree - 1)) f.applications; multiplied = multiplied_here })

    go : (r : Verdict) → Ends r (verdict p M b (part 0 (c.degree + 1) W) c.degree).0 (closing c (products_with (c.degree - 1) M)) → Says (Ok r) 0 (end)
    go (Solved d) e = (refl, e.0, counted d e.1)
    go (Singular d) e = (refl, e.0, counted d e.1)

-- what was found with the scales that count was found with all of them
pub found_used : {p : ℕ} {A : Matrix} {X b words : List ℕ} {window : ℕ} {B : List ℕ} {r : Verdict} {v f B' : List ℕ} (k : ℕ) → k ≡ used X
    → Found p A (part 0 k X) b words window B r v f B' → Found p A X b words window B r v f B'
found_used {p} {A} {X} {b} {words} {window} {B} {r} k e q =
    record {
      says = subst (λ o. Says (Ok r) 0 o) same q.says;
      vector_is = q.vector_is ∙ ap (λ (o : Outcome). o.vector) same;
      polynomial_is = q.polynomial_is ∙ ap (λ (o : Outcome). padded (size A + 1) o.polynomial) same;
      bill_is = q.bill_is ∙ ap (λ (o : Outcome). billed B o.passes) same;
      fits = subst (λ (o : Outcome). o.multiplied ≤ 13194407968768) same q.fits;
    }
  where
    same : solve p A (part 0 k X) b words window ≡ solve p A X b words window
    same = solve_same p A (part 0 k X) X (used_same X k e) b words window
