-- What a call of the solver leaves, as `Solves` says it.
--     refused, taken     a call that was refused, and one that was not
--     none_of            counts by their parts
--     made_by            the products of a call that is not refused
use Rattle.std.specs.Prelude.{Result, Ok, Err, ◌≡◌, refl, ◌≢◌, true, false, cond, ℕ, ◌+◌, eqb}
use Rattle.std.proofs.Common.{ap₂, sym, ap, ◌∙◌, subst, eq-eqb, ne_eqb}
use mathlib.Core.List.{List}
use Rattle.std.specs.Result.{result_unwrap_or}
use Rattle.meaning.specs.List.{padded}
use Rattle.meaning.specs.Matrix.{Matrix, size}
use Rattle.meaning.specs.Solver.{billed, solve}
use Rattle.meaning.specs.Calls.{solver_refusal}
use Rattle.solver.specs.declared.Verdict.{Verdict}
use Rattle.solver.specs.declared.Counts.{Counts}
use Rattle.checks.specs.declared.Products.{Products}
use Rattle.checks.specs.Products.{products_with}
use Rattle.checks.specs.Answers.{Writes}
use Rattle.solver.specs.Run.{none}
use Rattle.refusal.specs.declared.Refusal.{Refusal}
use Rattle.refusal.specs.Number.{number_of, number_positive}
use Rattle.laws.specs.Products.{every_run_by_entry}
use Rattle.solver.specs.Verdict.{Says, Solves, Found, run_passed, condition}

module _ (p : ℕ) (A : Matrix) (X b words : List ℕ) (window : ℕ) (v f B w : List ℕ) where
  pub refused : (r : Refusal) → solver_refusal p A X b words window v f w ≡ number_of r → Solves p A X b words window v f B w (Err r) v f B w
  refused r e =
      record {
        says = (e, number_positive r);
        leaves =
            record {
              vector_after_law = sym (ap (λ t. cond t (solve p A X b words window).vector v) off);
              polynomial_after_law = sym (ap (λ t. cond t (padded (size A + 1) (solve p A X b words window).polynomial) f) off);
              bill_after_law = sym (ap (λ t. cond t (billed B (solve p A X b words window).passes) B) off);
              kept = λ z. refl;
              condition = condition p A X b words window v f w;
              by_entry = λ z. absurd (number_positive r (sym e ∙ z));
            };
      }
    where
      off : eqb (solver_refusal p A X b words window v f w) 0 ≡ false
      off = ne_eqb (solver_refusal p A X b words window v f w) 0 (λ z. number_positive r (sym e ∙ z))

  pub taken : {r : Verdict} {v' f' B' w' : List ℕ} → solver_refusal p A X b words window v f w ≡ 0 → Found p A X b words window B r v' f' B' → Solves p A X b words window v f B w (Ok r) v' f' B' w'
  taken {r} e q =
      record {
        says = subst (λ k. Says (Ok r) k (solve p A X b words window)) (sym e) q.says;
        leaves =
            record {
              vector_after_law = q.vector_is ∙ sym (ap (λ t. cond t (solve p A X b words window).vector v) on);
              polynomial_after_law = q.polynomial_is ∙ sym (ap (λ t. cond t (padded (size A + 1) (solve p A X b words window).polynomial) f) on);
              bill_after_law = q.bill_is ∙ sym (ap (λ t. cond t (billed B (solve p A X b words window).passes) B) on);
              kept = λ z. absurd (z e);
              condition = condition p A X b words window v f w;
              by_entry = λ z. record { product = every_run_by_entry p A X b words window (run_passed p A X b words window v f w z); fits = q.fits };
            };
      }
    where
      on : eqb (solver_refusal p A X b words window v f w) 0 ≡ true
      on = eq-eqb (solver_refusal p A X b words window v f w) 0 e

pub none_of : {c : Counts} → (c.degree ≡ 0) × ((c.passes ≡ 0) × ((c.applications ≡ 0) × (c.multiplied ≡ 0))) → c ≡ none
none_of {c} e =
    ap₂ {C = Counts} (λ d q. record { degree = d; passes = q; applications = c.applications; multiplied = c.multiplied }) e.0 e.1.0
    ∙ ap₂ {C = Counts} (λ a m. record { degree = 0; passes = 0; applications = a; multiplied = m }) e.1.1.0 e.1.1.1

pub made_by : (r : Result Products Refusal) (x : Products) {number : ℕ} (k : ℕ) (A : Matrix) → number ≡ 0 → Writes r number k A → result_unwrap_or r x ≡ products_with k A
made_by (Ok done) x k A z w = w.1
made_by (Err e) x k A z w = absurd (w.1 (sym w.0 ∙ z))
