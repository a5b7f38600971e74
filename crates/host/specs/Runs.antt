-- The solver at the C border: what a call answers and leaves, and what two calls on one system, its scales X included, share.
--     Answered           the numbers of the verdict, and what the solver leaves (its Leaves, with the third condition)
--     SameNumbers, same_numbers      two calls that are not refused, whatever their words, windows and slices: the same kind, degree, vector and polynomial
use Rattle.std.specs.Prelude.{◌≡◌, List, ℕ, length}
use Rattle.std.proofs.Common.{sym, ap, ◌∙◌, arith}
use Rattle.meaning.specs.Matrix.{Matrix}
use Rattle.meaning.specs.Solver.{solve}
use Rattle.meaning.specs.ThirdCondition.{SameAnswer}
use Rattle.meaning.specs.Calls.{solver_refusal}
use Rattle.laws.specs.Recurrence.{monic_length}
use Rattle.laws.specs.Refusal.{unless_refused_none}
use Rattle.solver.specs.Verdict.{Leaves, same_answer, same_slices}
use Rattle.host.specs.declared.runs.Verdict.{Verdict}
use Rattle.host.specs.Answers.{kind_number, verdict_of}

pub record Answered (p : ℕ) (A : Matrix) (X b words : List ℕ) (window : ℕ) (vector polynomial bill work : List ℕ) (r : Verdict) (vector' polynomial' bill' work' : List ℕ) : Type 0 where
  pub verdict : r ≡ verdict_of (solver_refusal p A X b words window vector polynomial work) (solve p A X b words window)
  pub leaves : Leaves p A X b words window vector polynomial bill work vector' polynomial' bill' work'

pub record SameNumbers (r r₁ : Verdict) (vector vector₁ polynomial polynomial₁ : List ℕ) : Type 0 where
  pub kind : r.kind ≡ r₁.kind
  pub degree : r.degree ≡ r₁.degree
  pub same_vector : vector ≡ vector₁
  pub same_polynomial : polynomial ≡ polynomial₁

-- what a call that is not refused answers and leaves, by its outcome
module _ {p : ℕ} {A : Matrix} {X b words : List ℕ} {window : ℕ} {v f B w : List ℕ} {r : Verdict} {v' f' B' w' : List ℕ} (s : Answered p A X b words window v f B w r v' f' B' w') (none : r.refusal ≡ 0) where
  taken : solver_refusal p A X b words window v f w ≡ 0
  taken = sym (ap (λ (x : Verdict). x.refusal) s.verdict) ∙ none

  kind_is : r.kind ≡ kind_number (solve p A X b words window).kind
  kind_is =
      ap (λ (x : Verdict). x.kind) s.verdict ∙ unless_refused_none (solver_refusal p A X b words window v f w) (kind_number (solve p A X b words window).kind) 0 taken

  degree_is : r.degree ≡ (solve p A X b words window).degree
  degree_is = ap (λ (x : Verdict). x.degree) s.verdict ∙ unless_refused_none (solver_refusal p A X b words window v f w) (solve p A X b words window).degree 0 taken

module _ {p : ℕ} {A : Matrix} {X b words : List ℕ} {window : ℕ} {v f B w words₁ : List ℕ} {window₁ : ℕ} {v₁ f₁ B₁ w₁ : List ℕ} {r r₁ : Verdict} {v' f' B' w' v₁' f₁' B₁' w₁' : List ℕ} where
  pub same_numbers : Answered p A X b words window v f B w r v' f' B' w' → Answered p A X b words₁ window₁ v₁ f₁ B₁ w₁ r₁ v₁' f₁' B₁' w₁' → r.refusal ≡ 0 → r₁.refusal ≡ 0
      → SameNumbers r r₁ v' v₁' f' f₁'
  same_numbers s s₁ e e₁ =
      record {
        kind = kind_is s e ∙ ap kind_number same.kind ∙ sym (kind_is s₁ e₁);
        degree = degree_is s e ∙ degrees ∙ sym (degree_is s₁ e₁);
        same_vector = (same_slices s.leaves s₁.leaves (taken s e) (taken s₁ e₁)).0;
        same_polynomial = (same_slices s.leaves s₁.leaves (taken s e) (taken s₁ e₁)).1;
      }
    where
      same : SameAnswer (solve p A X b words window) (solve p A X b words₁ window₁)
      same = same_answer p A X b words window v f w words₁ window₁ v₁ f₁ w₁ (taken s e) (taken s₁ e₁)

      degrees : (solve p A X b words window).degree ≡ (solve p A X b words₁ window₁).degree
      degrees =
          omega (
            arith,
            monic_length p (solve p A X b words window).degree (solve p A X b words window).polynomial (s.leaves.condition (taken s e)).monic,
            monic_length p (solve p A X b words₁ window₁).degree (solve p A X b words₁ window₁).polynomial (s₁.leaves.condition (taken s₁ e₁)).monic,
            ap length same.polynomial,
          )
