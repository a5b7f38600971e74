use Rattle.std.proofs.lemmas.Result.{err_from_is_err_and}
use Rattle.refusal.specs.Number.{number_positive}
use mathlib.Core.Bool.{not}
use mathlib.Core.Path.{refl, ap, ◌∙◌}
use native.Mathlib.Omega.{arith}
use Rattle.meaning.specs.Calls.{takes_refusal}
use Rattle.laws.specs.Bool.{not_as_both}
use Rattle.laws.specs.Refusal.{numbered_matrix, first_stops, first_past, first_nil, leading_refused, leading_passed}
use Rattle.checks.specs.Matrix.{matrix_sized}
use Rattle.checks.proofs.check_takes.Goals as goal

pub returns-in_err-check_matrix : goal.returns-in_err-check_matrix
unfolding takes_refusal
returns-in_err-check_matrix c =
    let exit = err_from_is_err_and c.from_residual.result c.from_residual.ensures.1 in
    rw (exit.1, exit.2) (leading_refused _ _ (numbered_matrix _ _) c.in_err-check_matrix.ensures (number_positive c.in_err-check_matrix.field-0.0))

pub overflow_sub-n : goal.overflow_sub-n
overflow_sub-n c = omega (arith, (matrix_sized _ _ c.in_ok-check_matrix.ensures refl).0)

pub returns-then-not-x-n : goal.returns-then-not-x-n
unfolding takes_refusal
returns-then-not-x-n c =
    leading_passed _ _ (numbered_matrix _ _) c.in_ok-check_matrix.ensures refl
    (first_stops 8 _ _ (ap not c.if-not-x-n.true))

pub returns-then-not-are_elements : goal.returns-then-not-are_elements
unfolding takes_refusal
returns-then-not-are_elements c =
    leading_passed _ _ (numbered_matrix _ _) c.in_ok-check_matrix.ensures refl
    (first_past 8 _ _ (ap not c.if-not-x-n.false) ∙ first_stops 9 _ _ (not_as_both c.are_elements.ensures c.are_elements-2.ensures c.if-not-are_elements.true))

pub returns : goal.returns
unfolding takes_refusal
returns c =
    leading_passed _ _ (numbered_matrix _ _) c.in_ok-check_matrix.ensures refl
    (first_past 8 _ _ (ap not c.if-not-x-n.false) ∙ first_past 9 _ _ (not_as_both c.are_elements.ensures c.are_elements-2.ensures c.if-not-are_elements.false) ∙ first_nil)
