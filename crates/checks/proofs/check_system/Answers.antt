use Rattle.std.proofs.lemmas.Result.{err_from_is_err_and}
use Rattle.refusal.specs.Number.{number_positive}
use mathlib.Core.Path.{refl, ap, ◌∙◌}
use mathlib.Core.Bool.{not}
use native.Mathlib.Omega.{arith}
use borrow.Author.Tests.{eq-eqb, ne_eqb}
use Rattle.meaning.specs.Calls.{system_checks}
use Rattle.laws.specs.Bool.{not_as}
use Rattle.laws.specs.Refusal.{numbered_scaled, first_stops, first_past, first_nil, leading_refused, leading_passed}
use Rattle.checks.specs.Matrix.{scaled_sized}
use Rattle.checks.proofs.check_system.Goals as goal

pub returns-in_err-check_scaled : goal.returns-in_err-check_scaled
unfolding system_checks
returns-in_err-check_scaled c =
    let exit = err_from_is_err_and c.from_residual.result c.from_residual.ensures.1 in
    rw (exit.1, exit.2) (leading_refused _ _ (numbered_scaled _ _ _) c.in_err-check_scaled.ensures (number_positive c.in_err-check_scaled.field-0.0))

pub overflow_sub-a : goal.overflow_sub-a
overflow_sub-a c = omega (arith, (scaled_sized _ _ _ c.in_ok-check_scaled.ensures refl).0)

pub returns-then-b-a : goal.returns-then-b-a
unfolding system_checks
returns-then-b-a c =
    leading_passed _ _ (numbered_scaled _ _ _) c.in_ok-check_scaled.ensures refl
    (first_stops 8 _ _ (ap not (ne_eqb _ _ c.if-b-a.true)))

pub returns-then-not-are_elements : goal.returns-then-not-are_elements
unfolding system_checks
returns-then-not-are_elements c =
    leading_passed _ _ (numbered_scaled _ _ _) c.in_ok-check_scaled.ensures refl
    (first_past 8 _ _ (ap not (eq-eqb _ _ c.if-b-a.false)) ∙ first_stops 9 _ _ (not_as c.are_elements.ensures c.if-not-are_elements.true))

pub returns : goal.returns
unfolding system_checks
returns c =
    leading_passed _ _ (numbered_scaled _ _ _) c.in_ok-check_scaled.ensures refl
    (first_past 8 _ _ (ap not (eq-eqb _ _ c.if-b-a.false)) ∙ first_past 9 _ _ (not_as c.are_elements.ensures c.if-not-are_elements.false) ∙ first_nil)
