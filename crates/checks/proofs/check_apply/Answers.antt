use Rattle.std.proofs.lemmas.Result.{err_from_is_err_and}
use Rattle.refusal.specs.Number.{number_positive}
use mathlib.Core.Bool.{not}
use mathlib.Core.Path.{refl, ap, ◌∙◌}
use native.Mathlib.Omega.{arith}
use Rattle.laws.specs.Bool.{not_as_both}
use Rattle.laws.specs.Refusal.{numbered_scaled, first_stops, first_past, first_nil, leading_refused, leading_passed}
use Rattle.checks.specs.Matrix.{scaled_sized, scaled_apply_refusal}
use Rattle.checks.proofs.check_apply.Goals as goal

pub returns-in_err-check_scaled : goal.returns-in_err-check_scaled
unfolding scaled_apply_refusal
returns-in_err-check_scaled c =
    let exit = err_from_is_err_and c.from_residual.result c.from_residual.ensures.1 in
    rw (exit.1, exit.2) (leading_refused _ _ (numbered_scaled _ _ _) c.in_err-check_scaled.ensures (number_positive c.in_err-check_scaled.field-0.0))

pub overflow_sub-n : goal.overflow_sub-n
overflow_sub-n c = omega (arith, (scaled_sized _ _ _ c.in_ok-check_scaled.ensures refl).0)

pub returns-then-not-g-n : goal.returns-then-not-g-n
unfolding scaled_apply_refusal
returns-then-not-g-n c =
    leading_passed _ _ (numbered_scaled _ _ _) c.in_ok-check_scaled.ensures refl
    (first_stops 8 _ _ (ap not c.if-not-g-n.true))

pub returns-then-not-are_elements : goal.returns-then-not-are_elements
unfolding scaled_apply_refusal
returns-then-not-are_elements c =
    leading_passed _ _ (numbered_scaled _ _ _) c.in_ok-check_scaled.ensures refl
    (first_past 8 _ _ (ap not c.if-not-g-n.false) ∙ first_stops 9 _ _ (not_as_both c.are_elements.ensures c.are_elements-2.ensures c.if-not-are_elements.true))

pub returns-then-not-out-n : goal.returns-then-not-out-n
unfolding scaled_apply_refusal
returns-then-not-out-n c =
    leading_passed _ _ (numbered_scaled _ _ _) c.in_ok-check_scaled.ensures refl
    (first_past 8 _ _ (ap not c.if-not-g-n.false) ∙ first_past 9 _ _ (not_as_both c.are_elements.ensures c.are_elements-2.ensures c.if-not-are_elements.false)
    ∙ first_stops 11 _ _ (ap not c.if-not-out-n.true))

pub returns : goal.returns
unfolding scaled_apply_refusal
returns c =
    leading_passed _ _ (numbered_scaled _ _ _) c.in_ok-check_scaled.ensures refl
    (first_past 8 _ _ (ap not c.if-not-g-n.false) ∙ first_past 9 _ _ (not_as_both c.are_elements.ensures c.are_elements-2.ensures c.if-not-are_elements.false)
    ∙ first_past 11 _ _ (ap not c.if-not-out-n.false) ∙ first_nil)
