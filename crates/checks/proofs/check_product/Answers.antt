use Rattle.std.proofs.lemmas.Result.{err_from_is_err_and}
use mathlib.Core.Path.{refl, ap, ◌∙◌}
use native.Mathlib.Omega.{arith}
use mathlib.Core.Bool.{not}
use borrow.Author.Tests.{eq-eqb, ne_eqb}
use Rattle.laws.specs.Refusal.{first_stops, first_past, first_nil}
use Rattle.refusal.specs.Number.{number_positive}
use Rattle.checks.specs.Matrix.{system_sized, product_refused, product_passed}
use Rattle.checks.proofs.check_product.Goals as goal

pub returns-in_err-check_system : goal.returns-in_err-check_system
returns-in_err-check_system c =
    let exit = err_from_is_err_and c.from_residual.result c.from_residual.ensures.1 in
    rw (exit.1, exit.2) (product_refused _ _ _ _ c.in_err-check_system.ensures (number_positive c.in_err-check_system.field-0.0))

pub overflow_sub-a : goal.overflow_sub-a
overflow_sub-a c = omega (arith, (system_sized _ _ _ _ c.in_ok-check_system.ensures refl).0)

pub returns-then-out-a : goal.returns-then-out-a
returns-then-out-a c =
    product_passed _ _ _ _ (c.in_ok-check_system.ensures) refl
    (first_stops 11 _ _ (ap not (ne_eqb _ _ c.if-out-a.true)))

pub returns : goal.returns
returns c =
    product_passed _ _ _ _ (c.in_ok-check_system.ensures) refl
    (first_past 11 _ _ (ap not (eq-eqb _ _ c.if-out-a.false)) ∙ first_nil)
