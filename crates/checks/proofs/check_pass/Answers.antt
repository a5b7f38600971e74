use Rattle.std.proofs.lemmas.Result.{err_from_is_err_and}
use Rattle.refusal.specs.Number.{number_positive}
use mathlib.Core.Path.{refl, sym}
use native.Mathlib.Omega.{arith}
use Rattle.laws.specs.Refusal.{numbered_scaled, leading_refused, leading_passed}
use Rattle.checks.specs.Matrix.{scaled_sized}
use Rattle.checks.specs.Pass.{pass_refusal}
use Rattle.checks.proofs.check_pass.Goals as goal

pub returns-in_err-check_scaled : goal.returns-in_err-check_scaled
unfolding pass_refusal
returns-in_err-check_scaled c =
    let exit = err_from_is_err_and c.from_residual.result c.from_residual.ensures.1 in
    rw (exit.1, exit.2) (leading_refused _ _ (numbered_scaled _ _ _) c.in_err-check_scaled.ensures (number_positive c.in_err-check_scaled.field-0.0))

pub overflow_sub-a : goal.overflow_sub-a
overflow_sub-a c = omega (arith, (scaled_sized _ _ _ c.in_ok-check_scaled.ensures refl).0)

pub check_state-requires : goal.check_state-requires
check_state-requires c = omega (arith, (scaled_sized _ _ _ c.in_ok-check_scaled.ensures refl).1)

pub returns : goal.returns
unfolding pass_refusal
returns c =
    leading_passed _ _ (numbered_scaled _ _ _) c.in_ok-check_scaled.ensures refl (sym c.check_state.ensures)
