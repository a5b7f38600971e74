use mathlib.Core.Path.{sym, ◌∙◌}
use native.Mathlib.Omega.{arith}
use Rattle.meaning.specs.Refusal.{size_taken, columns_taken, scaled_checks}
use Rattle.laws.specs.Bool.{and_left, not_as}
use Rattle.laws.specs.Refusal.{first_stops, first_past, first_nil}
use Rattle.laws.specs.Accepted.{size_known}
use Rattle.checks.specs.Matrix.{ordered}
use Rattle.checks.proofs.check_scaled.Goals as goal

pub returns-then-not-is_modulus : goal.returns-then-not-is_modulus
unfolding scaled_checks
returns-then-not-is_modulus c = sym (first_stops 3 _ _ (not_as c.is_modulus.ensures c.if-not-is_modulus.true))

pub returns-then-not-size_taken : goal.returns-then-not-size_taken
unfolding scaled_checks size_taken
returns-then-not-size_taken c =
    sym (first_past 3 _ _ (not_as c.is_modulus.ensures c.if-not-is_modulus.false) ∙ first_stops 4 _ _ (not_as c.size_taken.ensures c.if-not-size_taken.true))

pub shape_taken-requires : goal.shape_taken-requires
shape_taken-requires c =
    omega (arith, (size_known _ (sym c.size_taken.ensures ∙ c.if-not-size_taken.false)).1)

pub returns-then-not-shape_taken : goal.returns-then-not-shape_taken
unfolding scaled_checks size_taken
returns-then-not-shape_taken c =
    sym
    (first_past 3 _ _ (not_as c.is_modulus.ensures c.if-not-is_modulus.false) ∙ first_past 4 _ _ (not_as c.size_taken.ensures c.if-not-size_taken.false)
    ∙ first_stops 5 _ _ (not_as c.shape_taken.ensures c.if-not-shape_taken.true))

pub columns_taken-requires : goal.columns_taken-requires
columns_taken-requires c =
    ordered _ (and_left _ _ (sym c.shape_taken.ensures ∙ c.if-not-shape_taken.false))
    (omega (arith, (size_known _ (sym c.size_taken.ensures ∙ c.if-not-size_taken.false)).1))

pub returns-then-not-columns_taken : goal.returns-then-not-columns_taken
unfolding scaled_checks size_taken columns_taken
returns-then-not-columns_taken c =
    sym
    (first_past 3 _ _ (not_as c.is_modulus.ensures c.if-not-is_modulus.false) ∙ first_past 4 _ _ (not_as c.size_taken.ensures c.if-not-size_taken.false)
    ∙ first_past 5 _ _ (not_as c.shape_taken.ensures c.if-not-shape_taken.false)
    ∙ first_stops 6 _ _ (not_as c.columns_taken.ensures c.if-not-columns_taken.true))

pub returns-then-not-all_values_taken : goal.returns-then-not-all_values_taken
unfolding scaled_checks size_taken columns_taken
returns-then-not-all_values_taken c =
    sym
    (first_past 3 _ _ (not_as c.is_modulus.ensures c.if-not-is_modulus.false) ∙ first_past 4 _ _ (not_as c.size_taken.ensures c.if-not-size_taken.false)
    ∙ first_past 5 _ _ (not_as c.shape_taken.ensures c.if-not-shape_taken.false)
    ∙ first_past 6 _ _ (not_as c.columns_taken.ensures c.if-not-columns_taken.false)
    ∙ first_stops 7 _ _ (not_as c.all_values_taken.ensures c.if-not-all_values_taken.true))

pub returns : goal.returns
unfolding scaled_checks size_taken columns_taken
returns c =
    sym
    (first_past 3 _ _ (not_as c.is_modulus.ensures c.if-not-is_modulus.false) ∙ first_past 4 _ _ (not_as c.size_taken.ensures c.if-not-size_taken.false)
    ∙ first_past 5 _ _ (not_as c.shape_taken.ensures c.if-not-shape_taken.false)
    ∙ first_past 6 _ _ (not_as c.columns_taken.ensures c.if-not-columns_taken.false)
    ∙ first_past 7 _ _ (not_as c.all_values_taken.ensures c.if-not-all_values_taken.false) ∙ first_nil)
