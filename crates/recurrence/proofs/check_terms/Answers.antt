use mathlib.Core.Path.{refl, ◌∙◌}
use Rattle.std.proofs.lemmas.Result.{err_from_is_err_and}
use Rattle.refusal.specs.Number.{number_positive}
use Rattle.laws.specs.Bool.{not_as}
use Rattle.laws.specs.Refusal.{first_stops, first_past, first_nil, leading_refused, leading_passed}
use Rattle.recurrence.specs.Recurrence.{terms_refusal, numbered_room}
use Rattle.recurrence.proofs.check_terms.Goals as goal

pub returns-in_err-check_room : goal.returns-in_err-check_room
unfolding terms_refusal
returns-in_err-check_room c =
    let exit = err_from_is_err_and c.from_residual.result c.from_residual.ensures.1 in
    rw (exit.1, exit.2) (leading_refused _ _ (numbered_room _ _ _) c.in_err-check_room.ensures (number_positive c.in_err-check_room.field-0.0))

pub returns-then-not-are_elements : goal.returns-then-not-are_elements
unfolding terms_refusal
returns-then-not-are_elements c =
    leading_passed _ _ (numbered_room _ _ _) c.in_ok-check_room.ensures refl
    (first_stops 9 _ _ (not_as c.are_elements.ensures c.if-not-are_elements.true))

pub returns : goal.returns
unfolding terms_refusal
returns c =
    leading_passed _ _ (numbered_room _ _ _) c.in_ok-check_room.ensures refl
    (first_past 9 _ _ (not_as c.are_elements.ensures c.if-not-are_elements.false) ∙ first_nil)
