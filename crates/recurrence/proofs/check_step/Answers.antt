use mathlib.Core.Path.{refl, sym, ◌∙◌}
use native.Mathlib.Omega.{arith}
use Rattle.std.proofs.lemmas.Result.{err_from_is_err_and}
use Rattle.refusal.specs.Number.{number_positive}
use Rattle.laws.specs.Bool.{not_as}
use Rattle.laws.specs.Refusal.{first_stops, first_past, first_nil, leading_refused, leading_passed}
use Rattle.recurrence.specs.Recurrence.{HasRoom, numbered_room, room_of}
use Rattle.recurrence.specs.OneStep.{step_refusal, fits_of}
use Rattle.recurrence.proofs.check_step.Goals.{In_ok-check_room}
use Rattle.recurrence.proofs.check_step.Goals as goal

-- the regions have room
room : (c : In_ok-check_room) → HasRoom c.args.p c.args.count c.args.work.now
room c = room_of (sym c.in_ok-check_room.ensures)

pub returns-in_err-check_room : goal.returns-in_err-check_room
unfolding step_refusal
returns-in_err-check_room c =
    let exit = err_from_is_err_and c.from_residual.result c.from_residual.ensures.1 in
    rw (exit.1, exit.2) (leading_refused _ _ (numbered_room _ _ _) c.in_err-check_room.ensures (number_positive c.in_err-check_room.field-0.0))

pub register_fits-requires : goal.register_fits-requires
register_fits-requires c = (room (goal.at.register_fits-requires c).In_ok-check_room).few

pub returns-then-not-register_fits : goal.returns-then-not-register_fits
unfolding step_refusal
returns-then-not-register_fits c =
    leading_passed _ _ (numbered_room _ _ _) c.in_ok-check_room.ensures refl
    (first_stops 8 _ _ (not_as c.register_fits.ensures c.if-not-register_fits.true))

pub state_elements-requires : goal.state_elements-requires
state_elements-requires c =
    let fit = fits_of (sym c.register_fits.ensures ∙ c.if-not-register_fits.false) in
    let has = room (goal.at.state_elements-requires c).In_ok-check_room in
    (omega (arith, has.two), has.few, has.room, fit.high, fit.within_r)

pub returns-then-not-state_elements : goal.returns-then-not-state_elements
unfolding step_refusal
returns-then-not-state_elements c =
    leading_passed _ _ (numbered_room _ _ _) c.in_ok-check_room.ensures refl
    (first_past 8 _ _ (not_as c.register_fits.ensures c.if-not-register_fits.false)
    ∙ first_stops 9 _ _ (not_as c.state_elements.ensures c.if-not-state_elements.true))

pub returns : goal.returns
unfolding step_refusal
returns c =
    leading_passed _ _ (numbered_room _ _ _) c.in_ok-check_room.ensures refl
    (first_past 8 _ _ (not_as c.register_fits.ensures c.if-not-register_fits.false)
    ∙ first_past 9 _ _ (not_as c.state_elements.ensures c.if-not-state_elements.false) ∙ first_nil)
