use mathlib.Core.Path.{sym, ap, ◌∙◌}
use mathlib.Core.Bool.{not}
use borrow.Author.Tests.{lt-leb, le-leb}
use Rattle.laws.specs.Refusal.{first_stops, first_past, first_nil}
use Rattle.recurrence.specs.Recurrence.{room_checks}
use Rattle.recurrence.proofs.check_room.Goals as goal

pub returns-then-not-p : goal.returns-then-not-p
unfolding room_checks
returns-then-not-p c = sym (first_stops 3 _ _ (ap not c.if-not-p.true))

pub returns-then-count-gt8192 : goal.returns-then-count-gt8192
unfolding room_checks
returns-then-count-gt8192 c = sym (first_past 3 _ _ (ap not c.if-not-p.false) ∙ first_stops 8 _ _ (ap not (lt-leb _ _ c.if-count-gt8192.true)))

pub returns-then-work-count : goal.returns-then-work-count
unfolding room_checks
returns-then-work-count c =
    sym
    (first_past 3 _ _ (ap not c.if-not-p.false) ∙ first_past 8 _ _ (ap not (le-leb _ _ c.if-count-gt8192.false))
    ∙ first_stops 11 _ _ (ap not (lt-leb _ _ c.if-work-count.true)))

pub returns : goal.returns
unfolding room_checks
returns c =
    sym
    (first_past 3 _ _ (ap not c.if-not-p.false) ∙ first_past 8 _ _ (ap not (le-leb _ _ c.if-count-gt8192.false))
    ∙ first_past 11 _ _ (ap not (le-leb _ _ c.if-work-count.false)) ∙ first_nil)
