use mathlib.Core.Path.{sym}
use Rattle.recurrence.specs.OneStep.{room_ready}
use Rattle.recurrence.proofs.begin_steps.Goals as goal

pub start-requires : goal.start-requires
start-requires c = room_ready (sym c.in_ok-check_room.ensures)
