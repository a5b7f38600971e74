use Rattle.recurrence.proofs.Stepping.{Between}
use Rattle.recurrence.proofs.steps.make_steps.Given as goal

-- `recurrence::steps::make_steps` meets its contract. The loop's invariant says what stands after each r: if d, q, t, L and e were those of document
-- 01's steps at `from`, they are those of its steps for 1 to r, of the first r terms.
abbrev pub invariant-loop-made : goal.invariant-loop-made
invariant-loop-made l = Between l.m.p l.count l.from l.made l.initial.work l.initial.c l.work l.c
