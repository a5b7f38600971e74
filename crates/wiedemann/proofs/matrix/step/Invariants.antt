use Rattle.std.proofs.Common.{◌≡◌}
use Rattle.meaning.specs.List.{at}
use Rattle.laws.specs.Written.{Written}
use Rattle.wiedemann.specs.Operator.{plain}
use Rattle.wiedemann.specs.Horner.{step_at}
use Rattle.wiedemann.proofs.matrix.step.Given as goal

abbrev pub invariant-loop-i : goal.invariant-loop-i
invariant-loop-i l = (l.from ≡ at l.starts l.i) × Written l.initial.out 0 l.i (step_at l.ax.m.p (plain l.ax) l.c l.x l.v) l.out
