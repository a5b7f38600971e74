use Rattle.std.proofs.Common.{◌≡◌}
use Rattle.meaning.specs.List.{at}
use Rattle.laws.specs.Written.{Written}
use Rattle.laws.specs.Part.{part}
use Rattle.wiedemann.specs.Operator.{plain}
use Rattle.wiedemann.specs.Horner.{step_at}
use Rattle.wiedemann.proofs.matrix.step_within.Given as goal

abbrev pub invariant-loop-i : goal.invariant-loop-i
invariant-loop-i l =
    (l.from ≡ at l.starts l.i)
    × Written l.initial.work l.target l.i (step_at l.ax.m.p (plain l.ax) l.c (part l.origin l.n l.initial.work) (part l.source l.n l.initial.work)) l.work
