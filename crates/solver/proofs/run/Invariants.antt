use Rattle.solver.specs.Run.{Midway}
use Rattle.solver.specs.System.{plain, operator, rows}
use Rattle.meaning.specs.Matrix.{scaled}
use Rattle.meaning.specs.Solver.{projections}
use lib.ListN.{length}
use Prim.Native.Nat.{◌-◌}
use mathlib.Core.Path.{◌≡◌}
use Rattle.solver.proofs.run.Given as goal

abbrev pub invariant-loop-work : goal.invariant-loop-work
invariant-loop-work l = Midway l.s.field.p (operator l.s) l.s.b.now l.words l.window l.initial.bill l.bill l.work l.j l.c × (length l.work ≡ length l.initial.work)

abbrev pub decreases-loop-work : goal.decreases-loop-work
decreases-loop-work l = length (projections l.s.field.p (rows l.s) l.words) - l.j
