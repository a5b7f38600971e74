use Rattle.laws.specs.Written.{Written}
use Rattle.meaning.specs.Field.{minus, times}
use Rattle.meaning.specs.List.{at}
use lib.ListN.{length}
use Prim.Native.Nat.{◌-◌, ◌≤◌}
use Rattle.solver.proofs.divide.Given as goal

abbrev pub invariant-loop-i : goal.invariant-loop-i
invariant-loop-i l = (l.i ≤ length l.initial.v) × Written l.initial.v 0 l.i (λ j. times l.p (minus l.p 0 (at l.initial.v j)) l.inverse) l.v

abbrev pub decreases-loop-i : goal.decreases-loop-i
decreases-loop-i l = length l.initial.v - l.i
