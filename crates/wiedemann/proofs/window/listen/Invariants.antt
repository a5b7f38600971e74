use Prim.Native.Nat.{◌-◌, ◌*◌}
use Rattle.laws.specs.Part.{part}
use Rattle.wiedemann.specs.Operator.{operator, rows, projection}
use Rattle.wiedemann.specs.Window.{Listening, Unasked}
use Rattle.wiedemann.proofs.window.listen.Given as goal

abbrev pub invariant-loop-area : goal.invariant-loop-area
invariant-loop-area l =
    Listening l.ax.m.p (operator l.ax) l.left (projection l.ax l.u) l.initial.area l.heard l.area
    × Unasked l.ax.m.p (operator l.ax) l.left l.window (projection l.ax l.u) (part 0 (rows l.ax) l.initial.area) l.heard.terms

abbrev pub decreases-loop-area : goal.decreases-loop-area
decreases-loop-area l = 2 * l.left - l.heard.terms
