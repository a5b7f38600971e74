use Rattle.wiedemann.specs.Operator.{operator, projection}
use Rattle.wiedemann.specs.Turns.{region_at, Iterated}
use Rattle.laws.specs.Part.{part}
use Rattle.checks.specs.Valid.{Vector}
use Rattle.checks.specs.Products.{products_with}
use lib.ListN.{length}
use Prim.Native.Nat.{◌+◌, ◌*◌, ◌≤◌}
use mathlib.Core.Path.{◌≡◌}
use Rattle.wiedemann.proofs.pass.terms.Given as goal

abbrev pub invariant-loop-i : goal.invariant-loop-i
invariant-loop-i l =
    (l.done.made + 1 ≡ l.i) × (3 * l.n + 2 * l.left ≤ length l.initial.area) × Vector l.ax.m.p l.n (part 0 l.n l.initial.area)
    × Iterated l.ax.m.p (operator l.ax) (projection l.ax l.u) l.initial.area l.done.made (region_at l.n l.done.made) l.area
    × (l.done ≡ products_with l.done.made (operator l.ax))
