use Rattle.wiedemann.specs.Operator.{operator, rows}
use Rattle.wiedemann.specs.Turns.{region_at, Applying}
use Rattle.checks.specs.Products.{products_with}
use Prim.Native.Nat.{◌+◌}
use mathlib.Core.Path.{◌≡◌}
use Rattle.wiedemann.proofs.pass.apply_within.Given as goal

abbrev pub invariant-loop-i : goal.invariant-loop-i
invariant-loop-i l =
    (l.done.made + l.i ≡ l.t) × Applying l.ax.m.p (operator l.ax) l.initial.area l.f l.t l.i (region_at (rows l.ax) l.done.made) l.area
    × (l.done ≡ products_with l.done.made (operator l.ax))
