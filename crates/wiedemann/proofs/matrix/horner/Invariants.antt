use Rattle.std.proofs.Common.{◌≡◌, ◌+◌, ◌-◌, length}
use Rattle.checks.specs.Products.{products_with}
use Rattle.wiedemann.specs.Operator.{operator}
use Rattle.wiedemann.specs.Horner.{Turn}
use Rattle.wiedemann.proofs.matrix.horner.Given as goal

abbrev pub invariant-loop-i : goal.invariant-loop-i
invariant-loop-i l =
    (l.done.made + l.i ≡ length l.g - 1) × Turn l.ax.m.p (operator l.ax) l.g l.v l.i l.out l.work × (l.done ≡ products_with l.done.made (operator l.ax))
