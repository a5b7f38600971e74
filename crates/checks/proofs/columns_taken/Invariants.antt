use mathlib.Core.Path.{◌≡◌}
use Rattle.meaning.specs.List.{all}
use Rattle.checks.specs.Matrix.{row_taken}
use Rattle.checks.proofs.columns_taken.Given as goal

abbrev pub invariant-loop-i : goal.invariant-loop-i
invariant-loop-i l = l.taken ≡ all l.i (row_taken l.starts l.columns)
