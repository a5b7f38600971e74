use mathlib.Core.Path.{◌≡◌}
use Prim.Native.Nat.{◌-◌, ◌≤◌}
use lib.ListN.{length, get_or}
use Rattle.checks.specs.Slices.{matrix_of}
use Rattle.transposed.specs.Transposed.{gathered}
use Rattle.transposed.proofs.transposed_into.Given as goal

abbrev pub invariant-loop-i : goal.invariant-loop-i
invariant-loop-i l =
    (l.from ≡ get_or l.a.starts.now l.i 0) × (l.out ≡ gathered l.m.p (matrix_of l.a) l.v l.i)
