use mathlib.Core.Path.{◌≡◌}
use Prim.Native.Nat.{◌+◌}
use lib.Dec.{leb}
use Rattle.meaning.specs.List.{at, all}
use Rattle.checks.proofs.rising.Given as goal

abbrev pub invariant-loop-i : goal.invariant-loop-i
invariant-loop-i l = l.rise ≡ all l.i (λ j. leb (at l.starts j) (at l.starts (j + 1)))
