use Rattle.std.proofs.Common.{◌≡◌, Bool, List, ℕ, eqb}
use Rattle.meaning.specs.List.{at, all}
use Rattle.meaning.specs.Matrix.{Matrix, product}
use Rattle.wiedemann.specs.Operator.{plain}
use Rattle.wiedemann.proofs.offered.agrees.Given as goal

abbrev pub agreement : ℕ → Matrix → List ℕ → List ℕ → ℕ → Bool
agreement p A x b i = eqb (at (product p A x) i) (at b i)

abbrev pub invariant-loop-i : goal.invariant-loop-i
invariant-loop-i l = (l.from ≡ at l.starts l.i) × (l.holds ≡ all l.i (agreement l.ax.m.p (plain l.ax) l.x l.b))
