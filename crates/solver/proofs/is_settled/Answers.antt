use Rattle.checks.specs.Pass.{residual_at}
use Rattle.laws.specs.Lent.{part_at}
use Rattle.meaning.specs.List.{is_zero}
use native.Mathlib.Omega.{arith}
use Prim.Native.Nat.{◌+◌, ◌-◌}
use mathlib.Core.Path.{ap, ◌∙◌}
use Rattle.solver.proofs.is_settled.Goals as goal

pub returns : goal.returns
returns c =
    let a = c.args in
    let from = c.residual_at-from.result in
    c.is_zero.ensures
    ∙ ap is_zero (part_at a.work.now from (from + a.n - from) (residual_at a.n) a.n c.residual_at-from.ensures (omega arith))
