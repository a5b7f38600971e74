use mathlib.Core.Path.{◌≡◌, ap, ◌∙◌}
use Prim.Native.Nat.{◌+◌, ◌-◌}
use native.Mathlib.Omega.{arith}
use Rattle.modular.specs.Diagonal.{scaled_by}
use Rattle.laws.specs.Part.{part}
use Rattle.laws.specs.Lent.{lent}
use Rattle.wiedemann.specs.Operator.{rows}
use Rattle.wiedemann.specs.Horner.{scaled_vector}
use Rattle.wiedemann.proofs.pass.scale_part.Goals as goal

pub returns : goal.returns
returns c =
    let a = c.args in
    let o = a.ax.now in
    let n = rows o in
    let W = a.area.now in
    let size : a.at + n - a.at ≡ n = omega arith in
    ap (lent W a.at (a.at + n - a.at)) (c.scale.ensures ∙ ap (λ k. scaled_by o.m o.scales.now (part a.at k W)) size)
    ∙ ap (λ k. lent W a.at k (scaled_by o.m o.scales.now (part a.at n W))) size
    ∙ ap (lent W a.at n) (scaled_vector o.modular o.valid.scales c.requires.2)
