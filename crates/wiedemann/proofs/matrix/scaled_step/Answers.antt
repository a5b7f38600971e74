use Rattle.std.proofs.Common.{◌≡◌, length, sym, ap, ◌∙◌, subst}
use Rattle.meaning.specs.Matrix.{diagonal}
use Rattle.bridge.specs.Scaled.{length_diagonal}
use Rattle.checks.specs.Valid.{Vector}
use Rattle.checks.specs.Products.{products_scaled}
use Rattle.wiedemann.specs.Operator.{plain, rows}
use Rattle.wiedemann.specs.Horner.{step, step_scaled, scaled_vector, vector_diagonal}
use Rattle.wiedemann.proofs.matrix.scaled_step.Goals.{After-scale}
use Rattle.wiedemann.proofs.matrix.scaled_step.Goals as goal

-- Xv
scaled : (c : After-scale)
    → let ax = c.args.ax.now in
    c.scale.new.v ≡ diagonal ax.m.p ax.scales.now c.args.v.now
scaled c =
    let ax = c.args.ax.now in
    c.scale.ensures ∙ scaled_vector ax.modular ax.valid.scales c.requires.2

pub step-requires : goal.step-requires
step-requires c =
    let a = c.args in
    let ax = a.ax.now in
    let pre = c.requires in (
      pre.0,
      pre.1,
      subst (Vector ax.m.p (rows ax)) (sym (scaled (goal.at.step-requires c).After-scale))
          (vector_diagonal ax.m.p ax.scales.now a.v.now ax.valid.valid.positive pre.2),
    )

pub returns : goal.returns
returns c =
    let a = c.args in
    let ax = a.ax.now in
    let A = plain ax in
    let X = ax.scales.now in
    let v = a.v.now in
    let made = c.step.ensures in
    let xv = scaled (goal.at.returns c).After-scale in (
      made.0 ∙ products_scaled ax.m.p A X 1,
      made.1 ∙ ap (step ax.m.p A a.c a.x.now) xv ∙ sym (step_scaled ax.m.p A X a.c a.x.now v),
      ap length xv ∙ length_diagonal ax.m.p X v,
    )
