use Rattle.std.proofs.Common.{◌-◌, length, sym, ◌∙◌, subst}
use Rattle.checks.specs.Slices.{matrix_of}
use Rattle.checks.specs.Matrix.{apply_plain}
use Rattle.checks.specs.Answers.{Writes}
use Rattle.wiedemann.specs.Horner.{after_plain}
use Rattle.wiedemann.proofs.matrix.apply.Goals as goal

pub returns-clause-writes : goal.returns-clause-writes
returns-clause-writes c =
    let a = c.args in
    let A = matrix_of a.a.now in
    let made = c.apply_scaled in
    subst (λ k. Writes made.result k (length a.g.now - 1) A) (apply_plain a.field.p A a.g.now a.v.now a.out.now a.work.now) made.ensures.writes

pub returns-clause-out_after : goal.returns-clause-out_after
returns-clause-out_after c =
    let a = c.args in
    c.apply_scaled.ensures.out_after ∙ after_plain a.field.p (matrix_of a.a.now) a.g.now a.v.now a.out.now a.work.now

pub returns-clause-work_unchanged : goal.returns-clause-work_unchanged
returns-clause-work_unchanged c =
    let a = c.args in
    λ q. c.apply_scaled.ensures.work_unchanged (λ z. q (sym (apply_plain a.field.p (matrix_of a.a.now) a.g.now a.v.now a.out.now a.work.now) ∙ z))
