use Rattle.std.proofs.Common.{◌≡◌, length, ap, ◌∙◌, arith}
use Rattle.checks.specs.Valid.{valid_scaled}
use Rattle.checks.specs.declared.Products.{Products}
use Rattle.checks.specs.Products.{products_with, added, products_zero, products_next, products_few, wrapped_few}
use Rattle.wiedemann.specs.Operator.{operator}
use Rattle.wiedemann.specs.Horner.{turn_even, turn_odd, turn_work, turn_out, turn_to_even, turn_to_odd}
use Rattle.wiedemann.proofs.matrix.horner.Goals.{then-last-eq0, else-last-eq0, then-i-eq0, else-i-eq0}
use Rattle.wiedemann.proofs.matrix.horner.Goals as goal

pub loop-i-init : goal.loop-i-init
loop-i-init c =
    let a = c.args in
    let ax = a.ax.now in
    let A = operator ax in
    let pre = c.requires in
    let none = c.default-done.ensures in (
      omega (arith, none.0),
      elim c.if-last-eq0.branch [
        | then-last-eq0 w ↦ turn_even ax.m.p A a.g.now a.v.now pre.2.places pre.3 w.if-last-eq0.true (ap length w.work-is ∙ pre.1) (w.out-is ∙ w.multiple.ensures)
        | else-last-eq0 w ↦ turn_odd ax.m.p A a.g.now a.v.now pre.2.places pre.3 w.if-last-eq0.false (ap length w.out-is ∙ pre.0) (w.work-is ∙ w.multiple-else-last-eq0.ensures)
      ],
      products_zero A none.0 none.1,
    )

pub scaled_step-more-requires : goal.scaled_step-more-requires
scaled_step-more-requires c =
    let turn = c.loop-i.invariant.1 in
    (turn.out_places, c.requires.2.places, turn_work (valid_scaled _ c.args.ax.now.valid.valid) turn (omega (arith, c.loop-i-test.true)) c.if-i-eq0.true)

pub scaled_step-more-requires-else-i-eq0 : goal.scaled_step-more-requires-else-i-eq0
scaled_step-more-requires-else-i-eq0 c =
    let turn = c.loop-i.invariant.1 in
    (turn.work_places, c.requires.2.places, turn_out (valid_scaled _ c.args.ax.now.valid.valid) turn (omega (arith, c.loop-i-test.true)) c.if-i-eq0.false)

pub loop-i-preserved : goal.loop-i-preserved
loop-i-preserved c =
    let ax = c.args.ax.now in
    let A = operator ax in
    let valid = valid_scaled _ ax.valid.valid in
    let loop = c.loop-i in
    let turn = loop.invariant.1 in
    let test = c.loop-i-test.true in
    let one : c.if-i-eq0.more ≡ products_with 1 A =
    elim c.if-i-eq0.branch [
      | then-i-eq0 w ↦ w.more-is ∙ w.scaled_step-more.ensures.0
      | else-i-eq0 w ↦ w.more-is ∙ w.scaled_step-more-else-i-eq0.ensures.0
    ] in
    let few = wrapped_few (products_few valid (omega (arith, loop.invariant.0, c.requires.4)) loop.invariant.2) (products_few {k = 1} valid (omega arith) one) in
    let more : c.add-done.result ≡ added loop.done (products_with 1 A) = c.add-done.ensures ∙ few ∙ ap {B = Products} (added loop.done) one in (
      omega (arith, loop.invariant.0, ap (λ (x : Products). x.made) more, test),
      elim c.if-i-eq0.branch [
        | then-i-eq0 w ↦ turn_to_even valid turn (omega (arith, test)) w.if-i-eq0.true (ap length w.work-is ∙ w.scaled_step-more.ensures.2 ∙ turn.work_places) (w.out-is ∙ w.scaled_step-more.ensures.1)
        | else-i-eq0 w ↦ turn_to_odd valid turn (omega (arith, test)) w.if-i-eq0.false (ap length w.out-is ∙ w.scaled_step-more-else-i-eq0.ensures.2 ∙ turn.out_places) (w.work-is ∙ w.scaled_step-more-else-i-eq0.ensures.1)
      ],
      products_next A loop.invariant.2 more,
    )
