use mathlib.Core.Path.{ap, ◌∙◌}
use Rattle.checks.specs.declared.Products.{Products}
use Rattle.checks.specs.Products.{added, products_scaled}
use Rattle.wiedemann.specs.Operator.{plain}
use Rattle.wiedemann.specs.Turns.{prepared_turning, advanced_scaled}
use Rattle.wiedemann.proofs.pass.advance_scaled.Goals as goal

pub advance_from-requires : goal.advance_from-requires
advance_from-requires c =
    let here = c.prepare-from.ensures in
    (prepared_turning c.args.ax.now.valid.valid.positive c.requires.0 here, c.requires.1, here.other)

pub returns : goal.returns
returns c =
    let a = c.args in
    let o = a.ax.now in
    let made = c.advance_from.ensures in
    (made.0 ∙ ap {B = Products} (added a.done) (products_scaled o.m.p (plain o) o.scales.now 1), advanced_scaled c.prepare-from.ensures made.1)
