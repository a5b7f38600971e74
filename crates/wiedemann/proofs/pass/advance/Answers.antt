use mathlib.Core.Path.{sym, ap, ◌∙◌}
use Rattle.std.proofs.Common.{eqb-true}
use Rattle.checks.specs.declared.Products.{Products}
use Rattle.checks.specs.Products.{added, products_scaled}
use Rattle.wiedemann.specs.Operator.{plain, rows}
use Rattle.wiedemann.specs.Turns.{Prepared, prepared_none, prepared_turning, advanced_scaled}
use Rattle.wiedemann.proofs.pass.advance.Goals.{After-region-from}
use Rattle.wiedemann.proofs.pass.advance.Goals as goal

-- without scales the iterate is ready where it stands
ready : (c : After-region-from)
    → let a = c.args in
    let o = a.ax.now in
    Prepared o.m.p (rows o) a.done.made o.scales.now a.area.now c.region-from.result a.area.now
ready c = prepared_none c.requires.0 c.region-from.ensures (eqb-true _ 0 (sym c.is_empty.ensures ∙ c.if-is_empty.true))

pub advance_from-requires : goal.advance_from-requires
advance_from-requires c =
    let here = ready (goal.at.advance_from-requires c).After-region-from in
    (prepared_turning c.args.ax.now.valid.valid.positive c.requires.0 here, c.requires.1, here.other)

pub returns-then-is_empty : goal.returns-then-is_empty
returns-then-is_empty c =
    let a = c.args in
    let o = a.ax.now in
    let made = c.advance_from.ensures in
    (made.0 ∙ ap {B = Products} (added a.done) (products_scaled o.m.p (plain o) o.scales.now 1), advanced_scaled (ready (goal.at.returns-then-is_empty c).After-region-from) made.1)
