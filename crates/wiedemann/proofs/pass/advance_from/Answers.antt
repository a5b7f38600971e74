use mathlib.Core.Path.{◌≡◌, refl, sym, ap, ◌∙◌, subst}
use native.Mathlib.Omega.{arith}
use Prim.Native.Nat.{◌*◌}
use Rattle.checks.specs.declared.Products.{Products}
use Rattle.checks.specs.Products.{products_with, added, products_few, wrapped_few}
use Rattle.wiedemann.specs.Operator.{plain, rows}
use Rattle.wiedemann.specs.Turns.{Other, region_at, advanced, advanced_at}
use Rattle.wiedemann.proofs.pass.advance_from.Goals.{After-region-to}
use Rattle.wiedemann.proofs.pass.advance_from.Goals as goal

-- the region that the product goes to, as the code has worked it out
other : (c : After-region-to) → Other (rows c.args.ax.now) c.args.from c.region-to.result
other c = subst (λ k. Other (rows c.args.ax.now) c.args.from k) (sym c.region-to.ensures) c.requires.2

pub returns : goal.returns
returns c =
    let a = c.args in
    let n = rows a.ax.now in
    let made = c.step_within-more.ensures in
    let few = wrapped_few c.requires.1 (products_few {k = 1} a.ax.now.valid.valid (omega arith) made.0) in
    let more : c.add.result ≡ added a.done (products_with 1 (plain a.ax.now)) = c.add.ensures ∙ few ∙ ap {B = Products} (added a.done) made.0 in (
      more,
      advanced_at refl (c.region-to.ensures ∙ ap (λ (x : Products). region_at n x.made) (sym more))
          (advanced (3 * n) refl c.requires.0 (other (goal.at.returns c).After-region-to) made.1),
    )
