use mathlib.Core.Path.{◌≡◌, sym, ap, ap₂, ◌∙◌}
use mathlib.Core.Bool.{Bool, ◌&&◌}
use Prim.Native.Nat.{ℕ}
use native.Mathlib.Omega.{arith}
use lib.ListN.{length, get_or}
use Rattle.meaning.specs.List.{all}
use Rattle.laws.specs.List.{all_zero, every_all}
use Rattle.checks.specs.Matrix.{all_more}
use Rattle.checks.proofs.every.Goals as goal

pub loop-x-init : goal.loop-x-init
loop-x-init g c = (omega arith, λ holds tells. sym (all_zero (λ i. holds (get_or c.args.v.now i 0))))

pub loop-x-preserved : goal.loop-x-preserved
loop-x-preserved g c = (
  omega (arith, c.loop-x-test.true),
  λ holds tells.
      ap₂ (λ all told. all && told) (c.loop-x.invariant.1 holds tells) (tells (get_or c.args.v.now c.loop-x.x-index 0) c.test-all.result c.test-all.ensures)
      ∙ sym (all_more c.loop-x.x-index (λ i. holds (get_or c.args.v.now i 0))),
)

pub returns : goal.returns
returns g c holds tells =
    let each : ℕ → Bool = λ i. holds (get_or c.args.v.now i 0) in
    c.loop-x.invariant.1 holds tells ∙ ap (λ n. all n each) (omega (arith, c.loop-x.invariant.0, c.loop-x-test.false))
    ∙ sym (every_all holds c.args.v.now 0)
