use mathlib.Core.Path.{◌≡◌, sym, ap, ◌∙◌}
use mathlib.Core.Bool.{◌&&◌}
use native.Mathlib.Omega.{arith}
use Rattle.meaning.specs.List.{all_from}
use Rattle.checks.specs.Matrix.{rises, all_from_none, all_from_more}
use Rattle.checks.proofs.columns_rise.Goals as goal

pub loop-k-init : goal.loop-k-init
loop-k-init c = (omega arith, c.requires.0, sym (all_from_none c.args.from (rises c.args.columns.now)))

pub loop-k-preserved : goal.loop-k-preserved
loop-k-preserved c =
    let at = c.args in
    let loop = c.loop-k in (
      omega (arith, loop.invariant.0),
      omega (arith, c.loop-k-test.true),
      ap (λ t. t && rises at.columns.now loop.k) loop.invariant.2
          ∙ sym (all_from_more at.from (rises at.columns.now) loop.k loop.invariant.0),
    )

pub returns : goal.returns
returns c =
    let at = c.args in
    let loop = c.loop-k in
    let end : loop.k ≡ at.last = omega (arith, loop.invariant.1, c.loop-k-test.false) in
    loop.invariant.2 ∙ ap (λ k. all_from at.from k (rises at.columns.now)) end
