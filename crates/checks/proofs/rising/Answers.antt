use mathlib.Core.Path.{sym, ap, ◌∙◌}
use mathlib.Core.Bool.{◌&&◌}
use Prim.Native.Nat.{◌+◌}
use native.Mathlib.Omega.{arith}
use lib.Dec.{leb}
use Rattle.meaning.specs.List.{at, all}
use Rattle.laws.specs.List.{all_zero}
use Rattle.checks.specs.Matrix.{all_more}
use Rattle.checks.proofs.rising.Goals as goal

pub loop-i-init : goal.loop-i-init
loop-i-init c = sym (all_zero (λ j. leb (at c.args.starts.now j) (at c.args.starts.now (j + 1))))

pub loop-i-preserved : goal.loop-i-preserved
loop-i-preserved c =
    let starts = c.args.starts.now in
    let loop = c.loop-i in
    ap (λ t. t && leb (at starts loop.i) (at starts (loop.i + 1))) loop.invariant
    ∙ sym (all_more loop.i (λ j. leb (at starts j) (at starts (j + 1))))

pub returns : goal.returns
returns c =
    let starts = c.args.starts.now in
    c.loop-i.invariant ∙ ap (λ k. all k (λ j. leb (at starts j) (at starts (j + 1)))) (omega arith)
