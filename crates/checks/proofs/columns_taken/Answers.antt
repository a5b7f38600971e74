use mathlib.Core.Path.{refl, sym, ap, ◌∙◌}
use mathlib.Core.List.{[]}
use native.Mathlib.Omega.{arith}
use Rattle.meaning.specs.List.{all}
use Rattle.laws.specs.List.{all_zero}
use Rattle.checks.specs.Matrix.{row_taken, rows_columns_taken, rows_next}
use Rattle.checks.proofs.columns_taken.Goals as goal

pub loop-i-init : goal.loop-i-init
loop-i-init c = sym (all_zero (row_taken c.args.starts.now c.args.columns.now))

pub row_taken-taken-requires : goal.row_taken-taken-requires
row_taken-taken-requires c =
    let known = c.requires in
    let i = c.loop-i.i in
    let test = c.loop-i-test.true in
    (known.rise i test, known.within i test)

pub loop-i-preserved : goal.loop-i-preserved
loop-i-preserved c =
    rows_next c.args.starts.now c.args.columns.now c.loop-i.i c.loop-i.invariant c.row_taken-taken.ensures refl refl

pub returns : goal.returns
returns c =
    let a = c.args in
    c.loop-i.invariant ∙ ap (λ k. all k (row_taken a.starts.now a.columns.now)) (omega arith)
    ∙ sym (rows_columns_taken a.starts.now a.columns.now [])
