use mathlib.Core.Path.{sym, ap, ◌∙◌}
use Prim.Native.Nat.{◌-◌}
use lib.ListN.{get_or}
use mathlib.Core.Bool.{◌&&◌}
use native.Mathlib.Omega.{arith}
use lib.Dec.{ltb}
use Rattle.meaning.specs.List.{all_from}
use Rattle.checks.specs.Matrix.{column_taken, all_from_none, row_last}
use Rattle.checks.proofs.row_taken.Goals as goal

pub returns-then-from-end : goal.returns-then-from-end
returns-then-from-end c =
    let at = c.args in
    let taken = column_taken at.n at.end at.columns.now in
    sym (ap (λ a. all_from a at.end taken) c.if-from-end.true ∙ all_from_none at.end taken)

pub returns : goal.returns
returns c =
    let at = c.args in
    ap (λ rise. rise && ltb (get_or at.columns.now (at.end - 1) 0) at.n) c.columns_rise.ensures
    ∙ sym (row_last at.n at.from at.end at.columns.now (omega (arith, c.requires.0, c.if-from-end.false)))
