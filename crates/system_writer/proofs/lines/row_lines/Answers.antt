use mathlib.Core.Path.{◌≡◌, refl, ap}
use Prim.Native.Nat.{◌+◌, ◌-◌, ◌≤◌}
use native.Mathlib.Omega.{arith}
use Rattle.line_writer.specs.Adds.{adds_as, adds_rows_none, adds_rows_more}
use Rattle.system_writer.specs.Writes.{row_text, entry_line, entry_line_law}
use Rattle.system_writer.proofs.lines.row_lines.Goals as goal

pub loop-k-init : goal.loop-k-init
loop-k-init c =
    let a = c.args in
    let z : 0 ≡ a.from - a.from = omega arith in
    adds_as (ap (row_text a.columns.now a.values.now a.row a.from) z)
    (adds_rows_none a.lines.now (entry_line a.columns.now a.values.now a.row a.from))

pub loop-k-preserved : goal.loop-k-preserved
loop-k-preserved c =
    let a = c.args in
    let k = c.loop-k.k in
    let h : a.from ≤ k = omega arith in
    let m : k - a.from + 1 ≡ k + 1 - a.from = omega (arith, h) in
    adds_as (ap (row_text a.columns.now a.values.now a.row a.from) m)
    (adds_rows_more (entry_line a.columns.now a.values.now a.row a.from) (k - a.from) c.loop-k.invariant
    (adds_as (entry_line_law a.columns.now a.values.now a.row a.from k _ _ h refl refl) c.put.ensures.adds))

pub returns : goal.returns
returns c =
    let a = c.args in
    let q : c.loop-k.k ≡ a.to = omega (arith, c.loop-k-test.false) in
    adds_as (ap (λ m. row_text a.columns.now a.values.now a.row a.from (m - a.from)) q) c.loop-k.invariant
