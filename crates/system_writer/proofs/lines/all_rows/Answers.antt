use mathlib.Core.Path.{◌≡◌, refl, ap}
use Prim.Native.Nat.{◌+◌, ◌-◌, ◌<◌}
use native.Mathlib.Omega.{arith}
use lib.ListN.{length}
use Rattle.meaning.specs.List.{flat, table}
use Rattle.meaning.specs.Text.{write_row}
use Rattle.line_writer.specs.Adds.{adds_as, adds_rows_none, adds_rows_more}
use Rattle.checks.specs.Slices.{matrix_of}
use Rattle.system_writer.specs.Writes.{row_text_law}
use Rattle.system_writer.proofs.lines.all_rows.Goals as goal

pub loop-i-init : goal.loop-i-init
loop-i-init c = adds_rows_none c.args.lines.now (write_row (matrix_of c.args.a.now))

pub row_lines-requires : goal.row_lines-requires
row_lines-requires c =
    let i = c.loop-i.i in
    let l : i < length c.args.a.now.starts.now - 1 = c.loop-i-test.true in
    let q = c.requires.within (i + 1) (omega (arith, l)) in
    (omega (arith, l, c.requires.few), omega (arith, c.requires.rising i l), omega (arith, q), omega (arith, q, c.requires.as_many))

pub loop-i-preserved : goal.loop-i-preserved
loop-i-preserved c =
    let A = matrix_of c.args.a.now in
    let i = c.loop-i.i in
    adds_rows_more (write_row A) i c.loop-i.invariant (adds_as (row_text_law A i _ _ refl refl) c.row_lines.ensures)

pub returns : goal.returns
returns c =
    let q : c.loop-i.i ≡ length c.args.a.now.starts.now - 1 = omega (arith, c.loop-i-test.false) in
    adds_as (ap (λ m. flat (table m (write_row (matrix_of c.args.a.now)))) q) c.loop-i.invariant
