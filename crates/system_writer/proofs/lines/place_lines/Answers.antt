use mathlib.Core.Path.{◌≡◌, refl, ap}
use native.Mathlib.Omega.{arith}
use lib.ListN.{length}
use Rattle.meaning.specs.List.{flat, table}
use Rattle.line_writer.specs.Adds.{adds_as, adds_rows_none, adds_rows_more, adds_rows_skip}
use Rattle.system_writer.specs.Writes.{place_line, place_none, place_line_law}
use Rattle.system_writer.proofs.lines.place_lines.Goals as goal

pub loop-i-init : goal.loop-i-init
loop-i-init c =
    let a = c.args in
    adds_rows_none a.lines.now (place_line a.letter.now a.v.now)

pub loop-i-preserved-then-value-eq0 : goal.loop-i-preserved-then-value-eq0
loop-i-preserved-then-value-eq0 c =
    let a = c.args in
    let i = c.loop-i.i in
    adds_rows_skip (place_line a.letter.now a.v.now) i (place_none a.letter.now a.v.now i (omega arith)) c.loop-i.invariant

pub loop-i-preserved : goal.loop-i-preserved
loop-i-preserved c =
    let a = c.args in
    let i = c.loop-i.i in
    adds_rows_more (place_line a.letter.now a.v.now) i c.loop-i.invariant
    (adds_as (place_line_law a.letter.now a.v.now i _ (omega arith) refl) c.put.ensures.adds)

pub returns : goal.returns
returns c =
    let a = c.args in
    let q : c.loop-i.i ≡ length a.v.now = omega (arith, c.loop-i-test.false) in
    adds_as (ap (λ m. flat (table m (place_line a.letter.now a.v.now))) q) c.loop-i.invariant
