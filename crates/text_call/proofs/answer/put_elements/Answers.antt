use mathlib.Core.Path.{◌≡◌, ap}
use native.Mathlib.Omega.{arith}
use lib.ListN.{length}
use Rattle.line_writer.specs.Adds.{adds_as, adds_rows_none, adds_rows_more}
use Rattle.text_call.specs.AnswerText.{element_line, element_lines}
use Rattle.text_call.proofs.answer.put_elements.Goals as goal

pub loop-i-init : goal.loop-i-init
unfolding element_lines
loop-i-init c =
    let a = c.args in
    adds_rows_none a.lines.now (element_line a.word.now a.first a.elements.now)

pub loop-i-preserved : goal.loop-i-preserved
unfolding element_lines
loop-i-preserved c =
    let a = c.args in
    adds_rows_more (element_line a.word.now a.first a.elements.now) c.loop-i.i c.loop-i.invariant c.put.ensures.adds

pub returns : goal.returns
returns c =
    let a = c.args in
    let e : c.loop-i.i ≡ length a.elements.now = omega (arith, c.loop-i-test.false) in
    adds_as (ap (element_lines a.word.now a.first a.elements.now) e) c.loop-i.invariant
