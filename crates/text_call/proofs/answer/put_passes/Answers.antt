use mathlib.Core.Path.{◌≡◌, ap}
use native.Mathlib.Omega.{arith}
use Rattle.meaning.specs.List.{bytes}
use Rattle.line_writer.specs.Adds.{adds_as, adds_rows_none, adds_rows_more}
use Rattle.text_call.specs.AnswerText.{bill_line, bill_lines}
use Rattle.text_call.proofs.answer.put_passes.Goals as goal

pub loop-i-init : goal.loop-i-init
unfolding bill_lines
loop-i-init c = adds_rows_none c.args.lines.now (bill_line 1 c.args.bill.now)

pub loop-i-preserved : goal.loop-i-preserved
unfolding bill_lines bytes
loop-i-preserved c =
    adds_rows_more (bill_line 1 c.args.bill.now) c.loop-i.i c.loop-i.invariant c.put.ensures.adds

pub returns : goal.returns
returns c =
    let e : c.loop-i.i ≡ c.args.passes = omega (arith, c.loop-i-test.false) in
    adds_as (ap (bill_lines c.args.bill.now) e) c.loop-i.invariant
