use Rattle.line_writer.specs.Adds.{Adds}
use Rattle.text_call.specs.AnswerText.{bill_lines}
use Rattle.text_call.proofs.answer.put_passes.Given as goal

-- `answer::put_passes` meets its contract. The invariant: the lines of the first i passes are added.
abbrev pub invariant-loop-i : goal.invariant-loop-i
invariant-loop-i l = Adds l.initial.lines (bill_lines l.bill l.i) l.lines
