use Rattle.line_writer.specs.Adds.{Adds}
use Rattle.text_call.specs.AnswerText.{element_lines}
use Rattle.text_call.proofs.answer.put_elements.Given as goal

-- `answer::put_elements` meets its contract. The invariant: the lines of the first i elements are added.
abbrev pub invariant-loop-i : goal.invariant-loop-i
invariant-loop-i l = Adds l.initial.lines (element_lines l.word l.first l.elements l.i) l.lines
