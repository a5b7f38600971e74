use mathlib.Core.Path.{ap, ◌∙◌}
use Rattle.meaning.specs.Answer.{refused_text}
use Rattle.line_writer.specs.Written.{wrote_line, wrote_as}
use Rattle.text_call.specs.AnswerText.{refused_line}
use Rattle.text_call.proofs.put_refused.Goals as goal

pub returns : goal.returns
returns c =
    let number = c.from-2.ensures ∙ c.from.ensures in
    wrote_as (refused_line _ ∙ ap refused_text number) (wrote_line c.put_line.ensures.value c.put_line.ensures.out_after)
