use borrow.Author.Rules.{rules}
use Rattle.refusal.specs.Number.{number_positive}
use Rattle.text_call.specs.Program.{shown_answer, shown_refused}
use Rattle.text_call.proofs.show.Goals as goal

pub returns-in-Ok : goal.returns-in-Ok
returns-in-Ok c = shown_answer c.requires c.in-Ok.ensures.refused c.in-Ok.ensures.called

pub returns-in-Err : goal.returns-in-Err
returns-in-Err c = search (rules, shown_refused c.requires c.in-Err.ensures.refused (number_positive c.in-Err.refusal) c.in-Err.ensures.called)
