use borrow.Author.Tests.{lt-ltb, le-ltb}
use Rattle.field.proofs.are_elements.Goals as goal

pub returns-then-a-p : goal.returns-then-a-p
returns-then-a-p c = rw (lt-ltb c.args.a c.args.p c.if-a-p.true)

pub returns-else-a-p : goal.returns-else-a-p
returns-else-a-p c = rw (le-ltb c.args.a c.args.p c.if-a-p.false)
