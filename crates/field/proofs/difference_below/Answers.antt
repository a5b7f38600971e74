use mathlib.Core.Path.{sym}
use native.Mathlib.Omega.{arith}
use Rattle.meaning.specs.Field.{minus}
use Rattle.residue.specs.Numbers.{sub_mod_le, sub_mod_lt}
use Rattle.field.proofs.difference_below.Goals as goal

pub returns-then-b-a : goal.returns-then-b-a
unfolding minus
returns-then-b-a c = sym (sub_mod_le c.args.a c.args.b c.args.p c.if-b-a.true (omega arith))

pub returns-else-b-a : goal.returns-else-b-a
unfolding minus
returns-else-b-a c = sym (sub_mod_lt c.args.a c.args.b c.args.p c.if-b-a.false (omega arith))
