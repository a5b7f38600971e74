use Rattle.std.proofs.Common.{sym, subst, arith}
use Rattle.std.proofs.lemmas.Grind.{common_steps}
use Rattle.std.proofs.lemmas.Option.{gets}
use Rattle.system_reader.specs.Fields.{NumbersAt, end_missing}
use Rattle.system_reader.proofs.Steps.{fields_fail, fields_end, fields_open}
use Rattle.system_reader.proofs.numeral.fields.Goals as goal

pub returns-in_err-number : goal.returns-in_err-number
returns-in_err-number g c = subst (NumbersAt c.args.text.now c.args.from g.row.N) (sym c.from_residual.ensures)
    (fields_fail _ _ _ _ _ _ c.loop-i.invariant c.loop-i-test.true c.in_err-number.ensures)

pub returns-then-eq : goal.returns-then-eq
returns-then-eq g c =
    fields_end _ _ _ _ _ _ c.loop-i.invariant c.loop-i-test.false (grind (arith, common_steps, gets)) (grind (arith, common_steps, gets))

pub returns-else-eq : goal.returns-else-eq
returns-else-eq g c =
    fields_open _ _ _ _ _ _ c.loop-i.invariant c.loop-i-test.false (end_missing c.args.text.now c.loop-i.next (grind (arith, common_steps, gets)))
