use Rattle.std.proofs.Common.{arith}
use Rattle.std.proofs.lemmas.Grind.{common_steps}
use Rattle.std.proofs.lemmas.Option.{gets}
use Rattle.system_reader.specs.Fields.{field_here, field_missing}
use Rattle.system_reader.proofs.numeral.field.Goals as goal

pub returns-then-eq : goal.returns-then-eq
returns-then-eq c =
    field_here c.args.text.now c.args.from (grind (arith, common_steps, gets)) (grind (arith, common_steps, gets)) c.numeral.result c.numeral.ensures

pub returns-else-eq : goal.returns-else-eq
returns-else-eq c = field_missing c.args.text.now c.args.from (grind (arith, common_steps, gets))
