use Rattle.system_reader.proofs.Steps.{FieldsBegun}
use Rattle.system_reader.proofs.numeral.fields.Given as goal

abbrev pub invariant-loop-i : goal.invariant-loop-i
invariant-loop-i g l = FieldsBegun l.text l.from g.row.N l.numbers l.i l.next
