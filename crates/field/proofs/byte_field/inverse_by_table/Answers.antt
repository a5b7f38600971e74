use mathlib.Core.Path.{sym, ap, ◌∙◌}
use Prim.Native.Nat.{◌%◌}
use native.Mathlib.Nat.{mod-lt}
use native.Mathlib.Omega.{arith}
use Rattle.meaning.specs.Field.{inverse}
use Rattle.residue.specs.Inverse.{inverse_mod, inverse_zero}
use Rattle.field.proofs.byte_field.inverse_by_table.Goals as goal

-- `byte_field::inverse_by_table` meets its contract: a may be reduced first, and the table agrees with the inverse.
pub returns-then-element-eq0 : goal.returns-then-element-eq0
returns-then-element-eq0 c =
    let a = c.args.a in
    sym (inverse_zero 251) ∙ ap (inverse 251) (sym c.if-element-eq0.true) ∙ inverse_mod 251 a

pub returns : goal.returns
returns c =
    let a = c.args.a in
    c.from.ensures ∙ c.byte_inverses-table.ensures.agrees (a % 251) (omega (arith, c.if-element-eq0.false)) (mod-lt a (omega arith)) ∙ inverse_mod 251 a
