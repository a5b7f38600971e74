use mathlib.Core.Path.{sym}
use Prim.Native.Nat.{◌+◌}
use native.Mathlib.Nat.{mod-eq_of_lt}
use native.Mathlib.Omega.{arith}
use Rattle.meaning.specs.Field.{plus}
use Rattle.residue.specs.Prime.{is_modulus_le}
use Rattle.residue.specs.Numbers.{mod_eq_sub}
use Rattle.field.proofs.sum_below.Goals as goal

-- `field::sum_below` meets its contract: a sum below 2p is reduced by one difference.
pub overflow_add-s : goal.overflow_add-s
overflow_add-s c = omega (arith, is_modulus_le c.args.p c.requires.modulus)

pub returns-then-s-p : goal.returns-then-s-p
unfolding plus
returns-then-s-p c = sym (mod-eq_of_lt {n = c.args.a + c.args.b} (omega arith))

pub returns-else-s-p : goal.returns-else-s-p
unfolding plus
returns-else-s-p c = sym (mod_eq_sub (c.args.a + c.args.b) c.args.p (omega arith) (omega arith))
