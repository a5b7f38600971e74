use mathlib.Core.Path.{refl}
use Prim.Native.Nat.{◌*◌}
use native.Mathlib.Nat.{mul-le-mul, mod-lt}
use native.Mathlib.Omega.{arith}
use Rattle.meaning.specs.Field.{times}
use Rattle.residue.specs.Prime.{is_modulus_le}
use Rattle.field.proofs.product_below.Goals as goal

-- `field::product_below` meets its contract: the product of two numbers below 2³¹ fits 64 bits, and its remainder is below p.
pub overflow_mul-result : goal.overflow_mul-result
overflow_mul-result c =
    let l = is_modulus_le c.args.p c.requires.modulus in
    omega (arith, mul-le-mul {n₁ = c.args.a} {m₁ = c.args.b} {n₂ = 2147483647} {m₂ = 2147483647} (omega arith) (omega arith))

pub overflow_cast-result-3 : goal.overflow_cast-result-3
overflow_cast-result-3 c = omega (arith, mod-lt (c.args.a * c.args.b) {m = c.args.p} (omega arith))

pub returns : goal.returns
unfolding times
returns c = refl
