use mathlib.Core.Path.{◌≡◌, sym}
use Prim.Native.Nat.{ℕ, ◌*◌, ◌%◌, ◌<◌}
use native.Mathlib.Nat.{mod-lt}
use native.Mathlib.Omega.{arith}
use Rattle.meaning.specs.Field.{inverse}
use Rattle.residue.specs.Inverse.{inverse_none}
use Rattle.field.proofs.Cofactors.{start, turn_low, turn_high, low_fits, high_fits, found_low, found_high, none_low, none_high}
use Rattle.field.proofs.euclid.inverse_by_euclid.Goals as goal

-- modulo 0 and 1 nothing is 1
none-small : (p a : ℕ) → p < 2 → inverse p a ≡ p
none-small p a l = inverse_none p a (λ y k e. omega (arith, mod-lt (a * y) {m = p} (omega arith)))

pub returns-then-p-lt2 : goal.returns-then-p-lt2
returns-then-p-lt2 c = sym (none-small c.args.p c.args.a c.if-p-lt2.true)

pub loop-v-init : goal.loop-v-init
loop-v-init c = (start c.args.p c.args.a, omega arith)

pub overflow_mul-s : goal.overflow_mul-s
overflow_mul-s c = omega (arith, low_fits (turn_low c.loop-v.invariant.0) (omega arith))

pub overflow_add-s : goal.overflow_add-s
overflow_add-s c = omega (arith, low_fits (turn_low c.loop-v.invariant.0) (omega arith))

pub returns-then-u-eq0 : goal.returns-then-u-eq0
returns-then-u-eq0 c = sym (none_low (omega arith) (turn_low c.loop-v.invariant.0) c.if-u-eq0.true (omega arith))

pub overflow_sub-result : goal.overflow_sub-result
overflow_sub-result c = omega (arith, low_fits (turn_low c.loop-v.invariant.0) (omega arith))

pub returns-then-u-eq1 : goal.returns-then-u-eq1
returns-then-u-eq1 c = sym (found_low (omega arith) (turn_low c.loop-v.invariant.0) c.if-u-eq1.true (omega arith))

pub overflow_mul-t : goal.overflow_mul-t
overflow_mul-t c = omega (arith, high_fits (turn_high (turn_low c.loop-v.invariant.0)) (omega arith))

pub overflow_add-t : goal.overflow_add-t
overflow_add-t c = omega (arith, high_fits (turn_high (turn_low c.loop-v.invariant.0)) (omega arith))

pub loop-v-smaller : goal.loop-v-smaller
loop-v-smaller c =
    let v = c.loop-v.v in
    let r : c.loop-v.u % v < v = mod-lt c.loop-v.u (omega arith) in
    omega (arith, mod-lt v {m = c.loop-v.u % v} (omega arith))

pub loop-v-preserved : goal.loop-v-preserved
loop-v-preserved c = (turn_high (turn_low c.loop-v.invariant.0), omega arith)

pub returns-then-v-eq1 : goal.returns-then-v-eq1
returns-then-v-eq1 c = sym (found_high (omega arith) c.loop-v.invariant.0 c.if-v-eq1.true c.loop-v.invariant.1)

pub returns-else-v-eq1 : goal.returns-else-v-eq1
returns-else-v-eq1 c = sym (none_high (omega arith) c.loop-v.invariant.0 (omega arith) c.loop-v.invariant.1)
