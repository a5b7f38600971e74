use mathlib.Core.Path.{◌≡◌, sym}
use Prim.Native.Nat.{ℕ, ◌+◌, ◌*◌, ◌%◌, ◌≤◌, ◌<◌}
use native.Mathlib.Nat.{mul-le-mul_left}
use native.Mathlib.Omega.{arith}
use Rattle.residue.specs.Prime.{wheel_end, is_prime_Prime, is_prime_divided}
use Rattle.primality.proofs.wheel.prime_by_wheel.Goals.{then-p-d-eq0-via-then-p-d-eq0, then-p-d-eq0-via-else-p-d-eq0+then-p-d-eq0-2}
use Rattle.primality.proofs.wheel.prime_by_wheel.Goals as goal

-- d and d + 2 are below p
below : (d p : ℕ) → d % 6 ≡ 5 → d * d ≤ p → d + 2 < p
below d p e h = let m : 5 ≤ d = omega arith in omega (arith, mul-le-mul_left d m)

pub returns-then-p-d-eq0 : goal.returns-then-p-d-eq0
returns-then-p-d-eq0 c =
    let l = below _ _ c.loop-d.invariant.0 c.loop-d-test.true in
    elim c.then-p-d-eq0.branch [
      | then-p-d-eq0-via-then-p-d-eq0 w ↦ sym (is_prime_divided _ _ (omega arith) (omega arith) w.if-p-d-eq0.true)
      | then-p-d-eq0-via-else-p-d-eq0+then-p-d-eq0-2 w ↦ sym (is_prime_divided _ _ (omega arith) l w.if-p-d-eq0-2.true)
    ]

pub returns : goal.returns
returns c =
    let pre = c.requires in
    sym ((is_prime_Prime _).1 (wheel_end _ _ pre.0 pre.2 pre.3 c.loop-d.invariant.2 c.loop-d-test.false))
