use mathlib.Core.Path.{◌≡◌}
use Prim.Native.Nat.{◌-◌, ◌%◌, ◌≤◌}
use Rattle.residue.specs.Prime.{WheelFree}
use Rattle.primality.proofs.wheel.prime_by_wheel.Given as goal

-- `primality::wheel::prime_by_wheel` meets its contract. The loop's invariant: d leaves 5 modulo 6, is at most 6 past the root of the largest modulus, and no
-- 6k ± 1 from 5 to d − 1 divides p.
abbrev pub invariant-loop-d : goal.invariant-loop-d
invariant-loop-d l = (l.d % 6 ≡ 5) × (l.d ≤ 46346) × WheelFree l.p l.d

abbrev pub decreases-loop-d : goal.decreases-loop-d
decreases-loop-d l = 46352 - l.d
