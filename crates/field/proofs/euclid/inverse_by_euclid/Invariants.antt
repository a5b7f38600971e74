use Prim.Native.Nat.{◌<◌}
use Rattle.field.proofs.Cofactors.{Euclid}
use Rattle.field.proofs.euclid.inverse_by_euclid.Given as goal

-- `field::euclid::inverse_by_euclid` meets its contract. The loop's invariant is the Euclidean algorithm's (proofs/Cofactors.antt), with u above 1; the measure
-- is v.
abbrev pub invariant-loop-v : goal.invariant-loop-v
invariant-loop-v l = Euclid l.p l.a l.u l.v l.s l.t × (1 < l.u)

abbrev pub decreases-loop-v : goal.decreases-loop-v
decreases-loop-v l = l.v
