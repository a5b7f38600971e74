use Rattle.recurrence.specs.Factor.{Descending}
use Prim.Native.Nat.{◌+◌, ◌≤◌}
use Rattle.recurrence.proofs.factor.multiply_within.Given as goal

abbrev pub invariant-loop-k : goal.invariant-loop-k
invariant-loop-k l = let x = l.factors in (l.k ≤ x.d + x.t + 1) × Descending l.m.p l.initial.work x.d x.f x.t l.k l.work
