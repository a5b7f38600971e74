use Prim.Native.Nat.{◌+◌}
use Rattle.meaning.specs.List.{at}
use Rattle.meaning.specs.Field.{minus, times}
use Rattle.laws.specs.Written.{Written}
use Rattle.recurrence.proofs.steps.subtract.Given as goal

-- `recurrence::steps::subtract` meets its contract: t lies after what is written of q.
abbrev pub invariant-loop-i : goal.invariant-loop-i
invariant-loop-i l = Written l.initial.work l.q l.i (λ j. minus l.m.p (at l.initial.work (l.q + j)) (times l.m.p l.factor (at l.initial.work (l.t + j)))) l.work
