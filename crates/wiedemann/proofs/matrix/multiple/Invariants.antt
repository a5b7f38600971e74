use Rattle.meaning.specs.List.{at}
use Rattle.meaning.specs.Field.{times}
use Rattle.laws.specs.Written.{Written}
use Rattle.wiedemann.proofs.matrix.multiple.Given as goal

abbrev pub invariant-loop-i : goal.invariant-loop-i
invariant-loop-i l = Written l.initial.out 0 l.i (λ k. times l.m.p l.c (at l.v k)) l.out
