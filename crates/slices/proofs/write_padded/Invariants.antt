use Rattle.laws.specs.Written.{Written}
use Rattle.meaning.specs.List.{at}
use Rattle.slices.proofs.write_padded.Given as goal

abbrev pub invariant-loop-i : goal.invariant-loop-i
invariant-loop-i l = Written l.initial.out 0 l.i (at l.source) l.out
