use Rattle.std.proofs.Common.{◌≡◌, ◌+◌}
use Rattle.meaning.specs.List.{all, at}
use Rattle.primality.specs.Blocks.{misses}
use Rattle.primality.proofs.blocks.none_divides.Given as goal

abbrev pub invariant-loop-j : goal.invariant-loop-j
invariant-loop-j l = l.none ≡ all l.j (λ j. misses l.p l.limit (at l.inverses (l.from + j)))
