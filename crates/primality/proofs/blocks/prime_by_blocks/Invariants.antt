use Rattle.std.proofs.Common.{◌≤◌}
use Rattle.meaning.specs.List.{at}
use Rattle.primality.proofs.Walk.{Free}
use Rattle.primality.proofs.blocks.prime_by_blocks.Given as goal

-- No number from 2 up to the start of block i divides p.
abbrev pub invariant-loop-i : goal.invariant-loop-i
invariant-loop-i l = (5 ≤ at l.starts l.i) × Free l.p (at l.starts l.i)
