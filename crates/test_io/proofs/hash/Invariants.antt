-- The hash so far is that of the elements so far.
use Rattle.std.proofs.Common.{◌≡◌, ℕ, List, take}
use Rattle.std.specs.List.{AllZip}
use Rattle.test_io.specs.Hash.{hash_from}
use Rattle.test_io.proofs.hash.Given as goal

abbrev pub invariant-loop-x : goal.invariant-loop-x
invariant-loop-x g l = (numbers : List ℕ) × AllZip g.T.Into.converts (take l.x-index l.s) numbers × (l.h ≡ hash_from 0 numbers)
