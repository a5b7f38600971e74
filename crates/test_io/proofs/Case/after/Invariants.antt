-- Each turn passes one list, and no place passes the end.
use Rattle.std.proofs.Common.{◌≡◌, ◌≤◌, length}
use Rattle.test_io.specs.Lists.{place_after}
use Rattle.test_io.proofs.Case.after.Given as goal

abbrev pub invariant-loop-k : goal.invariant-loop-k
invariant-loop-k l = (l.at ≤ length l.self.memory.now) × (l.at ≡ place_after l.self.memory.now l.self.from l._k)
