-- Places are written from the front, one after the other.
use Rattle.std.proofs.Common.{◌≡◌, ◌≤◌, length, drop}
use Rattle.test_io.proofs.numbers_of.Given as goal

abbrev pub invariant-loop-byte : goal.invariant-loop-byte
invariant-loop-byte l = (l.count ≤ length l.s) × (length l.s ≡ length l.initial.s) × (drop l.count l.s ≡ drop l.count l.initial.s)
