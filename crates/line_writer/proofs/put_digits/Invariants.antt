use mathlib.Core.Path.{◌≡◌}
use Prim.Native.Nat.{◌+◌, ◌<◌}
use lib.ListN.{length}
use Rattle.meaning.specs.Text.{decimal}
use Rattle.line_writer.specs.Placed.{placed}
use Rattle.line_writer.proofs.put_digits.Given as goal

-- `line_writer::put_digits` meets its contract. The loop's invariant: with the digits left written too, the slice holds k's. The measure is
-- what is left of the number.
abbrev pub invariant-loop-rest : goal.invariant-loop-rest
invariant-loop-rest l =
    (length l.out ≡ length l.initial.out)
    × (l.left + 1 ≡ length (decimal l.rest))
    × (l.left < l.digits)
    × (placed l.out l.at (decimal l.rest) ≡ placed l.initial.out l.at (decimal l.k))

abbrev pub decreases-loop-rest : goal.decreases-loop-rest
decreases-loop-rest l = l.rest
