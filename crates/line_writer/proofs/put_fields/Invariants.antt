use Rattle.std.proofs.Common.{◌≡◌, ◌+◌, length, take}
use Rattle.line_writer.specs.Placed.{placed}
use Rattle.line_writer.specs.Written.{fields}
use Rattle.line_writer.proofs.put_fields.Given as goal

-- `line_writer::put_fields` meets its contract. The loop's invariant: the fields so far are written.
abbrev pub invariant-loop-k : goal.invariant-loop-k
invariant-loop-k l =
    (length l.out ≡ length l.initial.out)
    × (l.next ≡ l.at + length (fields (take l.k-index l.numbers)))
    × (l.out ≡ placed l.initial.out l.at (fields (take l.k-index l.numbers)))
