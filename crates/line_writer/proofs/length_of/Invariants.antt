use Rattle.std.proofs.Common.{◌≡◌, ◌+◌, length, take}
use Rattle.line_writer.specs.Written.{capped, fields}
use Rattle.line_writer.proofs.length_of.Given as goal

-- `line_writer::length_of` meets its contract. The loop's invariant: the word, byte 10 and the fields so far are counted.
abbrev pub invariant-loop-k : goal.invariant-loop-k
invariant-loop-k l = l.bytes ≡ capped (l.word + 1 + length (fields (take l.k-index l.numbers)))
