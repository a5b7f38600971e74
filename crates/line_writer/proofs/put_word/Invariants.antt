use mathlib.Core.Path.{◌≡◌}
use lib.ListN.{length, take}
use Rattle.line_writer.specs.Placed.{placed}
use Rattle.line_writer.proofs.put_word.Given as goal

-- the slice holds the word's first i bytes at their place
abbrev pub invariant-loop-i : goal.invariant-loop-i
invariant-loop-i l = (length l.out ≡ length l.initial.out) × (l.out ≡ placed l.initial.out l.at (take l.i l.word))
