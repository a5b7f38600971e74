use Rattle.meaning.specs.List.{flat, table}
use Rattle.line_writer.specs.Adds.{Adds}
use Rattle.system_writer.specs.Writes.{place_line}
use Rattle.system_writer.proofs.lines.place_lines.Given as goal

-- `lines::place_lines` meets its contract. The invariant: the lines of the elements below i are added.
abbrev pub invariant-loop-i : goal.invariant-loop-i
invariant-loop-i l = Adds l.initial.lines (flat (table l.i (place_line l.letter l.v))) l.lines
