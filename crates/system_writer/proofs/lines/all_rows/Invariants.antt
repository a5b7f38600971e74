use Rattle.meaning.specs.List.{flat, table}
use Rattle.meaning.specs.Text.{write_row}
use Rattle.line_writer.specs.Adds.{Adds}
use Rattle.checks.specs.Slices.{matrix_of}
use Rattle.system_writer.proofs.lines.all_rows.Given as goal

-- `lines::all_rows` meets its contract. The invariant: the lines of the rows below i are added.
abbrev pub invariant-loop-i : goal.invariant-loop-i
invariant-loop-i l = Adds l.initial.lines (flat (table l.i (write_row (matrix_of l.a)))) l.lines
