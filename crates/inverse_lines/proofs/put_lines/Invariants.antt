use Rattle.std.proofs.Common.{◌-◌}
use Rattle.meaning.specs.List.{table, flat}
use Rattle.line_writer.specs.Adds.{Adds}
use Rattle.inverse_lines.specs.Printed.{line_at}
use Rattle.inverse_lines.proofs.put_lines.Given as goal

-- `inverse_lines::put_lines` meets its contract. The invariant: the lines of the elements so far are added.
abbrev pub invariant-loop-element : goal.invariant-loop-element
invariant-loop-element l = Adds l.initial.lines (flat (table (l.element - 1) line_at)) l.lines
