use Prim.Native.Nat.{◌-◌}
use Rattle.line_writer.specs.Adds.{Adds}
use Rattle.system_writer.specs.Writes.{row_text}
use Rattle.system_writer.proofs.lines.row_lines.Given as goal

-- `lines::row_lines` meets its contract. The invariant: the lines of the entries below k are added.
abbrev pub invariant-loop-k : goal.invariant-loop-k
invariant-loop-k l = Adds l.initial.lines (row_text l.columns l.values l.row l.from (l.k - l.from)) l.lines
