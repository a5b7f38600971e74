use Prim.Native.Nat.{◌-◌}
use lib.ListN.{length}
use Rattle.system_reader.specs.Places.{EntriesPassed}
use Rattle.system_reader.proofs.survey.entry_lines.Given as goal

-- `survey::entry_lines` meets its contract. The invariant is EntriesPassed.
abbrev pub invariant-loop-l : goal.invariant-loop-l
invariant-loop-l l = EntriesPassed l.text l.from l.p l.n l.group.next l.group.count l.above l.left l.group.places l.group.values

abbrev pub decreases-loop-l : goal.decreases-loop-l
decreases-loop-l l = length l.text - l.group.next
