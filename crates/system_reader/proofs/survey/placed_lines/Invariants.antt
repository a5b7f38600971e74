use Prim.Native.Nat.{◌-◌}
use lib.ListN.{length}
use Rattle.system_reader.specs.Places.{PlacesPassed}
use Rattle.system_reader.proofs.survey.placed_lines.Given as goal

-- `survey::placed_lines` meets its contract. The invariant is PlacesPassed.
abbrev pub invariant-loop-l : goal.invariant-loop-l
invariant-loop-l l =
    PlacesPassed l.word l.text l.from l.p l.n l.group.next l.group.count l.above l.group.places l.group.values l.ones

abbrev pub decreases-loop-l : goal.decreases-loop-l
decreases-loop-l l = length l.text - l.group.next
