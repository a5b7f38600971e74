use Rattle.system_reader.proofs.FillingPlaces.{PlacesFilled}
use Rattle.system_reader.proofs.fill.fill_placed.Given as goal

-- `fill::fill_placed` meets its contract. The invariant is PlacesFilled.
abbrev pub invariant-loop : goal.invariant-loop
invariant-loop l = PlacesFilled l.word l.text l.from l.count l.n l.none l.initial.out l.out l.at l.counter
