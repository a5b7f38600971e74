use Rattle.system_reader.proofs.Filling.{EntriesFilled}
use Rattle.system_reader.proofs.fill.fill_entries.Given as goal

-- `fill::fill_entries` meets its contract. The invariant is EntriesFilled.
abbrev pub invariant-loop-k : goal.invariant-loop-k
invariant-loop-k l =
    EntriesFilled l.text l.from l.count l.n l.initial.starts l.initial.columns l.initial.values l.starts l.columns l.values l.at l.above l.k
