use Rattle.std.proofs.Common.{◌*◌, ◌+◌}
use Rattle.modular.specs.Sums.{Summed, Grouped}
use Rattle.wiedemann.proofs.sums.sum_by.Given as goal

abbrev pub invariant-loop-group : goal.invariant-loop-group
invariant-loop-group g l = Summed l.initial.sum l.sum l.from (l.from + l.group * g.row.GROUP) g.value

abbrev pub invariant-loop-j : goal.invariant-loop-j
invariant-loop-j g l = Grouped g.row.GROUP l.first l.j l.word g.value

abbrev pub invariant-loop-k : goal.invariant-loop-k
invariant-loop-k g l = Summed l.fn.total l.sum l.from l.k g.value
