use Rattle.checks.specs.Valid.{term}
use Rattle.wiedemann.proofs.matrix.row.Given as goal

abbrev pub ghost-sum_by : goal.ghost-sum_by
ghost-sum_by a = term a.term.0.now a.term.1.now a.term.2.now
