use Rattle.wiedemann.specs.Projection.{word_term}
use Rattle.wiedemann.proofs.projection.dot.Given as goal

abbrev pub ghost-sum_by : goal.ghost-sum_by
ghost-sum_by a = word_term a.term.0.now a.term.1.now
