use Rattle.recurrence.specs.Convolution.{cross}
use Rattle.recurrence.proofs.convolution.crossed.Given as goal

abbrev pub ghost-sum_by : goal.ghost-sum_by
ghost-sum_by a = cross a.term.0.now a.term.1.now a.term.2.now
