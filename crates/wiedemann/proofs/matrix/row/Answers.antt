use Rattle.std.proofs.Common.{rules}
use Rattle.wiedemann.proofs.matrix.row.Goals as goal

pub sum_by-requires : goal.sum_by-requires
sum_by-requires c κs within = search rules depth 12 fits 20000
