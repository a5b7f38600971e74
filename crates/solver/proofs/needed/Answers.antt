use mathlib.Core.Path.{sym, ap, ◌∙◌}
use mathlib.Core.Bool.{cond}
use native.Mathlib.Omega.{arith}
use lib.ListN.{length}
use Rattle.solver.proofs.needed.Goals as goal

pub returns-then-all_ones : goal.returns-then-all_ones
returns-then-all_ones c = (sym (ap (λ t. cond t 0 (length c.args.scales.now)) (sym c.all_ones.ensures ∙ c.if-all_ones.true)), omega arith)

pub returns-else-all_ones : goal.returns-else-all_ones
returns-else-all_ones c = (sym (ap (λ t. cond t 0 (length c.args.scales.now)) (sym c.all_ones.ensures ∙ c.if-all_ones.false)), omega arith)
