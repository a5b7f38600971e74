use mathlib.Core.Path.{ap₂}
use mathlib.Core.Bool.{◌&&◌}
use Rattle.checks.proofs.all_values_taken.Goals as goal

pub returns : goal.returns
returns c = ap₂ ◌&&◌ c.values_taken.ensures c.values_taken-2.ensures
