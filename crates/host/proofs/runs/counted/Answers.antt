use mathlib.Core.Path.{refl}
use Rattle.host.proofs.runs.counted.Goals as goal

pub returns : goal.returns
returns c = refl
