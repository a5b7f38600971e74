use mathlib.Core.Path.{ap}
use mathlib.Core.Bool.{◌&&◌}
use Prim.Native.Nat.{◌-◌}
use lib.ListN.{length}
use Rattle.meaning.specs.Refusal.{scale_count_taken}
use Rattle.checks.proofs.shape_taken.Goals as goal

pub returns : goal.returns
returns c =
    ap (λ starts. starts && scale_count_taken (length c.args.a.now.starts.now - 1) (length c.args.scales.now)) c.starts_taken.ensures
