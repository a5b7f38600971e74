use mathlib.Core.Path.{ap}
use mathlib.Core.Bool.{◌&&◌}
use Prim.Native.Nat.{◌-◌}
use lib.Dec.{eqb, leb}
use lib.ListN.{length}
use Rattle.meaning.specs.List.{at}
use Rattle.meaning.specs.Refusal.{starts_taken}
use Rattle.checks.proofs.starts_taken.Goals as goal

pub returns : goal.returns
unfolding starts_taken
returns c =
    let a = c.args.a.now in
    let entries = length a.columns.now in
    ap (λ rise. eqb (at a.starts.now 0) 0 && rise && eqb (at a.starts.now (length a.starts.now - 1)) entries && eqb entries (length a.values.now) && leb entries 65536)
    c.rising.ensures
