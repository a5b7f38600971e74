use Rattle.std.proofs.Common.{refl}
use Rattle.laws.specs.List.{table_of}
use Rattle.slices.proofs.clear.Goals as goal

pub returns : goal.returns
returns c = table_of 0 _ _ _ c.fill.ensures.len (λ k h. c.fill.ensures.clones k 0 h refl)
