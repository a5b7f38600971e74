use Rattle.laws.specs.List.{table_of}
use Rattle.slices.proofs.reverse.Goals as goal

pub returns : goal.returns
returns c =
    table_of 0 _ _ _ c.reverse.ensures.len (λ k h. c.reverse.ensures.by_index k 0 h)
