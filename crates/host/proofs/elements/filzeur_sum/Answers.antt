use Rattle.host.proofs.elements.filzeur_sum.Goals as goal

pub returns : goal.returns
returns c = c.from.ensures _ _ c.sum.ensures
