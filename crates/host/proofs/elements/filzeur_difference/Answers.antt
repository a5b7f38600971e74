use Rattle.host.proofs.elements.filzeur_difference.Goals as goal

pub returns : goal.returns
returns c = c.from.ensures _ _ c.difference.ensures
