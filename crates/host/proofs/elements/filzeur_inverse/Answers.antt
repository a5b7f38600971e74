use Rattle.host.proofs.elements.filzeur_inverse.Goals as goal

pub returns : goal.returns
returns c = c.from.ensures _ _ c.inverse.ensures
