use Rattle.host.proofs.elements.filzeur_product_of.Goals as goal

pub returns : goal.returns
returns c = c.from.ensures _ _ c.product.ensures
