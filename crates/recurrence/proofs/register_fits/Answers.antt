use Rattle.recurrence.specs.OneStep.{fits_by}
use Rattle.recurrence.proofs.register_fits.Goals as goal

pub returns : goal.returns
returns c = fits_by _ _ _ _ _ c.requires c.saturating_add-length.ensures c.saturating_add.ensures
