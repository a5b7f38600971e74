use native.Mathlib.Omega.{arith}
use Rattle.recurrence.specs.Factor.{fits_by}
use Rattle.recurrence.proofs.factor.Factors.fit.Goals as goal

pub returns : goal.returns
returns c = fits_by _ _ _ _ _ _ (omega arith) (omega arith) c.saturating_add-degree.ensures c.saturating_add.ensures
