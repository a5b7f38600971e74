use mathlib.Core.Path.{sym, ap, ◌∙◌}
use Rattle.wiedemann.specs.Turns.{region_at, region_first, region_odd, region_even}
use Rattle.wiedemann.proofs.pass.region.Goals as goal

pub returns-then-i-eq0 : goal.returns-then-i-eq0
returns-then-i-eq0 c = let a = c.args in sym (ap (region_at a.n) c.if-i-eq0.true ∙ region_first a.n)

pub returns-then-i-eq1 : goal.returns-then-i-eq1
returns-then-i-eq1 c = let a = c.args in sym (region_odd a.n a.i c.if-i-eq1.true)

pub returns-else-i-eq1 : goal.returns-else-i-eq1
returns-else-i-eq1 c = let a = c.args in sym (region_even a.n a.i c.if-i-eq0.false c.if-i-eq1.false)
