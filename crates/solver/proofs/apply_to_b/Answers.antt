use mathlib.Core.Path.{◌∙◌}
use Prim.Native.Nat.{◌-◌}
use lib.ListN.{length}
use Rattle.meaning.specs.Matrix.{apply}
use Rattle.checks.specs.Matrix.{scaled_apply_refusal}
use Rattle.laws.specs.Refusal.{unless_refused_none}
use Rattle.checks.specs.Products.{products_scaled}
use Rattle.solver.specs.System.{plain, operator}
use Rattle.solver.proofs.Call.{made_by}
use Rattle.solver.proofs.apply_to_b.Goals as goal

pub returns : goal.returns
returns c =
    let a = c.args in
    let s = a.s.now in
    let number = scaled_apply_refusal s.field.p (plain s) s.scales.now a.g.now s.b.now a.vector.now a.work.now in
    let said = c.apply_scaled.ensures in (
      c.unwrap_or.ensures ∙ made_by c.apply_scaled.result _ _ _ c.requires said.writes ∙ products_scaled s.field.p (plain s) s.scales.now (length a.g.now - 1),
      said.out_after ∙ unless_refused_none number (apply s.field.p (operator s) a.g.now s.b.now) a.vector.now c.requires,
    )
