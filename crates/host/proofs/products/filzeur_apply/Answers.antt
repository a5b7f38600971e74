use mathlib.Core.Path.{◌≡◌, sym, subst}
use Prim.Native.Nat.{◌-◌, ◌*◌}
use lib.ListN.{length}
use Rattle.meaning.specs.Matrix.{matrix, entry_count}
use Rattle.meaning.specs.Refusal.{unless_refused}
use Rattle.laws.specs.Products.{apply_by_entry}
use Rattle.host.specs.declared.products.Written.{Written}
use Rattle.host.proofs.products.filzeur_apply.Goals as goal

pub returns : goal.returns
returns c =
    let a = c.args in
    let A = matrix a.starts.now a.columns.now a.values.now in
    let e = c.from.ensures _ _ _ c.apply.ensures.writes in
    let by_entry = subst (λ (x : Written). x.multiplied ≡ unless_refused x.refusal ((length a.g.now - 1) * entry_count A) 0) (sym e) (apply_by_entry a.p A a.g.now a.v.now a.out.now a.work.now) in
    record { value = e; multiplied_value = by_entry; out_after = c.apply.ensures.out_after; work_unchanged = c.apply.ensures.work_unchanged }
