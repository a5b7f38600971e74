use mathlib.Core.Path.{◌≡◌, sym, subst}
use Rattle.meaning.specs.Matrix.{matrix, entry_count}
use Rattle.meaning.specs.Refusal.{unless_refused}
use Rattle.laws.specs.Products.{product_by_entry}
use Rattle.host.specs.declared.products.Written.{Written}
use Rattle.host.proofs.products.filzeur_product.Goals as goal

pub returns : goal.returns
returns c =
    let a = c.args in
    let A = matrix a.starts.now a.columns.now a.values.now in
    let e = c.from.ensures _ _ _ c.product.ensures.writes in
    let by_entry = subst (λ (x : Written). x.multiplied ≡ unless_refused x.refusal (entry_count A) 0) (sym e) (product_by_entry a.p A a.v.now a.out.now) in
    record { value = e; multiplied_value = by_entry; out_after = c.product.ensures.out_after }
