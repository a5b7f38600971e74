use mathlib.Core.Path.{◌≡◌, sym, subst}
use Rattle.meaning.specs.Matrix.{matrix, entry_count}
use Rattle.meaning.specs.Refusal.{unless_refused}
use Rattle.laws.specs.Products.{is_null_by_entry}
use Rattle.host.specs.declared.offered.Yes.{Yes}
use Rattle.host.proofs.offered.filzeur_is_null.Goals as goal

pub returns : goal.returns
returns c =
    let a = c.args in
    let A = matrix a.starts.now a.columns.now a.values.now in
    let e = c.from.ensures _ _ _ c.is_null.ensures in
    let by_entry = subst (λ (x : Yes). x.multiplied ≡ unless_refused x.refusal (entry_count A) 0) (sym e) (is_null_by_entry a.p A a.w.now) in
    record { value = e; multiplied_value = by_entry }
