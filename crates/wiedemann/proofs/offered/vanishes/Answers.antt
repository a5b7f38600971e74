use Rattle.std.proofs.Common.{sym, ◌∙◌}
use Rattle.meaning.specs.Matrix.{product}
use Rattle.wiedemann.specs.Operator.{plain, rows}
use Rattle.wiedemann.specs.Horner.{vector_product}
use Rattle.wiedemann.specs.Offered.{zero_all}
use Rattle.wiedemann.proofs.offered.vanishes.Goals as goal

pub returns : goal.returns
returns c =
    let ax = c.args.ax.now in
    let w = c.args.w.now in
    let found = c.agrees.ensures in
    (found.0, found.1 ∙ sym (zero_all (product ax.m.p (plain ax) w) (rows ax) (vector_product ax.m.p (plain ax) w ax.valid.valid.positive).places))
