use Rattle.meaning.specs.Matrix.{matrix}
use Rattle.meaning.specs.Solver.{solve}
use Rattle.meaning.specs.Calls.{solver_refusal}
use Rattle.host.proofs.runs.filzeur_solve.Goals as goal

pub returns : goal.returns
returns c =
    let at = c.args in
    let A = matrix at.starts.now at.columns.now at.values.now in
    let number = solver_refusal at.p A at.scales.now at.b.now at.words.now at.window at.vector.now at.polynomial.now at.work.now in
    let done = c.solve.ensures in
    let e = c.from.ensures number (solve at.p A at.scales.now at.b.now at.words.now at.window) done.says in
    record { verdict = e; leaves = done.leaves }
