use Rattle.std.proofs.Common.{arith}
use Rattle.meaning.specs.List.{at}
use Rattle.modular.specs.Words.{residues_fit}
use Rattle.wiedemann.proofs.matrix.entry.Goals as goal

pub returns : goal.returns
returns c =
    let a = c.args in
    let known = c.requires.entries in
    let k = c.requires.k_in_bounds in
    let j = at a.columns.now a.k in (
      c.times.ensures,
      rw c.times.ensures (residues_fit (at a.values.now a.k) (at a.v.now j) (known.value a.k (omega (arith, known.paired, k))) (known.element j (known.column a.k k))),
    )
