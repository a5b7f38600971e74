-- The matrix that three slices make up, and its size.
use Rattle.std.specs.Prelude.{ℕ, ◌-◌, length}
use Rattle.meaning.specs.Matrix as meaning
use Rattle.checks.specs.declared.matrix.Matrix.{Matrix}

abbrev pub matrix_of : Matrix → meaning.Matrix
matrix_of a = meaning.matrix a.starts.now a.columns.now a.values.now

abbrev pub rows : Matrix → ℕ
rows a = length a.starts.now - 1
