-- What a system that was taken stands for (src/system.rt).
--     plain s       A
--     operator s    AX
--     rows s        n
use Rattle.std.specs.Prelude.{ℕ}
use Rattle.meaning.specs.Matrix.{Matrix, scaled}
use Rattle.checks.specs.Slices.{matrix_of}
use Rattle.checks.specs.Slices as slices
use Rattle.solver.specs.declared.system.System.{System}

abbrev pub plain : System → Matrix
plain s = matrix_of s.a.now

abbrev pub operator : System → Matrix
operator s = scaled s.field.p (matrix_of s.a.now) s.scales.now

abbrev pub rows : System → ℕ
rows s = slices.rows s.a.now
