use Rattle.std.proofs.lemmas.Result.{err_from_is_err_and}
use Rattle.solver.specs.Run.{system_of_law, used_checked, closable}
use Rattle.solver.specs.Verdict.{run_passed, closed, found_used}
use Rattle.solver.proofs.Call.{refused, taken}
use Rattle.laws.specs.Accepted.{call_accepted}
use Rattle.checks.specs.Slices.{matrix_of}
use Prim.Native.Nat.{◌-◌}
use native.Mathlib.Nat.{sub-zero}
use native.Mathlib.Omega.{arith}
use mathlib.Core.Path.{sym, ◌∙◌}
use Rattle.solver.proofs.solve.Goals as goal

pub returns-in_err-check_solve : goal.returns-in_err-check_solve
returns-in_err-check_solve c =
    let a = c.args in
    let exit = err_from_is_err_and c.from_residual.result c.from_residual.ensures.1 in
    rw (exit.1, exit.2)
    (refused a.field.p (matrix_of a.a.now) a.scales.now a.b.now a.words.now a.window a.vector.now a.polynomial.now a.bill.now a.work.now
    c.in_err-check_solve.field-0.0 (sym c.in_err-check_solve.ensures))

pub invariant_of-system : goal.invariant_of-system
invariant_of-system c =
    let a = c.args in
    let A = matrix_of a.a.now in
    record {
      checked =
          used_checked c.needed.result c.needed.ensures.0
          (system_of_law a.field.p A a.scales.now a.b.now a.words.now a.window
          (run_passed a.field.p A a.scales.now a.b.now a.words.now a.window a.vector.now a.polynomial.now a.work.now (sym c.in_ok-check_solve.ensures)));
    }

pub run-c-requires : goal.run-c-requires
run-c-requires c =
    let a = c.args in
    let t = call_accepted a.field.p (matrix_of a.a.now) a.scales.now a.b.now a.words.now a.window a.vector.now a.polynomial.now a.work.now (sym c.in_ok-check_solve.ensures) in
    (t.run.words_taken_law, t.room)

pub answer-requires : goal.answer-requires
answer-requires c =
    let a = c.args in
    let A = matrix_of a.a.now in
    let passed = sym c.in_ok-check_solve.ensures in
    let t = call_accepted a.field.p A a.scales.now a.b.now a.words.now a.window a.vector.now a.polynomial.now a.work.now passed in
    let system = used_checked c.needed.result c.needed.ensures.0 (system_of_law a.field.p A a.scales.now a.b.now a.words.now a.window (run_passed a.field.p A a.scales.now a.b.now a.words.now a.window a.vector.now a.polynomial.now a.work.now passed)) in
    record { closable = closable system c.run-c.ensures; vector_len = (t.vector_size, t.polynomial_size) }

pub returns : goal.returns
returns c =
    let a = c.args in
    let A = matrix_of a.a.now in
    let passed = sym c.in_ok-check_solve.ensures in
    let few = c.needed.ensures.0 in
    let system = used_checked c.needed.result few (system_of_law a.field.p A a.scales.now a.b.now a.words.now a.window (run_passed a.field.p A a.scales.now a.b.now a.words.now a.window a.vector.now a.polynomial.now a.work.now passed)) in
    taken a.field.p A a.scales.now a.b.now a.words.now a.window a.vector.now a.polynomial.now a.bill.now a.work.now passed (found_used c.needed.result few (closed system c.run-c.ensures c.answer.ensures))
