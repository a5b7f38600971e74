use Rattle.solver.specs.Bill.{entered_lent, entered_full}
use Rattle.wiedemann.specs.Pass.{pass_of}
use native.Mathlib.Omega.{arith}
use Prim.Native.Nat.{◌+◌, ◌-◌, ◌*◌}
use Rattle.solver.proofs.enter.Goals as goal

pub returns-then-to-bill : goal.returns-then-to-bill
returns-then-to-bill c =
    let a = c.args in
    entered_lent a.bill.now a.j (pass_of a.q) (omega (arith, c.if-to-bill.true)) (3 * a.j + 3 - 3 * a.j) c.write_padded.new.out (omega arith)
    c.write_padded.ensures

pub returns-else-to-bill : goal.returns-else-to-bill
returns-else-to-bill c =
    let a = c.args in
    entered_full a.bill.now a.j (pass_of a.q) (omega (arith, c.if-to-bill.false))
