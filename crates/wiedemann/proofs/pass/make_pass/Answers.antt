use Rattle.checks.specs.Matrix.{scaled_valid, scaled_modulus}
use Rattle.checks.specs.Pass.{State, pass_accepted}
use Rattle.checks.specs.Slices.{matrix_of}
use Rattle.wiedemann.specs.Operator.{Made, made}
use lib.ListN.{length}
use Prim.Native.Nat.{◌-◌}
use mathlib.Core.Path.{sym, subst}
use Rattle.wiedemann.proofs.pass.make_pass.Goals.{After-of}
use Rattle.wiedemann.proofs.pass.make_pass.Goals as goal

-- what the operator is made of: no check turned the call down
known : (c : After-of)
    → let a = c.args in
    Made c.of.result a.field.p (matrix_of a.a.now) a.scales.now
known c =
    let a = c.args in
    let A = matrix_of a.a.now in
    let passed = (pass_accepted a.field.p A a.scales.now a.words.now a.d a.work.now (sym c.in_ok-check_pass.ensures)).0 in
    made c.of.ensures (scaled_modulus a.field.p A a.scales.now passed) (scaled_valid a.field.p A a.scales.now passed)

pub invariant_of-ax : goal.invariant_of-ax
invariant_of-ax c =
    let m = known (goal.at.invariant_of-ax c).After-of in
    record { prime = m.prime; modular = m.modular; valid = m.valid }

pub pass_of_state-requires : goal.pass_of_state-requires
pass_of_state-requires c =
    let a = c.args in
    let A = matrix_of a.a.now in
    let passed = pass_accepted a.field.p A a.scales.now a.words.now a.d a.work.now (sym c.in_ok-check_pass.ensures) in
    subst (λ p. State p (length a.a.now.starts.now - 1) a.d a.words.now a.work.now) (sym (known (goal.at.pass_of_state-requires c).After-of).same) passed.1
