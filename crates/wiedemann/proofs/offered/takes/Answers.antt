use Rattle.std.proofs.Common.{◌-◌, false, length, sym, ◌∙◌, subst}
use Rattle.meaning.specs.Solver.{takes}
use Rattle.meaning.specs.Calls.{takes_refusal}
use Rattle.laws.specs.Refusal.{unless_refused_none}
use Rattle.checks.specs.Slices.{matrix_of}
use Rattle.checks.specs.Matrix.{takes_accepted}
use Rattle.checks.specs.Valid.{Vector, valid_plain}
use Rattle.wiedemann.specs.Operator.{made}
use Rattle.wiedemann.specs.Offered.{takes_tested}
use Rattle.wiedemann.proofs.offered.takes.Goals as goal

pub invariant_of-plain : goal.invariant_of-plain
invariant_of-plain c =
    let a = c.args in
    let known = (takes_accepted a.field.p (matrix_of a.a.now) a.x.now a.b.now (sym c.in_ok-check_takes.ensures)).0 in
    let m = made c.of.ensures known.prime (valid_plain known.valid) in
    record { prime = m.prime; modular = m.modular; valid = m.valid }

pub agrees-requires : goal.agrees-requires
agrees-requires c =
    let a = c.args in
    let known = (takes_accepted a.field.p (matrix_of a.a.now) a.x.now a.b.now (sym c.in_ok-check_takes.ensures)).0 in
    let m = made c.of.ensures known.prime (valid_plain known.valid) in
    subst (λ p. Vector p (length a.a.now.starts.now - 1) a.x.now) (sym m.same) known.vector

pub returns : goal.returns
returns c =
    let a = c.args in
    let A = matrix_of a.a.now in
    let zero = sym c.in_ok-check_takes.ensures in
    let known = takes_accepted a.field.p A a.x.now a.b.now zero in
    let m = made c.of.ensures known.0.prime (valid_plain known.0.valid) in
    let found = c.agrees in (
      zero,
      unless_refused_none (takes_refusal a.field.p A a.x.now a.b.now) (takes a.field.p A a.x.now a.b.now) false zero
          ∙ takes_tested a.field.p c.of.result.p m.same A a.x.now a.b.now found.result.holds known.0.valid.positive known.1 found.ensures.1,
      found.ensures.0,
    )
