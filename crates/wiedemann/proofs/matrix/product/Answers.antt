use Rattle.std.proofs.Common.{◌-◌, length, sym, ◌∙◌, subst}
use Rattle.meaning.specs.Matrix.{product}
use Rattle.meaning.specs.Calls.{product_refusal}
use Rattle.laws.specs.Refusal.{unless_refused_none}
use Rattle.checks.specs.Slices.{matrix_of}
use Rattle.checks.specs.Matrix.{product_accepted}
use Rattle.checks.specs.Valid.{Vector, valid_plain}
use Rattle.wiedemann.specs.Operator.{made}
use Rattle.wiedemann.specs.Horner.{step_made}
use Rattle.wiedemann.proofs.matrix.product.Goals as goal

pub invariant_of-plain : goal.invariant_of-plain
invariant_of-plain c =
    let known = (product_accepted _ _ _ _ (sym c.in_ok-check_product.ensures)).0 in
    let m = made c.of.ensures known.prime (valid_plain known.valid) in
    record { prime = m.prime; modular = m.modular; valid = m.valid }

pub step-requires : goal.step-requires
step-requires c =
    let a = c.args in
    let known = product_accepted _ _ _ _ (sym c.in_ok-check_product.ensures) in
    let m = made c.of.ensures known.0.prime (valid_plain known.0.valid) in
    (known.1, known.0.vector.places, subst (λ p. Vector p (length a.a.now.starts.now - 1) a.v.now) (sym m.same) known.0.vector)

pub returns-clause-out_after : goal.returns-clause-out_after
returns-clause-out_after c =
    let a = c.args in
    let A = matrix_of a.a.now in
    let zero = sym c.in_ok-check_product.ensures in
    let known = (product_accepted _ _ _ _ zero).0 in
    let m = made c.of.ensures known.prime (valid_plain known.valid) in
    step_made a.field.p c.of.result.p m.same A a.v.now a.v.now c.step.new.out c.step.ensures.1
    ∙ sym (unless_refused_none (product_refusal a.field.p A a.v.now a.out.now) (product a.field.p A a.v.now) a.out.now zero)
