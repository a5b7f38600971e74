use Rattle.std.proofs.Common.{◌-◌, length, length-take-le, sym, ◌∙◌, subst, arith}
use Rattle.checks.specs.Slices.{matrix_of}
use Rattle.checks.specs.Matrix.{apply_accepted}
use Rattle.checks.specs.Valid.{Vector}
use Rattle.checks.specs.Products.{products_scaled}
use Rattle.wiedemann.specs.Operator.{made}
use Rattle.wiedemann.proofs.matrix.apply_scaled.Goals as goal

pub invariant_of-ax : goal.invariant_of-ax
invariant_of-ax c =
    let known = apply_accepted _ _ _ _ _ _ _ (sym c.in_ok-check_apply.ensures) in
    let m = made c.of.ensures known.prime known.valid in
    record { prime = m.prime; modular = m.modular; valid = m.valid }

pub slice_bounds-horner-end : goal.slice_bounds-horner-end
slice_bounds-horner-end c =
    let known = apply_accepted _ _ _ _ _ _ _ (sym c.in_ok-check_apply.ensures) in
    omega (arith, known.vector.places, known.room)

pub slice_bounds-horner-end-2 : goal.slice_bounds-horner-end-2
slice_bounds-horner-end-2 c =
    let a = c.args in
    let known = apply_accepted _ _ _ _ _ _ _ (sym c.in_ok-check_apply.ensures) in
    sym (length-take-le (length a.v.now) a.work.now (omega (arith, known.vector.places, known.room)))

pub horner-requires : goal.horner-requires
horner-requires c =
    let a = c.args in
    let known = apply_accepted _ _ _ _ _ _ _ (sym c.in_ok-check_apply.ensures) in
    let m = made c.of.ensures known.prime known.valid in (
      known.places,
      length-take-le (length a.v.now) a.work.now (omega (arith, known.vector.places, known.room)) ∙ known.vector.places,
      subst (λ p. Vector p (length a.a.now.starts.now - 1) a.v.now) (sym m.same) known.vector,
      known.some,
      omega (arith, known.few, known.valid.valid.sized),
      subst (λ p. Vector p (length a.g.now) a.g.now) (sym m.same) known.coefficients,
    )

pub returns-clause-writes : goal.returns-clause-writes
returns-clause-writes c =
    let a = c.args in
    (sym c.in_ok-check_apply.ensures, c.horner.ensures.0 ∙ sym (products_scaled c.of.result.p (matrix_of a.a.now) a.scales.now _))
