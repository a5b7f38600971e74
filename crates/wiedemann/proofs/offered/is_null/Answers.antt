use Rattle.std.proofs.Common.{◌-◌, ◌&&◌, not, false, [], length, sym, ap, ap₂, ◌∙◌, subst}
use Rattle.meaning.specs.List.{is_zero}
use Rattle.meaning.specs.Matrix.{product}
use Rattle.meaning.specs.Solver.{is_null}
use Rattle.meaning.specs.Calls.{is_null_refusal}
use Rattle.laws.specs.Refusal.{unless_refused_none}
use Rattle.checks.specs.Slices.{matrix_of}
use Rattle.checks.specs.Matrix.{system_accepted}
use Rattle.checks.specs.Valid.{Vector, valid_plain}
use Rattle.wiedemann.specs.Operator.{made}
use Rattle.wiedemann.proofs.offered.is_null.Goals as goal

pub invariant_of-plain : goal.invariant_of-plain
invariant_of-plain c =
    let a = c.args in
    let known = system_accepted a.field.p (matrix_of a.a.now) [] a.w.now (sym c.in_ok-check_system.ensures) in
    let m = made c.of.ensures known.prime (valid_plain known.valid) in
    record { prime = m.prime; modular = m.modular; valid = m.valid }

pub vanishes-found-requires : goal.vanishes-found-requires
vanishes-found-requires c =
    let a = c.args in
    let known = system_accepted a.field.p (matrix_of a.a.now) [] a.w.now (sym c.in_ok-check_system.ensures) in
    let m = made c.of.ensures known.prime (valid_plain known.valid) in
    subst (λ p. Vector p (length a.a.now.starts.now - 1) a.w.now) (sym m.same) known.vector

pub returns : goal.returns
unfolding is_null_refusal is_null
returns c =
    let a = c.args in
    let w = a.w.now in
    let A = matrix_of a.a.now in
    let zero = sym c.in_ok-check_system.ensures in
    let known = system_accepted a.field.p A [] w zero in
    let m = made c.of.ensures known.prime (valid_plain known.valid) in
    let found = c.vanishes-found.ensures in (
      zero,
      unless_refused_none (is_null_refusal a.field.p A w) (is_null a.field.p A w) false zero
          ∙ ap₂ (λ s t. not s && t) (sym c.is_zero.ensures) (ap (λ p. is_zero (product p A w)) (sym m.same) ∙ sym found.1),
      found.0,
    )
