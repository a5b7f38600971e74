use Rattle.std.proofs.lemmas.Result.{err_from_is_err_and}
use Rattle.refusal.specs.Number.{number_of, number_positive}
use mathlib.Core.Path.{◌≡◌, sym, ap, ◌∙◌, subst}
use lib.ListN.{length}
use Prim.Native.Nat.{◌-◌}
use Rattle.meaning.specs.Matrix.{transposed}
use Rattle.checks.specs.Slices.{matrix_of}
use Rattle.meaning.specs.Calls.{product_refusal}
use Rattle.checks.specs.Matrix.{Accepted, product_accepted}
use Rattle.checks.specs.Valid.{Valid, Vector}
use Rattle.modular.specs.Modulus.{Modular, modular_of}
use Rattle.checks.specs.Answers.{writes_refused, writes_done}
use Rattle.transposed.proofs.transposed.Goals.{After-of-m, In_ok-check_product}
use Rattle.transposed.proofs.transposed.Goals as goal

none : (c : In_ok-check_product)
    → let at = c.args in
    product_refusal at.field.p (matrix_of at.a.now) at.v.now at.out.now ≡ 0
none c = sym c.in_ok-check_product.ensures

accepted : (c : In_ok-check_product)
    → let at = c.args in
    Accepted at.field.p (matrix_of at.a.now) at.v.now × (length at.out.now ≡ length at.a.now.starts.now - 1)
accepted c =
    let at = c.args in
    product_accepted at.field.p (matrix_of at.a.now) at.v.now at.out.now (none c)

pub returns-in_err-check_product : goal.returns-in_err-check_product
returns-in_err-check_product c =
    let at = c.args in
    let A = matrix_of at.a.now in
    let e = c.in_err-check_product.field-0.0 in
    let exit = err_from_is_err_and c.from_residual.result c.from_residual.ensures.1 in
    let both = writes_refused (number_of e) (product_refusal at.field.p A at.v.now at.out.now) (transposed at.field.p A at.v.now)
    at.out.now c.in_err-check_product.ensures (number_positive e) in
    record { writes = rw (exit.1, exit.2) both.0; out_after = both.1 }

-- the modulus that was made
modulus : (c : After-of-m) → (c.of-m.result.p ≡ c.args.field.p) × Modular c.of-m.result
modulus c =
    let known = ((let at = c.args in product_accepted at.field.p (matrix_of at.a.now) at.v.now at.out.now (sym c.in_ok-check_product.ensures))).0.valid in
    modular_of c.of-m.result c.args.field.p c.of-m.ensures known.positive known.small

pub transposed_into-requires : goal.transposed_into-requires
transposed_into-requires c =
    let at = c.args in
    let A = matrix_of at.a.now in
    let known = accepted (goal.at.transposed_into-requires c).In_ok-check_product in
    let made = modulus (goal.at.transposed_into-requires c).After-of-m in
    let e = sym made.0 in
    record { valid = (subst (λ p. Valid p A) e known.0.valid, made.1); out_len = (known.1, subst (λ p. Vector p (length at.a.now.starts.now - 1) at.v.now) e known.0.vector) }

pub returns : goal.returns
returns c =
    let both =
    let at = c.args in
    let A = matrix_of at.a.now in
    let made = c.transposed_into in
    writes_done (product_refusal at.field.p A at.v.now at.out.now) (transposed at.field.p A at.v.now) at.out.now
    made.new.out (none (goal.at.returns c).In_ok-check_product) made.ensures.0 (made.ensures.1 ∙ ap (λ p. transposed p A at.v.now) (modulus (goal.at.returns c).After-of-m).0)
    in record { writes = both.0; out_after = both.1 }
