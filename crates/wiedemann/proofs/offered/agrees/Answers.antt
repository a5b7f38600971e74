use Rattle.std.proofs.Common.{◌≡◌, ◌+◌, ◌%◌, ◌&&◌, eqb, refl, sym, ap, ap₂, ◌∙◌, zero-add, arith}
use Rattle.meaning.specs.List.{at, all}
use Rattle.laws.specs.List.{all_zero}
use Rattle.modular.specs.Total.{residue_number}
use Rattle.checks.specs.Matrix.{all_more}
use Rattle.checks.specs.Products.{rows_ended, row_behind}
use Rattle.checks.specs.Valid.{row_product}
use Rattle.wiedemann.specs.Operator.{plain, rows}
use Rattle.wiedemann.specs.Horner.{at_product, row_reduced}
use Rattle.wiedemann.proofs.offered.agrees.Invariants.{agreement}
use Rattle.wiedemann.proofs.offered.agrees.Goals as goal

pub loop-i-init : goal.loop-i-init
loop-i-init c =
    let a = c.args in
    let ax = a.ax.now in
    (refl, sym (all_zero (agreement ax.m.p (plain ax) a.x.now a.b.now)))

pub loop-i-preserved : goal.loop-i-preserved
loop-i-preserved c =
    let a = c.args in
    let ax = a.ax.now in
    let A = plain ax in
    let x = a.x.now in
    let p = ax.m.p in
    let loop = c.loop-i in
    let i = loop.i in
    let sum = c.row-sum in
    let here : agreement p A x a.b.now i ≡ eqb c.residue.result c.element.result =
    ap₂ eqb
    (at_product p A x i c.loop-i-test.true ∙ ap (λ y. y % p) (sym (zero-add (row_product A x i)))
    ∙ sym
    (row_reduced A i loop.from (at ax.a.now.starts.now (i + 1)) loop.invariant.0 refl p 0 0 c.residue.result x
    x sum.result refl refl sum.ensures.0
    (c.residue.ensures ∙ residue_number ax.m sum.result ax.modular (omega (arith, sum.type_inv)) sum.ensures.1)))
    (sym c.element.ensures) in
    (refl, ap₂ ◌&&◌ loop.invariant.1 (sym here) ∙ sym (all_more i (agreement p A x a.b.now)))

pub entries_to-requires : goal.entries_to-requires
entries_to-requires c =
    let valid = c.args.ax.now.valid.valid in
    (omega (arith, valid.one_more), row_behind valid (omega (arith, c.loop-i-test.false)) c.loop-i.invariant.0)

pub returns : goal.returns
returns c =
    let a = c.args in
    let ax = a.ax.now in
    let loop = c.loop-i in
    let end : loop.i ≡ rows ax = omega (arith, c.loop-i-test.false) in
    (rows_ended ax.valid.valid end loop.invariant.0 c.entries_to.ensures, loop.invariant.1 ∙ ap (λ k. all k (agreement ax.m.p (plain ax) a.x.now a.b.now)) end)
