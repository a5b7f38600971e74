use Rattle.std.proofs.Common.{◌≡◌, ◌+◌, ◌*◌, refl, sym, ◌∙◌, arith}
use Rattle.meaning.specs.List.{at}
use Rattle.laws.specs.Written.{written_all}
use Rattle.laws.specs.Part.{written_next, written_table}
use Rattle.modular.specs.Total.{residue_number}
use Rattle.checks.specs.Products.{product_ended, row_behind}
use Rattle.wiedemann.specs.Operator.{plain, rows}
use Rattle.wiedemann.specs.Horner.{step_at, table_step, row_reduced}
use Rattle.wiedemann.proofs.matrix.step.Goals as goal

pub loop-i-preserved : goal.loop-i-preserved
loop-i-preserved c =
    let a = c.args in
    let ax = a.ax.now in
    let i = c.loop-i.i in
    let from = c.loop-i.invariant.0 in
    let sum = c.row in (
      refl,
      written_next c.residue.result c.loop-i.invariant.1 (omega (arith, c.loop-i-test.true, c.requires.0))
          (row_reduced (plain ax) i c.loop-i.from (at ax.a.now.starts.now (i + 1)) from refl ax.m.p c.times.result
          (a.c * at a.x.now i) c.residue.result a.v.now a.v.now sum.result c.times.ensures refl
          sum.ensures.0 (c.residue.ensures ∙ residue_number ax.m sum.result ax.modular (omega (arith, sum.type_inv)) sum.ensures.1)),
    )

pub entries_to-requires : goal.entries_to-requires
entries_to-requires c =
    let valid = c.args.ax.now.valid.valid in
    (omega (arith, valid.one_more), row_behind valid (omega (arith, c.loop-i-test.false)) c.loop-i.invariant.0)

pub returns : goal.returns
returns c =
    let a = c.args in
    let ax = a.ax.now in
    let loop = c.loop-i in
    let end : loop.i ≡ rows ax = omega (arith, c.loop-i-test.false) in (
      product_ended ax.valid.valid end loop.invariant.0 c.entries_to.ensures,
      written_table a.out.now (rows ax) (step_at ax.m.p (plain ax) a.c a.x.now a.v.now) loop.out c.requires.0 (written_all end loop.invariant.1)
          ∙ sym (table_step ax.m.p (plain ax) a.c a.x.now a.v.now),
    )
