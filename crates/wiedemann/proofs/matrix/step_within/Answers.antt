use Rattle.std.proofs.Common.{◌≡◌, ◌+◌, ◌-◌, ◌*◌, refl, sym, ap, ◌∙◌, subst, arith}
use Rattle.meaning.specs.List.{at}
use Rattle.laws.specs.Written.{written_more, written_all}
use Rattle.laws.specs.Part.{part, apart_shorter, at_part, written_other_at, written_other}
use Rattle.modular.specs.Total.{residue_number}
use Rattle.checks.specs.Products.{product_ended, row_behind}
use Rattle.checks.specs.Valid.{Entries, valid_entries, row_bounds}
use Rattle.wiedemann.specs.Operator.{plain, rows}
use Rattle.wiedemann.specs.Region.{vector_part}
use Rattle.wiedemann.specs.Horner.{step_at, row_reduced}
use Rattle.wiedemann.proofs.matrix.step_within.Goals.{At-loop-i}
use Rattle.wiedemann.proofs.matrix.step_within.Goals as goal

-- what was written leaves the part that is read
source-kept : (c : At-loop-i)
    → let a = c.args in
    let n = rows a.ax.now in
    part a.source (a.source + n - a.source) c.loop-i.work ≡ part a.source n a.work.now
source-kept c =
    let a = c.args in
    let ax = a.ax.now in
    let n = rows ax in
    let known = c.requires in
    let loop = c.loop-i in
    ap (λ k. part a.source k loop.work) (omega arith)
    ∙ written_other {f = step_at ax.m.p (plain ax) a.c (part a.origin n a.work.now) (part a.source n a.work.now)} a.source n known.source_fits (apart_shorter loop.i (omega arith) known.source_apart) loop.invariant.1

pub row-requires : goal.row-requires
row-requires c =
    let a = c.args in
    let ax = a.ax.now in
    let A = plain ax in
    let n = rows ax in
    let valid = ax.valid.valid in
    let known = c.requires in
    let i = c.loop-i.i in
    let bounds = row_bounds A i c.loop-i.from (at ax.a.now.starts.now (i + 1)) c.loop-i.invariant.0 refl valid (omega (arith, c.loop-i-test.true)) in (
      subst (λ l. Entries ax.a.now.columns.now ax.a.now.values.now l) (sym (source-kept (goal.at.row-requires c).At-loop-i))
          (valid_entries ax.m.p A (part a.source n a.work.now) valid (vector_part ax.m.p a.source n a.work.now known.source_fits known.elements)),
      bounds.0,
      bounds.1,
    )

pub loop-i-preserved : goal.loop-i-preserved
loop-i-preserved c =
    let a = c.args in
    let ax = a.ax.now in
    let A = plain ax in
    let n = rows ax in
    let known = c.requires in
    let loop = c.loop-i in
    let i = loop.i in
    let test = c.loop-i-test.true in
    let begun = c.times-start in
    let sum = c.row in
    let W = a.work.now in
    let f = step_at ax.m.p A a.c (part a.origin n W) (part a.source n W) in
    let element : at loop.work (a.origin + i) ≡ at (part a.origin n W) i =
    written_other_at {f = f} a.origin n i (apart_shorter i (omega arith) known.origin_apart) test loop.invariant.1
    ∙ sym (at_part a.origin n W i test) in (
      refl,
      written_more {f = f} c.residue.result loop.invariant.1 (omega (arith, test, known.target_fits))
          (row_reduced A i loop.from (at ax.a.now.starts.now (i + 1)) loop.invariant.0 refl ax.m.p begun.result
          (a.c * at (part a.origin n W) i) c.residue.result (part a.source (a.source + n - a.source) loop.work)
          (part a.source n W) sum.result (begun.ensures ∙ ap (λ y. a.c * y) element) (source-kept (goal.at.loop-i-preserved c).At-loop-i)
          sum.ensures.0 (c.residue.ensures ∙ residue_number ax.m sum.result ax.modular (omega (arith, sum.type_inv)) sum.ensures.1)),
    )

pub entries_to-requires : goal.entries_to-requires
entries_to-requires c =
    let valid = c.args.ax.now.valid.valid in
    (omega (arith, valid.one_more), row_behind valid (omega (arith, c.loop-i-test.false)) c.loop-i.invariant.0)

pub returns : goal.returns
returns c =
    let ax = c.args.ax.now in
    let loop = c.loop-i in
    let end : loop.i ≡ rows ax = omega (arith, c.loop-i-test.false) in
    (product_ended ax.valid.valid end loop.invariant.0 c.entries_to.ensures, written_all end loop.invariant.1)
