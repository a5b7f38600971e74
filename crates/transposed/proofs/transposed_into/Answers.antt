use mathlib.Core.Path.{◌≡◌, refl, sym, ap, ◌∙◌, subst}
use Prim.Native.Nat.{◌+◌, ◌-◌, ◌<◌}
use native.Mathlib.Omega.{arith}
use lib.ListN.{length, get_or}
use Rattle.meaning.specs.List.{zeros}
use Rattle.checks.specs.Slices.{matrix_of}
use Rattle.checks.specs.Products.{product_ended, row_behind}
use Rattle.checks.specs.Valid.{Vector, row_bounds}
use Rattle.transposed.specs.Transposed.{gathered, gathered_none, gathered_next, gathered_all, vector_gathered}
use Rattle.transposed.proofs.transposed_into.Goals.{At-loop-i, In-loop-i}
use Rattle.transposed.proofs.transposed_into.Goals as goal

vector : (c : At-loop-i)
    → let at = c.args in
    Vector at.m.p (length at.a.now.starts.now - 1) c.loop-i.out
vector c =
    let at = c.args in
    subst (λ l. Vector at.m.p (length at.a.now.starts.now - 1) l) (sym c.loop-i.invariant.1)
    (vector_gathered at.m.p (matrix_of at.a.now) at.v.now c.loop-i.i c.requires.valid.0.positive)

inside : (c : In-loop-i) → c.loop-i.i < length c.args.a.now.starts.now - 1
inside c = omega (arith, c.loop-i-test.true, c.requires.out_len.1.places)

pub bounds-starts-0 : goal.bounds-starts-0
bounds-starts-0 c = omega (arith, c.requires.valid.0.one_more)

pub loop-i-init : goal.loop-i-init
loop-i-init c =
    let at = c.args in
    let places = c.requires.out_len.1.places in
    let cleared = c.clear in (
      refl,
      cleared.ensures ∙ ap zeros c.requires.out_len.0 ∙ gathered_none at.m.p (matrix_of at.a.now) at.v.now,
    )

pub offset_bounds-starts-i : goal.offset_bounds-starts-i
offset_bounds-starts-i c = omega (arith, inside (goal.at.offset_bounds-starts-i c).In-loop-i, c.requires.valid.0.sized)

pub bounds-starts-i : goal.bounds-starts-i
bounds-starts-i c = omega (arith, inside (goal.at.bounds-starts-i c).In-loop-i, c.requires.valid.0.one_more)

pub scatter-requires : goal.scatter-requires
scatter-requires c =
    let at = c.args in
    let known = c.requires.valid.0 in
    let loop = c.loop-i in
    let within = inside (goal.at.scatter-requires c).In-loop-i in
    let bounds = row_bounds (matrix_of at.a.now) loop.i loop.from (get_or at.a.now.starts.now (loop.i + 1) 0) loop.invariant.0 refl known within in
    let before = vector (goal.at.scatter-requires c).At-loop-i in
    let v = c.requires.out_len.1 in record {
      i_in_bounds = (
        omega (arith, within, v.places),
        record { places = v.places ∙ sym before.places; below = λ j l. v.below j (omega (arith, l, before.places)) },
        c.requires.valid.1,
        bounds.0,
        bounds.1,
        known.paired,
        record { places = refl; below = λ j l. before.below j (omega (arith, l, before.places)) },
      );
      by_index = λ k l. omega (arith, known.column k l, before.places);
    }

pub loop-i-preserved : goal.loop-i-preserved
loop-i-preserved c =
    let at = c.args in
    let loop = c.loop-i in
    let made = c.scatter in (
      refl,
      gathered_next at.m.p (matrix_of at.a.now) at.v.now loop.i loop.from (get_or at.a.now.starts.now (loop.i + 1) 0) loop.out made.new.out loop.invariant.0
          refl loop.invariant.1 made.ensures,
    )

pub bounds-starts-0-2 : goal.bounds-starts-0-2
bounds-starts-0-2 c = omega (arith, c.requires.valid.0.one_more)

pub overflow_sub-multiplied : goal.overflow_sub-multiplied
overflow_sub-multiplied c =
    let loop = c.loop-i in
    omega (arith, row_behind c.requires.valid.0 (omega (arith, loop.invariant.0, c.requires.out_len.1.places)) loop.invariant.0)

pub shape_of-out : goal.shape_of-out
shape_of-out c = (vector (goal.at.shape_of-out c).At-loop-i).places ∙ sym c.requires.out_len.0

pub returns : goal.returns
returns c =
    let at = c.args in
    let A = matrix_of at.a.now in
    let loop = c.loop-i in
    let end : loop.i ≡ length at.a.now.starts.now - 1 = omega (arith, loop.invariant.0, c.loop-i-test.false, c.requires.out_len.1.places) in
    (product_ended c.requires.valid.0 end loop.invariant.0 refl, loop.invariant.1 ∙ ap (gathered at.m.p A at.v.now) end ∙ gathered_all at.m.p A at.v.now)
