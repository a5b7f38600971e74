use Rattle.wiedemann.specs.Operator.{operator, rows, projection}
use Rattle.wiedemann.specs.Turns.{seat_low, region_at, region_first, vector_power, Iterated, iterated_none, iterated_more, iterated_from, iterated_all}
use Rattle.wiedemann.specs.Horner.{vector_step}
use Rattle.laws.specs.Part.{part}
use Rattle.checks.specs.Valid.{valid_scaled, Vector}
use Rattle.meaning.specs.Solver.{dot}
use Rattle.checks.specs.declared.Products.{Products}
use Rattle.checks.specs.Products.{products_with, products_zero, products_next, products_few}
use lib.ListN.{set}
use native.Mathlib.Omega.{arith}
use Prim.Native.Nat.{◌+◌, ◌-◌, ◌*◌}
use mathlib.Core.Path.{◌≡◌, refl, sym, ap, ◌∙◌, subst}
use Rattle.wiedemann.proofs.pass.terms.Goals.{After-advance-done, After-term}
use Rattle.wiedemann.proofs.pass.terms.Goals as goal

-- the first term
begun : (c : After-term)
    → let a = c.args in
    let o = a.ax.now in
    Iterated o.m.p (operator o) (projection o a.u.now) a.area.now 0 (region_at (rows o) 0) c.term.new.area
begun c =
    let a = c.args in
    let pre = c.requires in
    let o = a.ax.now in
    let n = rows o in
    let W = a.area.now in
    let u = projection o a.u.now in
    let value = dot o.m.p u (part 0 n W) in
    subst (λ X. Iterated o.m.p (operator o) u W 0 (region_at n 0) X) (sym c.term.ensures)
    (subst (λ k. Iterated o.m.p (operator o) u W 0 k (set W (3 * n + 0) value)) (sym (region_first n))
    (iterated_none o.m.p (operator o) u W value (omega (arith, pre.room.0, pre.left.0)) refl))

pub loop-i-init : goal.loop-i-init
loop-i-init c =
    let o = c.args.ax.now in
    let pre = c.requires in
    let none = c.default-done.ensures in
    let first = begun (goal.at.loop-i-init c).After-term in (
      omega (arith, none.0),
      omega (arith, first.same_length, pre.room.0),
      subst (λ l. Vector o.m.p (rows o) l) (sym first.front) pre.room.1,
      rw none.0 (iterated_from (sym first.same_length) (sym first.front) first),
      products_zero (operator o) none.0 none.1,
    )

pub advance-done-requires : goal.advance-done-requires
advance-done-requires c =
    let o = c.args.ax.now in
    let pre = c.requires in
    let loop = c.loop-i in (
      record {
        seat = loop.invariant.3.seat;
        room = omega (arith, loop.invariant.1, loop.invariant.3.same_length);
        elements = rw loop.invariant.3.holds (vector_power o.m.p (operator o) loop.done.made _ o.valid.valid.positive loop.invariant.2);
      },
      products_few (valid_scaled _ o.valid.valid) (omega (arith, loop.invariant.0, c.loop-i-test.true, pre.left.1)) loop.invariant.4,
    )

-- the products after one more
counted : (c : After-advance-done) → c.advance-done.result.made ≡ c.loop-i.i
counted c = ap (λ (x : Products). x.made) c.advance-done.ensures.0 ∙ c.loop-i.invariant.0

pub term-requires-in-loop-i-clause-places : goal.term-requires-in-loop-i-clause-places
term-requires-in-loop-i-clause-places c =
    let o = c.args.ax.now in
    let n = rows o in
    let loop = c.loop-i in
    let next = c.advance-done.ensures in
    let low = seat_low next.1.seat in
    let long = next.1.same_length in
    let held = loop.invariant.3.same_length in
    let one = counted (goal.at.term-requires-in-loop-i-clause-places c).After-advance-done in
    rw (c.region.ensures, ← one)
    (omega (arith, low, long, held, loop.invariant.1), omega (arith, long, held, loop.invariant.1, one, c.loop-i-test.true), rw next.1.holds (vector_step o.m.p (operator o) 0 (part 0 n loop.area) (part (region_at n loop.done.made) n loop.area) o.valid.valid.positive))

pub loop-i-preserved : goal.loop-i-preserved
loop-i-preserved c =
    let o = c.args.ax.now in
    let loop = c.loop-i in
    let test = c.loop-i-test.true in
    let next = c.advance-done in
    let one = counted (goal.at.loop-i-preserved c).After-advance-done in (
      omega (arith, one),
      loop.invariant.1,
      loop.invariant.2,
      rw (c.term-in-loop-i.ensures, c.region.ensures, ← one)
          (iterated_more next.result.made _ (omega (arith, one, loop.invariant.0)) loop.invariant.3 next.ensures.1 (omega (arith, test, one, loop.invariant.1)) refl),
      products_next (operator o) loop.invariant.4 next.ensures.0,
    )

pub returns : goal.returns
returns c =
    let a = c.args in
    let o = a.ax.now in
    let loop = c.loop-i in
    let first = begun (goal.at.returns c).After-term in
    let all : loop.done.made ≡ 2 * a.left - 1 = omega (arith, loop.invariant.0, c.loop-i-test.false, c.requires.left.0) in (
      loop.invariant.4 ∙ ap {B = Products} (λ k. products_with k (operator o)) all,
      iterated_all a.left (omega (arith, all, c.requires.left.0)) (omega (arith, c.requires.room.0)) (iterated_from first.same_length first.front loop.invariant.3),
    )
