use Rattle.wiedemann.specs.Operator.{operator, rows}
use Rattle.checks.specs.Valid.{valid_scaled}
use Rattle.wiedemann.specs.Turns.{seat_low, region_at, region_first, Applying, applying_none, applying_more, applied_all}
use mathlib.Core.Logic.{inl}
use Rattle.wiedemann.specs.Horner.{vector_apply}
use Rattle.checks.specs.declared.Products.{Products}
use Rattle.checks.specs.Products.{products_with, products_zero, products_next, products_few}
use Rattle.laws.specs.Part.{length_part}
use native.Mathlib.Omega.{arith}
use Prim.Native.Nat.{◌+◌, ◌-◌, ◌*◌}
use mathlib.Core.Path.{◌≡◌, refl, sym, ap, ◌∙◌, subst}
use Rattle.wiedemann.proofs.pass.apply_within.Goals as goal

pub loop-i-init : goal.loop-i-init
loop-i-init c =
    let a = c.args in
    let o = a.ax.now in
    let none = c.default-done.ensures in (
      omega (arith, none.0),
      rw (none.0, region_first (rows o)) (applying_none c.requires.1),
      products_zero (operator o) none.0 none.1,
    )

pub advance-done-requires : goal.advance-done-requires
advance-done-requires c =
    let o = c.args.ax.now in
    let pre = c.requires in
    let loop = c.loop-i in (
      record {
        seat = loop.invariant.1.seat;
        room = omega (arith, pre.1.above, pre.1.room, loop.invariant.1.same_length);
        elements = rw loop.invariant.1.holds (vector_apply o.m.p (operator o) _ _ o.valid.valid.positive);
      },
      products_few (valid_scaled _ o.valid.valid) (omega (arith, loop.invariant.0, pre.0)) loop.invariant.2,
    )

pub loop-i-preserved : goal.loop-i-preserved
loop-i-preserved c =
    let a = c.args in
    let o = a.ax.now in
    let pre = c.requires in
    let loop = c.loop-i in
    let A = operator o in
    let i = loop.i - 1 in
    let test = c.loop-i-test.true in
    let made = c.advance-done.ensures in
    let one = ap (λ (x : Products). x.made) made.0 in
    let back : loop.i ≡ i + 1 = omega (arith, test) in
    let n = rows o in (
      omega (arith, loop.invariant.0, one, test),
      applying_more _ (valid_scaled _ o.valid.valid) pre.1 (subst (λ m. Applying o.m.p A a.area.now a.f a.t m (region_at n loop.done.made) loop.area) back loop.invariant.1)
          (omega (arith, loop.invariant.0, test)) refl made.1,
      products_next A loop.invariant.2 made.0,
    )

pub returns : goal.returns
returns c =
    let a = c.args in
    let o = a.ax.now in
    let h = c.requires.1 in
    let loop = c.loop-i in
    let A = operator o in
    let n = rows o in
    let m = 3 * n in
    let at = c.region.ensures in
    let ended : loop.i ≡ 0 = omega (arith, c.loop-i-test.false) in
    let all : loop.done.made ≡ a.t = omega (arith, loop.invariant.0, ended) in
    let long = length_part 0 m loop.area (omega (arith, loop.invariant.1.same_length, h.above, h.room)) in (
      loop.invariant.2 ∙ ap {B = Products} (λ k. products_with k A) all,
      applied_all m refl (omega (arith, h.above, h.room))
          (subst (λ k. Applying o.m.p A a.area.now a.f a.t 0 k loop.area) (sym at)
          (subst (λ k. Applying o.m.p A a.area.now a.f a.t k (region_at n loop.done.made) loop.area) ended loop.invariant.1))
          (c.copy_within.ensures.copied (omega (arith, long, at, seat_low loop.invariant.1.seat), omega (arith, long), inl (omega arith))),
    )
