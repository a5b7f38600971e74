use Rattle.recurrence.specs.Factor.{product_at, Descending, descending_same, descending_more, descending_all}
use native.Mathlib.Omega.{arith}
use Prim.Native.Nat.{◌+◌, ◌-◌, ◌≤◌}
use mathlib.Core.Path.{◌≡◌, ◌∙◌, subst}
use Rattle.recurrence.proofs.factor.multiply_within.Goals as goal

pub loop-k-preserved : goal.loop-k-preserved
loop-k-preserved c =
    let a = c.args in
    let x = a.factors in
    let pre = c.requires in
    let loop = c.loop-k in
    let test = c.loop-k-test.true in
    let k = loop.k - 1 in
    let back : loop.k ≡ k + 1 = omega (arith, test) in
    let held : Descending a.m.p a.work.now x.d x.f x.t (k + 1) loop.work = subst (λ m. Descending a.m.p a.work.now x.d x.f x.t m loop.work) {x = loop.k} {y = k + 1} back loop.invariant.1 in
    let inside : k ≤ x.d + x.t = omega (arith, loop.invariant.0, test) in (
      omega (arith, inside),
      descending_more c.coefficient.result held inside (omega (arith, inside, pre.1.below, pre.1.room))
          (◌∙◌ {b = product_at a.m.p loop.work x.d x.f x.t k} c.coefficient.ensures (descending_same k held pre.1)),
    )

pub returns : goal.returns
returns c =
    let a = c.args in
    let x = a.factors in
    let pre = c.requires in
    let loop = c.loop-k in
    descending_all pre.1
    (subst (λ m. Descending a.m.p a.work.now x.d x.f x.t m loop.work) {x = loop.k} {y = 0} (omega (arith, c.loop-k-test.false)) loop.invariant.1)
