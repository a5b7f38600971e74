use mathlib.Core.Path.{◌≡◌}
use Prim.Native.Nat.{◌+◌, ◌-◌}
use native.Mathlib.Omega.{arith}
use Rattle.laws.specs.Lent.{lent}
use Rattle.recurrence.specs.Recurrence.{Reversed, reversed_lent}
use Rattle.wiedemann.specs.Operator.{operator}
use Rattle.wiedemann.specs.Window.{turned_leading}
use Rattle.wiedemann.proofs.window.conclude.Goals.{After-reverse}
use Rattle.wiedemann.proofs.window.conclude.Goals as goal

-- q in reverse order
turned : (c : After-reverse)
    → let a = c.args in
    Reversed a.area.now a.f a.degree (lent a.area.now a.f (a.f + (a.degree + 1) - a.f) c.reverse.new.v)
turned c =
    let a = c.args in
    let n = a.f + (a.degree + 1) - a.f in
    let size : n ≡ a.degree + 1 = omega arith in
    reversed_lent a.area.now a.f a.degree n c.reverse.new.v size (omega (arith, size, c.requires.leading.1)) c.reverse.ensures

pub apply_within-requires : goal.apply_within-requires
apply_within-requires c =
    let a = c.args in
    let pre = c.requires in
    (pre.degree, turned_leading a.ax.now.m.p (operator a.ax.now) a.f a.degree pre.leading.0 pre.leading.1 (turned (goal.at.apply_within-requires c).After-reverse) pre.leading.3 pre.leading.4)

pub returns : goal.returns
returns c =
    let done = c.apply_within.ensures in
    (done.0, (_, turned (goal.at.returns c).After-reverse, done.1))
