use mathlib.Core.Path.{◌≡◌, ◌∙◌}
use Prim.Native.Nat.{◌+◌, ◌-◌, ◌*◌}
use native.Mathlib.Omega.{arith}
use mathlib.Core.Logic.{inl, inr}
use Rattle.meaning.specs.List.{at}
use Rattle.laws.specs.Written.{Written}
use Rattle.recurrence.specs.Recurrence.{reversed_lent}
use Rattle.wiedemann.specs.Operator.{operator, rows}
use Rattle.wiedemann.specs.Window.{copied_one, copied_vector, tried_zero, tried_again}
use Rattle.wiedemann.proofs.window.test.Goals.{After-copy_within}
use Rattle.wiedemann.proofs.window.test.Goals as goal

-- r is copied to the front
copied : (c : After-copy_within)
    → let a = c.args in
    let n = rows a.ax.now in
    Written a.area.now 0 n (λ i. at a.area.now (3 * n + i)) c.copy_within.new.work
copied c =
    let room = c.requires.room.0 in c.copy_within.ensures.copied (omega (arith, room), omega (arith, room), inl (omega arith))

pub conclude-done-requires-clause-leading : goal.conclude-done-requires-clause-leading
conclude-done-requires-clause-leading c =
    let a = c.args in
    let pre = c.requires in
    let A = operator a.ax.now in
    let w = copied (goal.at.conclude-done-requires-clause-leading c).After-copy_within in (
      omega arith,
      omega (arith, w.same_length, pre.room.0, pre.degree.1),
      omega (arith, a.ax.now.valid.valid.sized, pre.degree.0),
      copied_one A a.left w pre.room.1,
      copied_vector A a.left pre.room.0 w pre.room.2,
    )

pub returns-then-zero : goal.returns-then-zero
returns-then-zero c =
    let a = c.args in
    let pre = c.requires in
    let w = copied (goal.at.returns-then-zero c).After-copy_within in
    let done = c.conclude-done.ensures in
    let long = done.1.2.same_length ∙ done.1.1.same_length ∙ w.same_length in
    let back = c.copy_within-then-zero.ensures.copied (omega (arith, pre.room.0, long), omega (arith, pre.room.0, long), inr (omega arith)) in
    (done.0, tried_zero a.ax.now.m.p (operator a.ax.now) a.left a.degree pre.degree.1 pre.room.0 w done.1.1 done.1.2 c.is_zero-zero.ensures c.if-zero.true back)

pub returns-else-zero : goal.returns-else-zero
returns-else-zero c =
    let a = c.args in
    let pre = c.requires in
    let w = copied (goal.at.returns-else-zero c).After-copy_within in
    let done = c.conclude-done.ensures in
    let long = done.1.2.same_length ∙ done.1.1.same_length ∙ w.same_length in
    let f = 6 * rows a.ax.now + (2 * a.left + 2) in
    let m = f + (a.degree + 1) - f in
    let size : m ≡ a.degree + 1 = omega arith in
    let again = reversed_lent _ f a.degree m _ size (omega (arith, size, pre.degree.1, pre.room.0, long)) c.reverse.ensures in
    (done.0, tried_again a.ax.now.m.p (operator a.ax.now) a.left a.degree pre.degree.1 pre.room.0 w done.1.1 done.1.2 c.is_zero-zero.ensures c.if-zero.false again)
