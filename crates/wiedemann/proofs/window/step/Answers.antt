use mathlib.Core.Path.{◌∙◌}
use Prim.Native.Nat.{◌+◌, ◌-◌, ◌*◌, ◌≤◌}
use native.Mathlib.Omega.{arith}
use lib.ListN.{length}
use Rattle.laws.specs.Part.{length_part}
use Rattle.wiedemann.specs.Operator.{rows}
use Rattle.wiedemann.specs.Window.{never_refused, step_lent, step_never}
use Rattle.wiedemann.proofs.window.step.Goals as goal

pub unwrap-requires : goal.unwrap-requires
unwrap-requires c =
    let a = c.args in
    let o = a.ax.now in
    let room = c.requires.room in
    let n = 3 * rows o in
    let m = n + (8 * a.left + 8) - n in
    never_refused _ _ _ _ _ c.make_step.ensures
    (step_never o.m.p (rows o) a.left a.area.now m (omega arith) (omega (arith, room.room)) o.prime room.low c.requires.to_step)

pub returns : goal.returns
returns c =
    let a = c.args in
    let o = a.ax.now in
    let n = 3 * rows o in
    let m = n + (8 * a.left + 8) - n in
    let fits : n + m ≤ length a.area.now = omega (arith, c.requires.room.room) in
    step_lent o.m.p (rows o) a.left a.area.now m (omega arith) fits _ (c.make_step.auto.work ∙ length_part n m a.area.now fits) c.requires.to_step c.make_step.ensures c.unwrap.ensures
