use mathlib.Core.Path.{◌∙◌}
use Prim.Native.Nat.{◌+◌, ◌-◌, ◌*◌, ◌≤◌}
use native.Mathlib.Omega.{arith}
use lib.ListN.{length}
use Rattle.laws.specs.Part.{length_part}
use Rattle.wiedemann.specs.Operator.{rows}
use Rattle.wiedemann.specs.Window.{never_refused, begun_lent, begun_never}
use Rattle.wiedemann.proofs.window.start_steps.Goals as goal

pub unwrap-requires : goal.unwrap-requires
unwrap-requires c =
    let a = c.args in
    let o = a.ax.now in
    let n = 3 * rows o in
    let m = n + (8 * a.left + 8) - n in
    never_refused _ _ _ _ _ c.begin_steps.ensures
    (begun_never o.m.p (rows o) a.left a.area.now m (omega arith) (omega (arith, c.requires.room)) o.prime c.requires.low)

pub returns : goal.returns
returns c =
    let a = c.args in
    let o = a.ax.now in
    let n = 3 * rows o in
    let m = n + (8 * a.left + 8) - n in
    let fits : n + m ≤ length a.area.now = omega (arith, c.requires.room) in
    begun_lent o.m.p (rows o) a.left a.area.now m (omega arith) fits _ (c.begin_steps.auto.work ∙ length_part n m a.area.now fits) c.begin_steps.ensures c.unwrap.ensures
