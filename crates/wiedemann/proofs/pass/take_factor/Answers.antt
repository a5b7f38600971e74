use Rattle.wiedemann.specs.Operator.{rows}
use mathlib.Core.Path.{refl, sym, ◌∙◌}
use Prim.Native.Nat.{◌+◌, ◌-◌, ◌*◌, ◌≤◌}
use native.Mathlib.Omega.{arith}
use lib.ListN.{length}
use Rattle.laws.specs.Part.{length_part}
use Rattle.wiedemann.specs.Pass.{shortened_lent, shortened_window}
use Rattle.wiedemann.proofs.pass.take_factor.Goals as goal

pub returns-then-window-eq0 : goal.returns-then-window-eq0
returns-then-window-eq0 c =
    let a = c.args in
    let W = a.area.now in
    let n = rows a.ax.now in
    let m = length W - 3 * n in
    let room = c.requires.room.0 in
    let fits : 3 * n + m ≤ length W = omega (arith, room) in
    let call = c.factor_of_terms in
    shortened_window (sym c.if-window-eq0.true)
    (shortened_lent 0 (3 * n) (3 * n) m W (omega arith) refl refl (omega arith) fits (omega (arith, room)) (call.auto.area ∙ length_part (3 * n) m W fits) call.ensures)
