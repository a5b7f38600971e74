use mathlib.Core.Path.{◌≡◌, refl, ap, ◌∙◌}
use mathlib.Core.Logic.{inr}
use Prim.Native.Nat.{◌+◌, ◌*◌}
use native.Mathlib.Nat.{pos_of_ne-zero}
use native.Mathlib.Omega.{arith}
use Rattle.meaning.specs.List.{at}
use Rattle.laws.specs.Written.{Written}
use Rattle.wiedemann.specs.Operator.{rows}
use Rattle.wiedemann.specs.Turns.{region_at, region_first, prepared_other, prepared_first}
use Rattle.wiedemann.proofs.pass.prepare.Goals.{After-copy_within}
use Rattle.wiedemann.proofs.pass.prepare.Goals as goal

-- r in the region that is idle
copied : (c : After-copy_within)
    → let a = c.args in
    let n = rows a.ax.now in
    Written a.area.now (2 * n) n (λ k. at a.area.now (c.region-from.result + k)) c.copy_within.new.work
copied c =
    let t = c.requires in
    let n = rows c.args.ax.now in
    let first : c.region-from.result ≡ 0 =
    c.region-from.ensures ∙ ap (region_at n) c.if-i-eq0.true ∙ region_first n in
    c.copy_within.ensures.copied (omega (arith, first, t.room), omega (arith, t.room), inr (omega (arith, first)))

pub returns-then-i-eq0 : goal.returns-then-i-eq0
returns-then-i-eq0 c =
    let w = copied (goal.at.returns-then-i-eq0 c).After-copy_within in
    rw c.scale_part.ensures
    (prepared_first c.requires c.if-i-eq0.true c.region-from.ensures refl w)

pub returns : goal.returns
returns c =
    rw c.scale_part-2.ensures
    (prepared_other c.requires c.region-from.ensures (pos_of_ne-zero c.if-i-eq0.false))
