use mathlib.Core.Path.{◌≡◌, refl, ap, ◌∙◌}
use mathlib.Core.List.{List, []}
use Prim.Native.Nat.{ℕ, ◌+◌, ◌-◌, ◌*◌}
use native.Mathlib.Omega.{arith}
use lib.ListN.{length, get_or, set, take, drop}
use Rattle.laws.specs.Lent.{part_at}
use Rattle.laws.specs.Part.{part, length_part}
use Rattle.meaning.specs.Solver.{dot, projections}
use Rattle.wiedemann.specs.Operator.{rows}
use Rattle.wiedemann.proofs.pass.term.Goals as goal

-- the vector's part, as it is lent
whole : (from n : ℕ) (W : List ℕ) → take (from + n - from) (drop from W) ≡ part from n W
whole from n W = part_at W from (from + n - from) from n refl (omega arith)

pub returns : goal.returns
returns c =
    let a = c.args in
    let o = a.ax.now in
    let n = rows o in
    let W = a.area.now in
    let lent = part a.from (a.from + n - a.from) W in
    let v = part a.from n W in
    let made : ℕ → List ℕ → ℕ = λ k l. dot o.m.p (get_or (projections o.m.p k a.u.now.words.now) a.u.now.index []) l in
    ap (λ x. set W (3 * n + a.i) x)
    (◌∙◌ {b = made (length lent) lent} c.projected.ensures
    (◌∙◌ {b = made (length v) v} {c = made n v} (ap (λ l. made (length l) l) {x = lent} {y = v} (whole a.from n W))
    (ap (λ k. made k v) {x = length v} {y = n} (length_part a.from n W c.requires.places.0))))
