use Rattle.wiedemann.specs.Operator.{operator, rows}
use Rattle.checks.specs.Pass.{residual_at}
use Rattle.wiedemann.specs.Pass.{Shortened, shortened_lent, shortened_factors, made, makes_passed}
use Rattle.wiedemann.specs.Projection.{words_of}
use Rattle.recurrence.specs.Factor.{multiplied_lent, factors_taken, product_of}
use Rattle.laws.specs.Lent.{lent}
use Rattle.laws.specs.Part.{length_part}
use Rattle.residue.specs.Prime.{is_modulus_Prime}
use Rattle.meaning.specs.Solver.{projections}
use lib.ListN.{length, get_or}
use native.Mathlib.Omega.{arith}
use Prim.Native.Nat.{ℕ, ◌+◌, ◌-◌, ◌*◌, ◌≤◌}
use mathlib.Core.List.{List, []}
use mathlib.Core.Path.{refl, ◌∙◌}
use Rattle.wiedemann.proofs.pass.pass_of_state.Goals.{After-take_factor-q}
use Rattle.wiedemann.proofs.pass.pass_of_state.Goals as goal

-- the work slice when its part from the test's places on has come back
abbrev returned : After-take_factor-q → List ℕ
returned c =
    let W = c.args.work.now in
    let first = 2 * rows c.args.ax.now + 1 in
    lent W first (length W - first) c.take_factor-q.new.area

-- terms, recurrence and f(A)r, seen from the whole slice
done : (c : After-take_factor-q)
    → let a = c.args in
    let o = a.ax.now in
    let n = rows o in
    Shortened o.m.p (operator o) a.window (get_or (projections o.m.p n a.words.now) a.j []) (n - a.d) (2 * n + 1) (residual_at n) a.work.now c.take_factor-q.result (returned c)
done c =
    let a = c.args in
    let W = a.work.now in
    let n = rows a.ax.now in
    let first = 2 * n + 1 in
    let room = c.requires.room in
    let below = c.requires.below in
    let m = length W - first in
    let fits : first + m ≤ length W = omega (arith, room) in
    let call = c.take_factor-q in
    shortened_lent first first (residual_at n) m W (omega arith) refl refl (omega arith) fits (omega (arith, room, below)) (call.auto.area ∙ length_part first m W fits) call.ensures

pub take_factor-q-requires-clause-left : goal.take_factor-q-requires-clause-left
take_factor-q-requires-clause-left c =
    let s = c.requires in
    let below = s.below in (
      omega (arith, below),
      omega (arith, c.args.ax.now.valid.valid.sized),
      words_of (rows c.args.ax.now) c.args.words.now (omega (arith, below)) s.words_taken_law,
    )

pub slice_bounds-multiply-end : goal.slice_bounds-multiply-end
slice_bounds-multiply-end c =
    let long = (done (goal.at.slice_bounds-multiply-end c).After-take_factor-q).same_length in
    omega (arith, c.take_factor-q.ensures.short, c.generator_at-f.ensures.0, c.args.ax.now.valid.valid.sized, c.requires.below, c.requires.room, long)

pub returns : goal.returns
returns c =
    let a = c.args in
    let o = a.ax.now in
    let s = c.requires in
    let W = a.work.now in
    let found = done (goal.at.returns c).After-take_factor-q in
    let t = c.take_factor-q.result.degree in
    let f = c.generator_at-f.result in
    let place = c.generator_at-f.ensures.0 in
    let end = f + t + 1 in
    let short = found.short in
    let long = found.same_length in
    let below = s.below in
    let room = s.room in
    let fits : end ≤ length W = omega (arith, short, place, below, room) in
    let prime = is_modulus_Prime o.m.p o.prime in
    let factors = shortened_factors a.d below found prime o.valid.valid.sized s.factor f end place (omega arith) fits in
    let product =
    multiplied_lent end (omega (arith, short, below, place)) (omega arith) (omega (arith, fits, long))
    (c.multiply.auto.work ∙ length_part 0 end (returned (goal.at.returns c).After-take_factor-q) (omega (arith, fits, long)))
    (product_of _ c.multiply.ensures (factors_taken prime.two_le o.valid.valid.small factors)) in
    makes_passed found.made found.counted (product.same_length ∙ long) (λ qs. made a.d below found room f place product qs)
