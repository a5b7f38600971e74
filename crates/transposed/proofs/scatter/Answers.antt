use mathlib.Core.Path.{◌≡◌, sym, ap, ap₂, ◌∙◌, subst, refl}
use Prim.Native.Nat.{◌<◌}
use native.Mathlib.Omega.{arith}
use lib.ListN.{length, get_or, set}
use Rattle.meaning.specs.Field.{plus, times}
use Rattle.checks.specs.Valid.{Vector}
use Rattle.transposed.specs.Transposed.{scattered, scattered_none, scattered_more, vector_scattered}
use Rattle.modular.specs.Modulus.{Multiplies, multiplies_of, added_of}
use Rattle.transposed.proofs.scatter.Goals.{After-of-multiplier, At-loop-k, In-loop-k}
use Rattle.transposed.proofs.scatter.Goals as goal

vector : (c : At-loop-k) → Vector c.args.m.p (length c.args.out.now) c.loop-k.out
vector c =
    let at = c.args in
    subst (λ l. Vector at.m.p (length at.out.now) l) (sym c.loop-k.invariant)
    (vector_scattered at.m.p (get_or at.v.now at.i 0) at.columns.now at.values.now at.from c.loop-k.k (length at.out.now) at.out.now
    (omega (arith, c.requires.i_in_bounds.1.below at.i (omega (arith, c.requires.i_in_bounds.0, c.requires.i_in_bounds.1.places)))) refl)

-- an entry's column is a place of out
inside : (c : At-loop-k) → c.loop-k.k < c.args.to → get_or c.args.columns.now c.loop-k.k 0 < length c.loop-k.out
inside c test = omega (arith, c.requires.by_index c.loop-k.k (omega (arith, test, c.requires.i_in_bounds.4)), (vector c).places)

made : (c : After-of-multiplier)
    → let at = c.args in
    (c.of-multiplier.result.constant ≡ get_or at.v.now at.i 0) × Multiplies at.m.p c.of-multiplier.result
made c =
    multiplies_of c.of-multiplier.result c.args.m (get_or c.args.v.now c.args.i 0) c.of-multiplier.ensures c.requires.i_in_bounds.2
    (c.requires.i_in_bounds.1.below c.args.i (omega (arith, c.requires.i_in_bounds.0, c.requires.i_in_bounds.1.places)))

pub bounds-v-i : goal.bounds-v-i
bounds-v-i c = omega (arith, c.requires.i_in_bounds.0)

pub loop-k-init : goal.loop-k-init
loop-k-init c =
    let at = c.args in
    scattered_none at.m.p (get_or at.v.now at.i 0) at.columns.now at.values.now at.from (length at.out.now) at.out.now c.requires.i_in_bounds.6

pub bounds-out-j : goal.bounds-out-j
bounds-out-j c = inside (goal.at.bounds-out-j c).At-loop-k c.loop-k-test.true

pub loop-k-preserved : goal.loop-k-preserved
loop-k-preserved c =
    let at = c.args in
    let loop = c.loop-k in
    let k = loop.k in
    let x = get_or at.v.now at.i 0 in
    let columns = at.columns.now in
    let values = at.values.now in
    let out = at.out.now in
    let test = c.loop-k-test.true in
    let held = vector (goal.at.loop-k-preserved c).At-loop-k in
    let j = get_or columns k 0 in
    let y = get_or loop.out j 0 in
    let so_far = scattered at.m.p x at.from k columns values out in
    let multiplier = made (goal.at.loop-k-preserved c).After-of-multiplier in
    ap (set loop.out j)
    (c.added.ensures
    ∙ added_of at.m.p c.of-multiplier.result multiplier.1 (get_or values k 0) (c.type_inv.values k).fits y
    (held.below j (omega (arith, held.places, inside (goal.at.loop-k-preserved c).At-loop-k test)))
    ∙ ap (λ m. plus at.m.p y (times at.m.p m (get_or values k 0))) multiplier.0
    ∙ ap (λ l. plus at.m.p (get_or l j 0) (times at.m.p x (get_or values k 0))) loop.invariant)
    ∙ ap (λ l. set l j (plus at.m.p (get_or so_far j 0) (times at.m.p x (get_or values k 0)))) loop.invariant
    ∙ scattered_more at.m.p x columns values at.from k out (omega arith) (c.requires.by_index k (omega (arith, test, c.requires.i_in_bounds.4)))

pub shape_of-out : goal.shape_of-out
shape_of-out c = (vector (goal.at.shape_of-out c).At-loop-k).places
