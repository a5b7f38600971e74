use mathlib.Core.Path.{◌≡◌, refl, sym, ap, ◌∙◌, subst}
use Prim.Native.Nat.{◌+◌, ◌-◌, ◌*◌, ◌≤◌}
use native.Mathlib.Omega.{arith}
use Rattle.checks.specs.Valid.{valid_scaled, Vector}
use Rattle.residue.specs.Prime.{is_modulus_Prime}
use Rattle.checks.specs.declared.Products.{Products}
use Rattle.checks.specs.Products.{products_with, products_add, products_few, wrapped_few}
use Rattle.wiedemann.specs.Operator.{operator, rows, projection}
use Rattle.wiedemann.specs.declared.pass.Pass.{Pass}
use Rattle.wiedemann.specs.Window.{room_as, listening_low, listening_one, listened_all, unasked_none, finished}
use Rattle.wiedemann.proofs.window.finish.Goals.{After-listen-all, After-add}
use Rattle.wiedemann.proofs.window.finish.Goals as goal

pub listen-all-requires-clause-unasked : goal.listen-all-requires-clause-unasked
listen-all-requires-clause-unasked c =
    let a = c.args in let o = a.ax.now in unasked_none o.m.p (operator o) a.left (projection o a.u.now) _ _

-- L is at most 2 × left
short : (c : After-listen-all) → c.listen-all.result.steps.L ≤ 2 * c.args.left
short c =
    let l = c.listen-all.ensures.listening in
    omega (arith, listening_low (is_modulus_Prime _ c.args.ax.now.prime) (room_as l.iterated.same_length c.requires.room.1) l, l.high)

pub conclude-more-requires : goal.conclude-more-requires
conclude-more-requires c =
    let pre = c.requires in
    let o = c.args.ax.now in
    let l = c.listen-all.ensures.listening in
    let room = room_as l.iterated.same_length pre.room.1 in
    let low = short (goal.at.conclude-more-requires c).After-listen-all in
    record {
      degree = omega (arith, low, room.low);
      leading = (
        omega arith,
        omega (arith, room.room, low),
        omega (arith, room.sized, room.low),
        listening_one (is_modulus_Prime o.m.p o.prime) room l,
        subst (Vector o.m.p (rows o)) (sym l.iterated.front) pre.room.2,
      );
    }

-- the products of the terms and of the test
first : (c : After-add)
    → let a = c.args in
    c.add.result ≡ products_with (2 * a.left - 1 + a.tried.made) (operator a.ax.now)
first c =
    let a = c.args in
    let A = operator a.ax.now in
    let all = c.listen-all.ensures in
    let made : c.listen-all.result.done.made ≡ 2 * a.left - 1 = omega (arith, all.listening.counted, listened_all all) in
    let pre = c.requires in
    let valid = valid_scaled _ a.ax.now.valid.valid in
    let l = all.listening in
    c.add.ensures ∙ wrapped_few (products_few valid (omega (arith, l.counted, l.high, pre.room.1.low)) l.products) (products_few valid (omega (arith, pre.tried.0)) pre.tried.1)
    ∙ products_add A (2 * a.left - 1) a.tried.made (2 * a.left - 1 + a.tried.made)
    (all.listening.products ∙ ap {B = Products} (λ j. products_with j A) made) c.requires.tried.1 refl

pub returns : goal.returns
returns c =
    let a = c.args in
    let all = c.listen-all.ensures in
    let t = c.listen-all.result.steps.L in
    let k = a.tried.made in
    let more = c.conclude-more.ensures in
    let pre = c.requires in
    let valid = valid_scaled _ a.ax.now.valid.valid in
    let all_made = first (goal.at.returns c).After-add in
    let few =
    wrapped_few (products_few valid (omega (arith, pre.tried.0, pre.room.1.low)) all_made)
    (products_few valid (omega (arith, short (goal.at.returns c).After-listen-all, pre.room.1.low)) more.0) in
    finished k (is_modulus_Prime a.ax.now.m.p a.ax.now.prime) c.requires.room.1 all more.1 refl
    (ap {B = Pass} (λ (x : Products). record { left = a.left; degree = t; applications = x.made; multiplied = x.multiplied })
    (c.add-done.ensures ∙ few ∙ products_add (operator a.ax.now) (2 * a.left - 1 + k) t (2 * a.left - 1 + k + t) all_made more.0 refl))
