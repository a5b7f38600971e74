use Rattle.wiedemann.specs.Operator.{operator, rows, projection}
use Rattle.laws.specs.Lent.{same_take}
use Rattle.wiedemann.specs.declared.pass.Pass.{Pass}
use Rattle.checks.specs.declared.Products.{Products}
use Rattle.checks.specs.Products.{products_add, products_few, wrapped_few}
use Rattle.wiedemann.specs.Turns.{vector_terms}
use Rattle.wiedemann.specs.Pass.{shortened}
use Rattle.checks.specs.Valid.{valid_scaled, Vector}
use Rattle.laws.specs.Part.{part}
use native.Mathlib.Omega.{arith}
use Prim.Native.Nat.{◌+◌, ◌-◌, ◌*◌}
use mathlib.Core.Path.{refl, sym, ap, ◌∙◌, subst}
use Rattle.wiedemann.proofs.pass.factor_of_terms.Goals as goal

pub recurrence_of_terms-t-requires-clause-room : goal.recurrence_of_terms-t-requires-clause-room
recurrence_of_terms-t-requires-clause-room c =
    let a = c.args in
    let o = a.ax.now in
    let done = c.terms-first.ensures.1 in (
      omega (arith, done.same_length, c.requires.room.0),
      rw done.terms (vector_terms o.m.p (operator o) a.left (projection o a.u.now) (part 0 (rows o) a.area.now) o.valid.valid.positive),
    )

pub apply_within-more-requires : goal.apply_within-more-requires
apply_within-more-requires c =
    let a = c.args in
    let o = a.ax.now in
    let pre = c.requires in
    let n = rows o in
    let done = c.terms-first.ensures.1 in
    let found = c.recurrence_of_terms-t.ensures in
    let room = pre.room.0 in
    let long = done.same_length in (
      omega (arith, found.short, pre.left.1),
      record {
        above = omega arith;
        room = omega (arith, found.same_length, long, found.short, room);
        one = found.monic;
        elements =
            subst (λ l. Vector o.m.p n l) {x = part 0 n a.area.now}
            (sym {b = part 0 n a.area.now} (◌∙◌ {c = part 0 n a.area.now} (same_take 0 n (3 * n) _ _ (omega arith) (omega (arith, long, room)) found.same_length found.before) done.front)) pre.room.1;
      },
    )

pub returns : goal.returns
returns c =
    let a = c.args in
    let first = c.terms-first.ensures in
    let found = c.recurrence_of_terms-t in
    let more = c.apply_within-more.ensures in
    let t = found.result in
    let valid = valid_scaled _ a.ax.now.valid.valid in
    let low = c.requires.left.1 in
    let few = wrapped_few (products_few valid (omega (arith, low)) first.0) (products_few valid (omega (arith, found.ensures.short, low)) more.0) in
    shortened (omega (arith, c.requires.room.0)) first.1 found.ensures more.1
    (ap {B = Pass} (λ (k : Products). record { left = a.left; degree = t; applications = k.made; multiplied = k.multiplied })
    (c.add-done.ensures ∙ few ∙ products_add (operator a.ax.now) (2 * a.left - 1) t (2 * a.left - 1 + t) first.0 more.0 refl))
