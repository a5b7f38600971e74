use mathlib.Core.Path.{◌≡◌, refl, sym, ap, ◌∙◌, subst}
use Prim.Native.Nat.{◌+◌, ◌-◌, ◌*◌, ◌≤◌, ◌<◌}
use native.Mathlib.Omega.{arith}
use lib.ListN.{length}
use Rattle.laws.specs.Part.{length_part}
use Rattle.laws.specs.Lent.{lent, part_at, part_of_part}
use Rattle.checks.specs.Valid.{valid_scaled, Vector}
use Rattle.checks.specs.declared.Products.{Products}
use Rattle.checks.specs.Products.{products_with, products_zero, products_add, products_few, wrapped_few}
use Rattle.residue.specs.Prime.{is_modulus_Prime}
use Rattle.wiedemann.specs.Operator.{operator, rows, projection}
use Rattle.wiedemann.specs.declared.pass.Pass.{Pass}
use Rattle.wiedemann.specs.Window.{Returned, returned_length, heard_residual, heard_one, heard_low, heard_again, heard_room, heard_vector, finished_shortened, window_whole, window_on, window_early}
use Rattle.wiedemann.proofs.window.factor_by_window.Goals.{After-listen_until_due-heard}
use Rattle.wiedemann.proofs.window.factor_by_window.Goals as goal

pub listen_until_due-heard-requires : goal.listen_until_due-heard-requires
listen_until_due-heard-requires c =
    let a = c.args in
    let pre = c.requires in
    let o = a.ax.now in
    let n = rows o in
    let B = a.area.now in
    let m = length B - 3 * n in
    let fits : 3 * n + m ≤ length B = omega (arith, pre.room.0) in
    let long = length_part (3 * n) m B fits in
    record {
      words = pre.left.2;
      room = (
        pre.left.0,
        record { sized = o.valid.valid.sized; low = pre.left.1; room = omega (arith, long, pre.room.0) },
        subst (Vector o.m.p n) (sym (part_of_part 0 n (3 * n) m B (omega (arith, pre.room.0)) fits ∙ part_at B (3 * n + 0) n (3 * n) n (omega arith) refl)) pre.room.1,
      );
    }

-- the part from r on was lent, and has come back
known : (c : After-listen_until_due-heard)
    → let a = c.args in
    let o = a.ax.now in
    Returned o.m.p (operator o) a.left a.window (projection o a.u.now) a.area.now (length a.area.now - 3 * rows o) c.listen_until_due-heard.result c.listen_until_due-heard.new.area
known c =
    let a = c.args in
    let pre = c.requires in
    let o = a.ax.now in
    let n = rows o in
    let m = length a.area.now - 3 * n in
    let call = c.listen_until_due-heard in
    record {
      prime = is_modulus_Prime o.m.p o.prime;
      sized = o.valid.valid.sized;
      low = pre.left.1;
      fits = omega (arith, pre.room.0);
      room = omega (arith, pre.room.0);
      same_length = call.auto.area ∙ length_part (3 * n) m a.area.now (omega (arith, pre.room.0));
      heard = call.ensures;
    }

pub finish-requires : goal.finish-requires
finish-requires c =
    let pre = c.requires in
    let none = c.default.ensures in
    let B = c.args.area.now in
    let back = known (goal.at.finish-requires c).After-listen_until_due-heard in
    let long = returned_length back in
    let n = 3 * rows c.args.ax.now in
    let B₁ = lent B n (length B - n) c.listen_until_due-heard.new.area in
    let again = ap (λ k. k - n) long in
    record {
      words = pre.left.2;
      room = (pre.left.0, heard_room back B₁ (length B₁ - n) again refl, heard_vector back B₁ (length B₁ - n) again refl pre.room.1);
      listening = heard_again back B₁ (length B₁ - n) again refl;
      tried = (omega (arith, none.0), products_zero (operator c.args.ax.now) none.0 none.1);
    }

pub returns-then-heard-left : goal.returns-then-heard-left
returns-then-heard-left c =
    let n = rows c.args.ax.now in
    let B = c.args.area.now in
    let back = known (goal.at.returns-then-heard-left c).After-listen_until_due-heard in
    let long = returned_length back in
    let B₁ = lent B (3 * n) (length B - 3 * n) c.listen_until_due-heard.new.area in
    let m = length B₁ - 3 * n in
    let fits : 3 * n + m ≤ length B₁ = omega (arith, long, c.requires.room.0) in
    finished_shortened back B₁ m (ap (λ k. k - 3 * n) long) refl c.default.result.made long (c.finish.auto.area ∙ length_part (3 * n) m B₁ fits) (window_whole back c.default.ensures.0 c.if-heard-left.true) c.finish.ensures

pub test-tested-requires : goal.test-tested-requires
test-tested-requires c =
    let pre = c.requires in
    let o = c.args.ax.now in
    let back = known (goal.at.test-tested-requires c).After-listen_until_due-heard in
    record {
      degree = (back.low, omega (arith, heard_low back, back.heard.listening.high));
      room = (
        omega (arith, returned_length back, pre.room.0),
        heard_one back,
        subst (Vector o.m.p (rows o)) (sym (heard_residual back)) pre.room.1,
      );
    }

pub returns-then-tested : goal.returns-then-tested
returns-then-tested c =
    let a = c.args in
    let A = operator a.ax.now in
    let back = known (goal.at.returns-then-tested c).After-listen_until_due-heard in
    let l = back.heard.listening in
    let heard = c.listen_until_due-heard.result in
    let t = heard.steps.L in
    let i = heard.terms in
    let more : i < 2 * a.left = omega (arith, l.high, c.if-heard-left.false) in
    let test = c.test-tested.ensures in
    let made : heard.done.made ≡ i - 1 = omega (arith, l.counted) in
    let valid = valid_scaled _ a.ax.now.valid.valid in
    let few = wrapped_few (products_few valid (omega (arith, l.counted, l.high, back.low)) l.products) (products_few valid (omega (arith, heard_low back, l.high, back.low)) test.0) in
    window_early back more test.1 c.if-tested.true refl
    (ap {B = Pass} (λ (x : Products). record { left = a.left; degree = t; applications = x.made; multiplied = x.multiplied })
    (c.add-done.ensures ∙ few ∙ products_add A (i - 1) t (i - 1 + t) (l.products ∙ ap {B = Products} (λ k. products_with k A) made) test.0 refl))

pub finish-requires-2 : goal.finish-requires-2
finish-requires-2 c =
    let pre = c.requires in
    let A = operator c.args.ax.now in
    let back = known (goal.at.finish-requires-2 c).After-listen_until_due-heard in
    let long = c.test-tested.ensures.1.same_length ∙ returned_length back in
    let test = c.test-tested.ensures in
    let rest = test.1.failed c.if-tested.false in
    let B₂ = c.test-tested.new.area in
    let n = 3 * rows c.args.ax.now in
    let again = ap (λ k. k - n) long in
    let made = ap (λ (x : Products). x.made) test.0 in
    record {
      words = pre.left.2;
      room = (pre.left.0, heard_room back B₂ (length B₂ - n) again rest, heard_vector back B₂ (length B₂ - n) again rest pre.room.1);
      listening = heard_again back B₂ (length B₂ - n) again rest;
      tried = (omega (arith, made, heard_low back, back.heard.listening.high, back.low), test.0 ∙ ap {B = Products} (λ k. products_with k A) (sym made));
    }

pub returns : goal.returns
returns c =
    let a = c.args in
    let n = rows a.ax.now in
    let back = known (goal.at.returns c).After-listen_until_due-heard in
    let long = c.test-tested.ensures.1.same_length ∙ returned_length back in
    let test = c.test-tested in
    let made = ap (λ (x : Products). x.made) test.ensures.0 in
    let more : c.listen_until_due-heard.result.terms < 2 * a.left = omega (arith, back.heard.listening.high, c.if-heard-left.false) in
    let B₂ = test.new.area in
    let m = length B₂ - 3 * n in
    let fits : 3 * n + m ≤ length B₂ = omega (arith, long, c.requires.room.0) in
    finished_shortened back B₂ m (ap (λ k. k - 3 * n) long) (test.ensures.1.failed c.if-tested.false) test.result.done.made long (c.finish-2.auto.area ∙ length_part (3 * n) m B₂ fits)
    (window_on back more test.ensures.1 made c.if-tested.false) c.finish-2.ensures
