use mathlib.Core.Path.{◌≡◌, sym, ◌∙◌, subst}
use Prim.Native.Nat.{◌*◌, ◌<◌}
use mathlib.Core.Bool.{true, false, not, ◌&&◌}
use lib.Dec.{ltb}
use borrow.Author.Tests.{ltb-true, not-true}
use Rattle.laws.specs.Bool.{and_left, and_right}
use Rattle.laws.specs.Part.{part}
use Rattle.checks.specs.Valid.{Vector}
use Rattle.residue.specs.Prime.{is_modulus_Prime}
use Rattle.wiedemann.specs.Operator.{operator, rows, projection}
use Rattle.wiedemann.specs.Window.{due_by, room_as, listening_from, listening_due, unasked_more}
use Rattle.wiedemann.proofs.window.listen.Goals.{In-loop-area}
use Rattle.wiedemann.proofs.window.listen.Goals as goal

-- a term is missing, and no test is due
both : (c : In-loop-area)
    → let h = c.loop-area.heard in
    let a = c.args in
    ltb h.terms (2 * a.left) && not (due_by a.window h.zeros h.steps.L) ≡ true
both c = sym c.goes_on.ensures ∙ c.loop-area-test.true

more : (c : In-loop-area) → c.loop-area.heard.terms < 2 * c.args.left
more c = ltb-true _ _ (and_left _ _ (both c))

not_yet : (c : In-loop-area)
    → let h = c.loop-area.heard in
    due_by c.args.window h.zeros h.steps.L ≡ false
not_yet c =
    let h = c.loop-area.heard in
    not-true _ (and_right (ltb h.terms (2 * c.args.left)) _ (both c))

pub listen_next-heard-requires : goal.listen_next-heard-requires
listen_next-heard-requires c =
    let pre = c.requires in
    let inv = c.loop-area.invariant.0 in
    let held = inv.iterated in record {
      words = pre.words;
      room = (pre.room.0, room_as held.same_length pre.room.1, subst (Vector _ _) (sym held.front) pre.room.2);
      listening = (listening_from (sym held.same_length) (sym held.front) inv, more (goal.at.listen_next-heard-requires c).In-loop-area);
    }

pub loop-area-preserved : goal.loop-area-preserved
loop-area-preserved c =
    let a = c.args in
    let o = a.ax.now in
    let loop = c.loop-area in
    let made = c.listen_next-heard.ensures in
    let held = loop.invariant.0.iterated in
    let room = room_as held.same_length c.requires.room.1 in (
      listening_from held.same_length held.front made.0,
      unasked_more o.m.p (operator o) a.left a.window (projection o a.u.now) (part 0 (rows o) a.area.now) made.1 loop.invariant.1 (listening_due (is_modulus_Prime _ o.prime) room loop.invariant.0 _ ∙ not_yet (goal.at.loop-area-preserved c).In-loop-area),
    )
