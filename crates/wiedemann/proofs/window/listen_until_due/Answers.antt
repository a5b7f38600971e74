use mathlib.Core.Path.{sym, subst}
use Rattle.checks.specs.Valid.{Vector}
use Rattle.wiedemann.specs.Operator.{operator, rows, projection}
use Rattle.wiedemann.specs.Window.{room_as, listening_from, unasked_first, listened_from}
use Rattle.wiedemann.proofs.window.listen_until_due.Goals as goal

pub listen-requires : goal.listen-requires
listen-requires c =
    let a = c.args in
    let pre = c.requires in
    let o = a.ax.now in
    let first = c.listen_first-first.ensures in
    let held = first.0.iterated in record {
      words = pre.words;
      room = (pre.room.0, room_as held.same_length pre.room.1, subst (Vector o.m.p (rows o)) (sym held.front) pre.room.2);
      listening = listening_from (sym held.same_length) (sym held.front) first.0;
      unasked = unasked_first o.m.p (operator o) a.left a.window (projection o a.u.now) _ first.1;
    }

pub returns : goal.returns
returns c =
    let held = c.listen_first-first.ensures.0.iterated in
    listened_from held.same_length held.front c.listen.ensures
