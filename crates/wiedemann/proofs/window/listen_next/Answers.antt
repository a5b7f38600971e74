use native.Mathlib.Omega.{arith}
use Rattle.checks.specs.Valid.{valid_scaled}
use Rattle.checks.specs.Products.{products_few}
use Rattle.wiedemann.specs.Window.{room_as, listening_turning, listening_to_hear, listening_next}
use Rattle.wiedemann.proofs.window.listen_next.Goals as goal

pub advance_scaled-done-requires : goal.advance_scaled-done-requires
advance_scaled-done-requires c =
    let room = c.requires.room in
    let l = c.requires.listening.0 in
    let valid = valid_scaled _ c.args.ax.now.valid.valid in
    (listening_turning valid room.1 room.2 l, products_few valid (omega (arith, l.counted, l.high, room.1.low)) l.products)

pub hear-requires : goal.hear-requires
hear-requires c =
    let pre = c.requires in
    let next = c.advance_scaled-done.ensures in
    let valid = valid_scaled _ c.args.ax.now.valid.valid in
    record { words = pre.words; room = room_as next.1.same_length pre.room.1; to_hear = listening_to_hear valid pre.room.1 pre.room.2 pre.listening.0 pre.listening.1 next.0 next.1 }

pub returns : goal.returns
returns c =
    let pre = c.requires in
    let next = c.advance_scaled-done.ensures in
    let valid = valid_scaled _ c.args.ax.now.valid.valid in
    listening_next valid pre.room.1 pre.room.2 pre.listening.0 pre.listening.1 next.0 next.1 c.hear.ensures
