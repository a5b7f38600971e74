use Rattle.checks.specs.Products.{products_zero}
use Rattle.wiedemann.specs.Operator.{operator}
use Rattle.wiedemann.specs.Window.{room_as, begun_to_hear, listening_first}
use Rattle.wiedemann.proofs.window.listen_first.Goals as goal

pub hear-requires : goal.hear-requires
hear-requires c =
    let room = c.requires.room in
    let begun = c.start_steps.ensures in
    let to_hear = begun_to_hear room.0 room.1 room.2 begun in
    record { words = c.requires.words; room = room_as begun.same_length room.1; to_hear = rw c.default.ensures.0 to_hear }

pub returns : goal.returns
returns c =
    let room = c.requires.room in
    let none = c.default.ensures in
    listening_first room.0 room.1 c.start_steps.ensures none.0 (products_zero (operator c.args.ax.now) none.0 none.1) c.hear.ensures
