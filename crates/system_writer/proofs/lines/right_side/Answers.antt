use Rattle.line_writer.specs.Adds.{adds_as, adds_then}
use Rattle.system_writer.specs.Writes.{right_text_law}
use Rattle.system_writer.proofs.lines.right_side.Goals as goal

pub returns : goal.returns
returns c =
    adds_as (right_text_law c.args.right.now) (adds_then c.place_lines.ensures c.put.ensures.adds)
