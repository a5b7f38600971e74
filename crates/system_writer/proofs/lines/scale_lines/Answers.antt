use mathlib.Core.Path.{sym, ◌∙◌}
use lib.ListN.{length}
use Rattle.line_writer.specs.Adds.{adds_none, adds_as}
use Rattle.system_writer.specs.Writes.{scales_none, scales_text}
use Rattle.system_writer.proofs.lines.scale_lines.Goals as goal

pub returns-then-all_ones : goal.returns-then-all_ones
returns-then-all_ones c =
    let a = c.args in
    adds_as (sym (scales_none (length a.scales.now) a.scales.now (sym c.all_ones.ensures ∙ c.if-all_ones.true)))
    (adds_none a.lines.now)

pub returns : goal.returns
returns c =
    adds_as (scales_text c.args.scales.now c.requires (sym c.all_ones.ensures ∙ c.if-all_ones.false)) c.place_lines.ensures
