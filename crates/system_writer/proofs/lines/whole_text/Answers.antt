use borrow.Author.Rules.{rules}
use Rattle.meaning.specs.Matrix.{size}
use Rattle.line_writer.specs.Adds.{adds_as, adds_then, adds_from_front}
use Rattle.checks.specs.Slices.{matrix_of}
use Rattle.system_writer.specs.Writes.{header_line, whole_text, accepted_some}
use Rattle.system_writer.proofs.lines.whole_text.Goals as goal

pub scale_lines-requires : goal.scale_lines-requires
scale_lines-requires c =
    accepted_some c.args.p (size (matrix_of c.args.a.now)) c.args.scales.now c.requires.accepted_scales

pub returns : goal.returns
returns c =
    let a = c.args in
    let s = c.new-lines.ensures in
    let header = adds_as (header_line _ _ _) c.put.ensures.adds in
    let all =
    adds_as (whole_text a.p (matrix_of a.a.now) a.scales.now a.right.now c.requires.accepted_scales c.requires.right_len)
    (adds_then (adds_then (adds_then header c.all_rows.ensures) c.scale_lines.ensures) c.right_side.ensures) in
    let same = all.same_slice in
    let text = adds_from_front s.bytes s.place all in
    search (rules, same, text)
