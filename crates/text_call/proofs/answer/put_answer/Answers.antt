use mathlib.Core.Path.{ap}
use mathlib.Core.List.{[], ◌∷◌}
use Prim.Native.Nat.{◌+◌, ◌<◌}
use lib.ListN.{length}
use native.Mathlib.Omega.{arith}
use Rattle.meaning.specs.List.{bytes}
use Rattle.meaning.specs.Text.{decimal, line}
use Rattle.line_writer.specs.Adds.{adds_then, adds_as, adds_from_front}
use Rattle.text_call.specs.AnswerText.{text_of, element_lines_take}
use Rattle.text_call.proofs.Parts.{next_fits}
use borrow.Author.Rules.{rules}
use Rattle.text_call.proofs.answer.put_answer.Goals as goal

pub put_passes-requires : goal.put_passes-requires
put_passes-requires c = c.requires.1

pub overflow_add-c : goal.overflow_add-c
overflow_add-c c =
    let short : length c.args.found.now.polynomial.now < 9223372036854775808 = search rules in
    next_fits c.requires.0 short

pub returns : goal.returns
unfolding text_of bytes
returns c =
    let s = c.new-lines.ensures in
    let close =
    adds_as (ap (λ k. line (bytes "close" ∷ decimal k ∷ [])) c.saturating_sub.ensures)
    c.put-2.ensures.adds in
    let powers = adds_as (element_lines_take _ 0 c.args.found.now.polynomial.now (c.args.c.degree + 1) (omega (arith, c.requires.0))) c.put_elements.ensures in
    let all =
    adds_then
    (adds_then (adds_then (adds_then (adds_then c.put.ensures.adds c.put_passes.ensures) close) powers) c.put_elements-2.ensures)
    c.put-3.ensures.adds in
    let same = all.same_slice in
    let text = adds_from_front s.bytes s.place all in
    search (rules, same, text)
