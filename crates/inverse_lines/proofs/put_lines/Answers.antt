use Rattle.std.proofs.Common.{◌≡◌, sym, ap, ap₂, ◌∙◌, ℕ, ◌+◌, ◌-◌, ◌≤◌, arith, rules}
use Rattle.meaning.specs.List.{bytes, table, flat}
use Rattle.meaning.specs.Field.{inverse}
use Rattle.meaning.specs.Inverses.{inverse_line}
use Rattle.line_writer.specs.Adds.{adds_as, adds_rows_none, adds_rows_more, adds_from_front}
use Rattle.inverse_lines.specs.Printed.{line_at, text_lines}
use Rattle.inverse_lines.proofs.put_lines.Goals as goal

line_of : (element a b : ℕ) → 1 ≤ element → a ≡ element → b ≡ inverse 251 element → inverse_line a b ≡ line_at (element - 1)
line_of element a b h p q =
    let back : element ≡ element - 1 + 1 = omega arith in
    ap₂ inverse_line (p ∙ back) (q ∙ ap (inverse 251) back)

pub loop-element-init : goal.loop-element-init
loop-element-init c = adds_rows_none c.new-lines.result line_at

pub loop-element-preserved : goal.loop-element-preserved
unfolding bytes
loop-element-preserved c =
    let element = c.loop-element.element in
    let place : element - 1 + 1 ≡ element + 1 - 1 = omega arith in
    let this = line_of element c.from.result c.from-in-loop-element.result (omega arith) c.from.ensures (c.from-in-loop-element.ensures ∙ c.inverse_by_euclid-inverse.ensures) in
    adds_as (ap (λ n. flat (table n line_at)) place)
    (adds_rows_more line_at (element - 1) c.loop-element.invariant (adds_as this c.put.ensures.adds))

pub returns : goal.returns
returns c =
    let all : c.loop-element.element - 1 ≡ 250 = omega arith in
    let e = c.new-lines.ensures in
    let same = c.loop-element.invariant.same_slice in
    let text = adds_from_front e.bytes e.place (adds_as (ap (λ n. flat (table n line_at)) all ∙ sym text_lines) c.loop-element.invariant) in
    search (rules, same, text)
