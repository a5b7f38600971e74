use Rattle.std.proofs.Common.{refl, ap, ◌&&◌, arith}
use Rattle.meaning.specs.Text as text
use Rattle.system_reader.specs.Lines.{entry_word}
use Rattle.system_reader.specs.Places.{entry_more, entries_end}
use Rattle.system_reader.proofs.survey.entry_lines.Goals as goal

pub returns : goal.returns
returns c =
    let a = c.args in
    let g = c.loop-l.group in
    entries_end a.text.now a.from a.p a.n g.next g.count c.loop-l.above c.loop-l.left g.places g.values c.loop-l.invariant
    (c.in_default.ensures text.entry refl entry_word refl)

pub loop-l-smaller : goal.loop-l-smaller
loop-l-smaller c =
    let h = c.in-Some.ensures text.entry refl entry_word refl in
    omega (arith, h.beyond, h.within)

pub loop-l-preserved : goal.loop-l-preserved
loop-l-preserved c =
    let a = c.args in
    let g = c.loop-l.group in
    entry_more a.text.now a.from a.p a.n g.next g.count c.loop-l.above c.loop-l.left g.places g.values c.loop-l.invariant
    c.in-Some.l.numbers _ _ _ _ (c.in-Some.ensures text.entry refl entry_word refl) refl
    (ap (λ t. g.places && t) c.entry_taken.ensures) (ap (λ t. g.values && t) c.value_taken.ensures)
