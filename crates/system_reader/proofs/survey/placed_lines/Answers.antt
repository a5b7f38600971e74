use Rattle.std.proofs.Common.{refl, ap, ◌&&◌, Some, None}
use Rattle.system_reader.specs.Places.{place_line_law, place_more, places_end}
use Rattle.system_reader.proofs.survey.placed_lines.Goals as goal

pub returns : goal.returns
returns c =
    let a = c.args in
    let g = c.loop-l.group in
    places_end a.word.now a.text.now a.from a.p a.n g.next g.count c.loop-l.above g.places g.values c.loop-l.ones c.loop-l.invariant
    (place_line_law a.word.now a.text.now g.next None c.requires.place_word c.in_default.ensures)

pub loop-l-preserved : goal.loop-l-preserved
loop-l-preserved c =
    let a = c.args in
    let g = c.loop-l.group in
    place_more a.word.now a.text.now a.from a.p a.n g.next g.count c.loop-l.above g.places g.values c.loop-l.ones c.loop-l.invariant
    c.in-Some.l.numbers _ _ _ _ _ (place_line_law a.word.now a.text.now g.next (Some c.in-Some.l) c.requires.place_word c.in-Some.ensures) refl
    (ap (λ t. g.places && t) c.place_taken.ensures) (ap (λ t. g.values && t) c.value_taken.ensures) refl
