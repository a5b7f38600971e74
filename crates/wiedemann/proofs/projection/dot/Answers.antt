use Rattle.std.proofs.Common.{length, ◌%◌, sym, ap, ◌∙◌, zero-add, rules, arith}
use Rattle.meaning.specs.List.{sum_from}
use Rattle.modular.specs.Sums.{sum_from_zero}
use Rattle.modular.specs.Total.{residue_number}
use Rattle.wiedemann.specs.Projection.{word_term, dot_words}
use Rattle.wiedemann.proofs.projection.dot.Goals as goal

pub returns : goal.returns
returns c =
    let a = c.args in
    let n = length a.v.now in
    let f = word_term a.words.now a.v.now in
    let pre = c.requires in
    let made = c.sum_by.ensures in
    c.residue.ensures ∙ residue_number a.m c.sum_by.result pre.1 made.low (omega (arith, made.carries, pre.0.few))
    ∙ ap (λ x. x % a.m.p) (made.sum ∙ zero-add (sum_from 0 n f) ∙ sum_from_zero n f) ∙ sym (dot_words a.m.p a.words.now a.v.now)

pub sum_by-requires : goal.sum_by-requires
sum_by-requires c κs within = search rules depth 12 fits 20000
