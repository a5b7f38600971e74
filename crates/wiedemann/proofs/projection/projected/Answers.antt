use Rattle.std.proofs.Common.{List, ℕ, ◌≡◌, ◌+◌, ◌-◌, ◌*◌, ◌%◌, length, take, drop, sym, ap, ◌∙◌, arith}
use Rattle.std.proofs.Math.Seq.{take_all, get_or-drop}
use Rattle.std.proofs.Math.ListN.{length-drop}
use Rattle.meaning.specs.List.{at}
use Rattle.meaning.specs.Solver.{dot}
use Rattle.laws.specs.List.{table_ext}
use Rattle.laws.specs.Solver.{projection_words}
use Rattle.wiedemann.specs.Projection.{projection_past}
use Rattle.wiedemann.proofs.projection.projected.Goals as goal

-- the words' part from j × n on
tail : (words : List ℕ) (from : ℕ) → take (length words - from) (drop from words) ≡ drop from words
tail words from = take_all (length words - from) (drop from words) (omega (arith, length-drop from words))

pub returns-then-j-u : goal.returns-then-j-u
returns-then-j-u c =
    let a = c.args in
    let words = a.u.now.words.now in
    let v = a.v.now in
    let n = length v in
    let from = a.u.now.index * n in
    c.dot.ensures
    ∙ ap (λ u. dot a.m.p u v)
    (table_ext n (λ i. at (take (length words - from) (drop from words)) i % a.m.p) (λ i. at words (from + i) % a.m.p)
    (λ i l. ap (λ x. x % a.m.p) (ap (λ w. at w i) (tail words from) ∙ get_or-drop from words i 0))
    ∙ sym (projection_words a.m.p n words a.u.now.index (omega (arith, c.requires.1.count, c.if-j-u.true))))

pub returns-else-j-u : goal.returns-else-j-u
returns-else-j-u c =
    let a = c.args in
    let u = a.u.now in
    let pre = c.requires in
    c.element.ensures ∙ sym (projection_past a.m.p u.words.now a.v.now u.index u.vectors pre.1.count c.if-j-u.false pre.2.below)
