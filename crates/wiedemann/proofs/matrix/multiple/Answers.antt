use Rattle.std.proofs.Common.{length, ap, ◌∙◌, arith}
use Rattle.meaning.specs.List.{at}
use Rattle.meaning.specs.Field.{times}
use Rattle.laws.specs.Written.{written_all}
use Rattle.laws.specs.Part.{written_next, written_table}
use Rattle.modular.specs.Modulus.{multiplies_of, times_of}
use Rattle.wiedemann.proofs.matrix.multiple.Goals as goal

pub loop-i-preserved : goal.loop-i-preserved
loop-i-preserved c =
    let a = c.args in
    let test = c.loop-i-test.true in
    let loop = c.loop-i in
    let made = multiplies_of c.of-multiplier.result a.m a.c c.of-multiplier.ensures c.requires.1 c.requires.0 in
    let x = at a.v.now loop.i in
    written_next c.times.result loop.invariant (omega (arith, test, c.requires.2))
    (c.times.ensures ∙ times_of a.m.p c.of-multiplier.result made.1 x (omega arith) ∙ ap (λ k. times a.m.p k x) made.0)

pub returns : goal.returns
returns c =
    let a = c.args in
    written_table a.out.now (length a.v.now) (λ k. times a.m.p a.c (at a.v.now k)) c.loop-i.out c.requires.2
    (written_all (omega (arith, c.loop-i-test.false)) c.loop-i.invariant)
