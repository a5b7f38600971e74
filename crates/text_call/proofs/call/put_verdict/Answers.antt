use mathlib.Core.Path.{ap}
use native.Mathlib.Omega.{arith}
use Rattle.meaning.specs.List.{bytes}
use Rattle.line_writer.specs.Written.{wrote_as}
use Rattle.text_call.specs.Loaded.{degree_of, passes_of, verdict_solved, verdict_singular}
use Rattle.text_call.proofs.call.put_verdict.Goals as goal

pub put_answer-requires : goal.put_answer-requires
put_answer-requires c = (omega (arith, c.requires.0, ap degree_of c.in-Solved.is), omega (arith, c.requires.1, ap passes_of c.in-Solved.is))

pub put_answer-requires-in-Singular : goal.put_answer-requires-in-Singular
put_answer-requires-in-Singular c = (omega (arith, c.requires.0, ap degree_of c.in-Singular.is), omega (arith, c.requires.1, ap passes_of c.in-Singular.is))

pub shape_of-answer-in-Solved : goal.shape_of-answer-in-Solved
shape_of-answer-in-Solved c = c.put_answer.auto.out

pub returns-in-Solved : goal.returns-in-Solved
unfolding bytes
returns-in-Solved c =
    let a = c.args in
    wrote_as (verdict_solved a.found.now.bill.now a.found.now.polynomial.now a.found.now.vector.now a.verdict c.in-Solved.c c.in-Solved.is) c.put_answer.ensures

pub shape_of-answer-in-Singular : goal.shape_of-answer-in-Singular
shape_of-answer-in-Singular c = c.put_answer-in-Singular.auto.out

pub returns-in-Singular : goal.returns-in-Singular
unfolding bytes
returns-in-Singular c =
    let a = c.args in
    wrote_as (verdict_singular a.found.now.bill.now a.found.now.polynomial.now a.found.now.vector.now a.verdict c.in-Singular.c c.in-Singular.is) c.put_answer-in-Singular.ensures
