use mathlib.Core.Path.{refl, ap₂, ◌∙◌}
use native.Mathlib.Omega.{arith}
use lib.Seq.{take_at, length-take-le}
use Rattle.line_writer.specs.Written.{wrote_as}
use Rattle.text_call.specs.Loaded.{verdict_text, taken_starts, never_refused, taken_solved}
use Rattle.text_call.proofs.call.put_solved.Goals as goal

-- `call::put_solved` meets its contract: the run, and then its text.
pub overflow_sub-n : goal.overflow_sub-n
overflow_sub-n c = omega (arith, taken_starts _ _ _ _ c.requires)

pub returns-in_err-verdict : goal.returns-in_err-verdict
returns-in_err-verdict c =
    let m = taken_starts _ _ _ _ c.requires in
    absurd
    (never_refused _ _ _ _ c.requires _ _ _
    (length-take-le _ _ (omega (arith, c.requires.rows)))
    (length-take-le _ _ (omega (arith, c.requires.rows, m)) ∙ m)
    refl c.in_err-verdict.ensures)

pub put_verdict-requires : goal.put_verdict-requires
put_verdict-requires c =
    let m = taken_starts _ _ _ _ c.requires in
    let lv = length-take-le _ _ (omega (arith, c.requires.rows)) in
    let lf = length-take-le _ _ (omega (arith, c.requires.rows, m)) in
    let all = taken_solved _ _ _ _ c.requires _ _ _ lv (lf ∙ m) refl refl c.solve.auto.bill c.in_ok-verdict.ensures in
    (rw (take_at c.solve.new.polynomial _ _ (c.solve.auto.polynomial ∙ lf)) all.0, all.1)

pub returns-clause-text : goal.returns-clause-text
returns-clause-text c =
    let m = taken_starts _ _ _ _ c.requires in
    let lv = length-take-le _ _ (omega (arith, c.requires.rows)) in
    let lf = length-take-le _ _ (omega (arith, c.requires.rows, m)) in
    let all = taken_solved _ _ _ _ c.requires _ _ _ lv (lf ∙ m) refl refl c.solve.auto.bill c.in_ok-verdict.ensures in
    wrote_as
    (ap₂ (verdict_text c.in_ok-verdict.verdict c.solve.new.bill) (take_at c.solve.new.polynomial _ _ (c.solve.auto.polynomial ∙ lf)) (take_at c.solve.new.vector _ _ (c.solve.auto.vector ∙ lv))
    ∙ all.2)
    c.put_verdict.ensures
