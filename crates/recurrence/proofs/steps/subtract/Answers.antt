use mathlib.Core.Path.{ap, ap₂, ◌∙◌}
use Prim.Native.Nat.{◌+◌}
use native.Mathlib.Omega.{arith}
use Rattle.meaning.specs.List.{at}
use Rattle.meaning.specs.Field.{minus, times}
use Rattle.laws.specs.Written.{written_more}
use Rattle.laws.specs.Recurrence.{times_lt}
use Rattle.modular.specs.Modulus.{multiplies_of, times_of, difference_of_law}
use Rattle.recurrence.proofs.steps.subtract.Goals as goal

pub loop-i-preserved : goal.loop-i-preserved
loop-i-preserved c =
    let a = c.args in
    let l = c.loop-i in
    let h = c.requires.factor_lt_p.1 in
    let x = at l.work (a.t + l.i) in
    let made = multiplies_of c.of-k.result a.m a.factor c.of-k.ensures h c.requires.factor_lt_p.0 in
    let multiple = c.times.ensures ∙ times_of a.m.p c.of-k.result made.1 x (omega arith) ∙ ap (λ n. times a.m.p n x) made.0 in
    let q = l.invariant.after (a.q + l.i) (omega arith) in
    let t = l.invariant.after (a.t + l.i) (omega arith) in
    let product = times_lt a.m.p a.factor x h.positive in
    written_more c.difference.result l.invariant (omega arith)
    (c.difference.ensures
    ∙ difference_of_law a.m h (at l.work (a.q + l.i)) c.times.result (omega (arith, q, c.requires.by_index l.i (omega arith)))
    (omega (arith, multiple, product))
    ∙ ap₂ (minus a.m.p) q (multiple ∙ ap (times a.m.p a.factor) t))
