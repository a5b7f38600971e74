use native.Mathlib.Omega.{arith}
use Rattle.recurrence.proofs.Stepping.{before_step, between_next, between_end}
use Rattle.recurrence.proofs.steps.make_steps.Goals as goal

pub step-c-requires : goal.step-c-requires
step-c-requires c =
    let pre = c.requires in
    let loop = c.loop-made in
    (before_step pre.1 c.loop-made-test.true loop.invariant.stay loop.invariant.sound, pre.3)

pub loop-made-preserved : goal.loop-made-preserved
loop-made-preserved c =
    let loop = c.loop-made in
    between_next (omega arith) (omega (arith, c.loop-made-test.true, c.requires.1.high)) loop.invariant c.step-c.ensures

pub returns : goal.returns
returns c = between_end (omega (arith, c.loop-made-test.false)) c.loop-made.invariant
