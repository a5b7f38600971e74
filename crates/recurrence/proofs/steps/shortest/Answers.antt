use mathlib.Core.Path.{◌≡◌, refl}
use Prim.Native.Nat.{◌+◌, ◌-◌, ◌*◌, ◌≤◌}
use native.Mathlib.Omega.{arith}
use lib.ListN.{length, take}
use Rattle.recurrence.specs.Recurrence.{reversed_lent}
use Rattle.recurrence.specs.Steps.{FollowsSteps, represented, TermsStay, sound_follows}
use Rattle.recurrence.proofs.Represented.{follows_within, follows_before, follows_after, stay_both}
use Rattle.recurrence.proofs.Stepping.{first_terms, still}
use Rattle.recurrence.proofs.HoldsGenerator.{holds_generator}
use Rattle.recurrence.proofs.steps.shortest.Goals.{After-make_steps-c}
use Rattle.recurrence.proofs.steps.shortest.Goals as goal

pub make_steps-c-requires : goal.make_steps-c-requires
make_steps-c-requires c =
    let ready = c.requires.0 in
    let count = c.args.count in
    let begun = c.start-fresh.ensures in (
      omega arith,
      still count (omega arith) begun.laid.1 (first_terms count (omega arith) ready),
      sound_follows ready.two (follows_after begun.laid.1 0 (omega arith) begun.follows_steps) begun.laid.0,
      c.requires.1,
    )

-- the steps follow document 01's
followed : (c : After-make_steps-c)
    → let a = c.args in
    FollowsSteps a.m.p (take a.count a.work.now) a.count c.make_steps-c.result.d (represented a.count c.make_steps-c.new.work c.make_steps-c.result)
followed c =
    let begun = c.start-fresh.ensures in
    let stay = begun.laid.1 in
    follows_before stay _ (omega arith) (c.make_steps-c.ensures.follows (follows_after stay 0 (omega arith) begun.follows_steps))

stays : (c : After-make_steps-c) → let a = c.args in TermsStay a.count a.work.now c.make_steps-c.new.work
stays c = stay_both c.start-fresh.ensures.laid.1 c.make_steps-c.ensures.stay

-- q's region lies in the slice
fits : (c : After-make_steps-c) → let a = c.args in (c.make_steps-c.result.L ≤ a.count) × (4 * a.count + 8 ≤ length c.make_steps-c.new.work)
fits c =
    let ready = c.requires.0 in
    (follows_within ready.two (followed c), omega (arith, ready.room, (stays c).same_length))

pub returns : goal.returns
returns c =
    let q = c.args.count + 2 in
    let L = c.make_steps-c.result.L in
    let n : q + L + 1 - q ≡ L + 1 = omega arith in
    let known = fits (goal.at.returns c).After-make_steps-c in
    holds_generator c.make_steps-c.result c.requires.0 refl (followed (goal.at.returns c).After-make_steps-c) (stays (goal.at.returns c).After-make_steps-c)
    (reversed_lent c.make_steps-c.new.work q L (q + L + 1 - q) _ n (omega (arith, known.0, known.1)) c.reverse.ensures)
