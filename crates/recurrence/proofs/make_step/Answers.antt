use mathlib.Core.Path.{◌≡◌, sym, subst}
use Prim.Native.Nat.{◌-◌}
use native.Mathlib.Omega.{arith}
use Rattle.modular.specs.Modulus.{Modular, modular_of}
use Rattle.recurrence.specs.Steps.{FirstTerms, Sound, BeforeStep}
use Rattle.recurrence.specs.OneStep.{makes_modulus, makes_one, step_asked}
use Rattle.recurrence.proofs.make_step.Goals.{After-of, In_ok-check_step}
use Rattle.recurrence.proofs.make_step.Goals as goal

-- the checks passed
asked : (c : In_ok-check_step) → let a = c.args in BeforeStep a.p a.count a.r a.work.now a.before
asked c = step_asked (sym c.in_ok-check_step.ensures)

-- the modulus that was made
modulus : (c : After-of) → (c.of.result.p ≡ c.args.p) × Modular c.of.result
modulus c =
    let ready = (step_asked (sym c.in_ok-check_step.ensures)).first.ready in
    modular_of c.of.result c.args.p c.of.ensures (omega (arith, ready.two)) ready.small

pub overflow_sub-r : goal.overflow_sub-r
overflow_sub-r c = omega (arith, (asked (goal.at.overflow_sub-r c).In_ok-check_step).low)

pub make_steps-requires : goal.make_steps-requires
make_steps-requires c =
    let a = c.args in
    let ask = asked (goal.at.make_steps-requires c).In_ok-check_step in
    let m = modulus (goal.at.make_steps-requires c).After-of in
    let e = sym m.0 in (
      omega arith,
      subst (λ p. FirstTerms p a.count a.r a.work.now) e ask.first,
      subst (λ p. Sound p a.count (a.r - 1) a.work.now a.before) e ask.sound,
      m.1,
    )

pub returns : goal.returns
returns c = (
  sym c.in_ok-check_step.ensures,
  makes_modulus (modulus (goal.at.returns c).After-of).0 (makes_one _ (asked (goal.at.returns c).In_ok-check_step).low c.make_steps.ensures),
)
