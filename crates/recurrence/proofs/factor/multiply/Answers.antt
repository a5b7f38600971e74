use mathlib.Core.Path.{◌≡◌, sym, subst}
use mathlib.Core.Bool.{true}
use mathlib.Core.Logic.{inl}
use native.Mathlib.Omega.{arith}
use Rattle.meaning.specs.Refusal.{within}
use Rattle.laws.specs.Refusal.{within_low, within_high}
use Rattle.modular.specs.Modulus.{Modular, modular_of}
use Rattle.recurrence.specs.Factor.{AreFactors, factors_of, product_one}
use Rattle.recurrence.proofs.factor.multiply.Goals.{After-of, In_ok-check_factors}
use Rattle.recurrence.proofs.factor.multiply.Goals as goal

-- no check turned the factors down
accepted : (c : In_ok-check_factors) → let a = c.args in let x = a.factors in (within 2 2147483647 a.p ≡ true) × AreFactors a.p a.work.now x.d x.f x.t
accepted c = factors_of _ _ _ _ _ (sym c.in_ok-check_factors.ensures)

-- the modulus that was made
modulus : (c : After-of) → (c.of.result.p ≡ c.args.p) × Modular c.of.result
modulus c =
    let a = c.args in
    let range = (factors_of _ _ _ _ _ (sym c.in_ok-check_factors.ensures)).0 in
    let low = within_low 2 2147483647 a.p range in
    modular_of c.of.result a.p c.of.ensures (omega (arith, low)) (within_high 2 2147483647 a.p range)

pub bounds-work-0 : goal.bounds-work-0
bounds-work-0 c = let h = (accepted (goal.at.bounds-work-0 c).In_ok-check_factors).1 in omega (arith, h.below, h.room)

pub overflow_add-t : goal.overflow_add-t
overflow_add-t c = let few = (accepted (goal.at.overflow_add-t c).In_ok-check_factors).1.few in omega (arith, few)

pub returns-then-work-eq1 : goal.returns-then-work-eq1
returns-then-work-eq1 c =
    let h = (accepted (goal.at.returns-then-work-eq1 c).In_ok-check_factors).1 in
    let copied = c.copy_within.ensures.copied (omega (arith, h.room), omega (arith, h.below, h.room, c.if-d-eq0.true), inl (omega arith)) in
    (sym c.in_ok-check_factors.ensures, omega (arith, c.if-d-eq0.true), product_one h c.if-d-eq0.true c.if-work-eq1.true copied)

pub multiply_within-requires : goal.multiply_within-requires
multiply_within-requires c =
    let a = c.args in
    let x = a.factors in
    let m = modulus (goal.at.multiply_within-requires c).After-of in
    (m.1, subst (λ p. AreFactors p a.work.now x.d x.f x.t) (sym m.0) (accepted (goal.at.multiply_within-requires c).In_ok-check_factors).1)

pub overflow_add-result : goal.overflow_add-result
overflow_add-result c = let few = (accepted (goal.at.overflow_add-result c).In_ok-check_factors).1.few in omega (arith, few)
