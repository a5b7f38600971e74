use mathlib.Core.Path.{◌≡◌, sym, subst}
use native.Mathlib.Omega.{arith}
use Rattle.modular.specs.Modulus.{Modular, modular_of}
use Rattle.recurrence.specs.Recurrence.{Ready, terms_ready}
use Rattle.recurrence.proofs.generate.Goals.{After-of, In_ok-check_terms}
use Rattle.recurrence.proofs.generate.Goals as goal

-- the checks passed
ready : (c : In_ok-check_terms) → Ready c.args.p c.args.count c.args.work.now
ready c = terms_ready _ _ _ (sym c.in_ok-check_terms.ensures)

-- the modulus that was made
modulus : (c : After-of) → (c.of.result.p ≡ c.args.p) × Modular c.of.result
modulus c = let r = terms_ready _ _ _ (sym c.in_ok-check_terms.ensures) in modular_of c.of.result c.args.p c.of.ensures (omega (arith, r.two)) r.small

pub shortest-requires : goal.shortest-requires
shortest-requires c =
    let a = c.args in
    let m = modulus (goal.at.shortest-requires c).After-of in
    (subst (λ p. Ready p a.count a.work.now) (sym m.0) (ready (goal.at.shortest-requires c).In_ok-check_terms), m.1)
