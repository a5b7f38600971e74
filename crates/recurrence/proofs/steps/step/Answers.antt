use mathlib.Core.Path.{◌≡◌, refl, ◌∙◌}
use Prim.Native.Nat.{ℕ, ◌%◌}
use native.Mathlib.Omega.{arith}
use Rattle.meaning.specs.Field.{times}
use Rattle.modular.specs.Modulus.{product_of}
use Rattle.modular.specs.Total.{number, residue_number}
use Rattle.recurrence.proofs.Stepping as stepping
use Rattle.recurrence.proofs.Stepping.{Kept}
use Rattle.recurrence.proofs.steps.step.Goals.{After-product-quotient, After-residue-d, Joined-longer, then-longer, else-longer}
use Rattle.recurrence.proofs.steps.step.Goals as goal

-- `recurrence::steps::step` meets its contract: each way through it is a case of document 01's step.
-- where the update begins
abbrev KeptAt : Joined-longer → Type 0
KeptAt c =
    let a = c.args in
    (size : ℕ) × Kept a.count a.work.now c.if-longer.work a.before size

kept : (c : Joined-longer) → KeptAt c
kept c =
    elim c.if-longer.branch [
      | then-longer w ↦ (_, stepping.kept_copied w.work-is (w.copy_within.ensures.copied (stepping.copying c.requires.0)))
      | else-longer w ↦ (_, stepping.kept_same w.work-is)
    ]

-- the discrepancy
found : (c : After-residue-d) → c.residue-d.result ≡ number c.crossed.result % c.args.m.p
found c =
    let sum = c.crossed in
    c.residue-d.ensures
    ∙ residue_number c.args.m sum.result c.requires.1 sum.ensures.low
    (omega (arith, sum.ensures.carries, stepping.within c.requires.0, c.requires.0.first.high, c.requires.0.first.few))

-- d / e
factor : (c : After-product-quotient)
    → let a = c.args in
    c.product-quotient.result ≡ times a.m.p c.residue-d.result a.before.inverse
factor c =
    let d = c.residue-d in
    c.product-quotient.ensures
    ∙ product_of c.args.m c.requires.1 d.result c.args.before.inverse d.type_inv (omega arith)

pub returns-then-d-eq0 : goal.returns-then-d-eq0
returns-then-d-eq0 c =
    stepping.after_zero c.requires.0 c.crossed.result c.residue-d.result c.crossed.ensures (found (goal.at.returns-then-d-eq0 c).After-residue-d) c.if-d-eq0.true

pub subtract-requires : goal.subtract-requires
subtract-requires c =
    let s = stepping.subtracting c.requires.0 (kept (goal.at.subtract-requires c).Joined-longer).1 c.residue-d.result c.product-quotient.result (factor (goal.at.subtract-requires c).After-product-quotient) in
    record { factor_lt_p = (s.0, c.requires.1, s.1, s.2); by_index = s.3 }

pub returns-then-longer-2 : goal.returns-then-longer-2
returns-then-longer-2 c =
    let longer = c.if-longer-2.true in
    elim c.if-longer.branch [
      | then-longer w ↦ stepping.after_grow c.requires.0 c.crossed.result c.residue-d.result c.crossed.ensures (found (goal.at.returns-then-longer-2 c).After-residue-d)
          c.if-d-eq0.false (stepping.kept_copied w.work-is (w.copy_within.ensures.copied (stepping.copying c.requires.0)))
          c.product-quotient.result (factor (goal.at.returns-then-longer-2 c).After-product-quotient) c.subtract.ensures refl longer
          c.inverse_modulo.result c.inverse_modulo.ensures
      | else-longer w ↦ absurd (omega arith)
    ]

pub returns-else-longer-2 : goal.returns-else-longer-2
returns-else-longer-2 c =
    stepping.after_stay c.requires.0 c.crossed.result c.residue-d.result c.crossed.ensures (found (goal.at.returns-else-longer-2 c).After-residue-d)
    c.if-d-eq0.false (kept (goal.at.returns-else-longer-2 c).Joined-longer).1 c.product-quotient.result (factor (goal.at.returns-else-longer-2 c).After-product-quotient) c.subtract.ensures
    c.if-longer-2.false
