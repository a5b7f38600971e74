use Rattle.laws.specs.Written.{written_none, written_all}
use Rattle.laws.specs.Part.{written_next, written_table}
use Rattle.modular.specs.Modulus.{Multiplies, modular_of, multiplies_of}
use Rattle.meaning.specs.Field.{minus, times}
use Rattle.meaning.specs.List.{at}
use lib.ListN.{length}
use native.Mathlib.Omega.{arith}
use Prim.Native.Nat.{◌<◌}
use mathlib.Core.Path.{◌≡◌, refl, sym, ap, ◌∙◌, subst}
use Rattle.solver.proofs.divide.Goals.{After-of-k}
use Rattle.solver.proofs.divide.Goals as goal

-- the multiplier that was made
multiplier : (c : After-of-k) → (c.of-k.result.constant ≡ c.args.inverse) × Multiplies c.args.p c.of-k.result
multiplier c =
    let a = c.args in
    let pre = c.requires in
    let m = c.of in
    let made = modular_of m.result a.p m.ensures (omega (arith, pre.0)) pre.1 in
    let k = multiplies_of c.of-k.result m.result a.inverse c.of-k.ensures made.1 (subst (λ p. a.inverse < p) (sym made.0) pre.0) in
    (k.0, subst (λ p. Multiplies p c.of-k.result) made.0 k.1)

pub loop-i-init : goal.loop-i-init
loop-i-init c =
    let a = c.args in (omega arith, written_none a.v.now 0 (λ j. times a.p (minus a.p 0 (at a.v.now j)) a.inverse))

pub quotient-requires : goal.quotient-requires
quotient-requires c =
    let l = c.loop-i in
    let pre = c.requires in
    let inside : l.i < length c.args.v.now = omega (arith, c.loop-i-test.true, l.invariant.1.same_length) in
    (rw (l.invariant.1.after l.i (omega arith)) (pre.2.below l.i inside), (multiplier (goal.at.quotient-requires c).After-of-k).1)

pub loop-i-smaller : goal.loop-i-smaller
loop-i-smaller c = omega (arith, c.loop-i-test.true, c.loop-i.invariant.1.same_length)

pub loop-i-preserved : goal.loop-i-preserved
loop-i-preserved c =
    let a = c.args in
    let l = c.loop-i in
    let inside : l.i < length a.v.now = omega (arith, c.loop-i-test.true, l.invariant.1.same_length) in (
      omega (arith, inside),
      written_next c.quotient.result l.invariant.1 inside
          (c.quotient.ensures ∙ ap (λ k. times a.p (minus a.p 0 (at l.v l.i)) k) (multiplier (goal.at.loop-i-preserved c).After-of-k).0
          ∙ ap (λ x. times a.p (minus a.p 0 x) a.inverse) (l.invariant.1.after l.i (omega arith))),
    )

pub shape_of-v : goal.shape_of-v
shape_of-v c = c.loop-i.invariant.1.same_length

pub returns : goal.returns
returns c =
    let a = c.args in
    let l = c.loop-i in
    written_table a.v.now (length a.v.now) (λ j. times a.p (minus a.p 0 (at a.v.now j)) a.inverse) l.v refl
    (written_all (omega (arith, l.invariant.0, c.loop-i-test.false, l.invariant.1.same_length)) l.invariant.1)
