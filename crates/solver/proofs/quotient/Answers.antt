use Rattle.modular.specs.Modulus.{times_of}
use Rattle.meaning.specs.Field.{minus, times}
use native.Mathlib.Nat.{mod-eq_of_lt, mod_self, mul_comm, zero-add}
use native.Mathlib.Omega.{arith}
use Prim.Native.Nat.{ℕ, ◌+◌, ◌-◌, ◌*◌, ◌%◌, ◌<◌}
use mathlib.Core.Path.{◌≡◌, sym, ap, ◌∙◌}
use Rattle.solver.proofs.quotient.Goals.{then-w-eq0, else-w-eq0}
use Rattle.solver.proofs.quotient.Goals as goal

zero : (p w : ℕ) → w ≡ 0 → 0 ≡ (0 + (p - w)) % p
zero p w e = sym (ap (λ x. x % p) (omega (arith, e)) ∙ mod_self p)

other : (p w : ℕ) → 0 < w → w < p → p - w ≡ (0 + (p - w)) % p
other p w e l = sym (ap (λ x. x % p) (zero-add (p - w)) ∙ mod-eq_of_lt (omega (arith, e, l)))

pub returns : goal.returns
unfolding times minus
returns c =
    let a = c.args in
    let pre = c.requires in
    let x = c.if-w-eq0.negative in
    let small : x < 4294967296 = elim c.if-w-eq0.branch [ then-w-eq0 w ↦ omega arith | else-w-eq0 w ↦ omega (arith, pre.0, pre.1.small) ] in
    let negative : x ≡ (0 + (a.p - a.w)) % a.p =
    elim c.if-w-eq0.branch [
      | then-w-eq0 w ↦ (let e : a.w ≡ 0 = omega arith in omega (arith, zero a.p a.w e))
      | else-w-eq0 w ↦ (let e : 0 < a.w = omega arith in omega (arith, other a.p a.w e pre.0))
    ] in
    c.times.ensures ∙ times_of a.p a.k pre.1 x small ∙ ap (λ y. y % a.p) (mul_comm a.k.constant x)
    ∙ ap (λ y. y * a.k.constant % a.p) negative
