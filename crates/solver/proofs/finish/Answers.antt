use Rattle.solver.specs.declared.Counts.{Counts}
use Rattle.solver.specs.Verdict.{closing, closing_none, divisor, constant, coefficients, taken_in}
use Rattle.wiedemann.specs.Horner.{vector_apply}
use Rattle.laws.specs.Lent.{part_at}
use Rattle.laws.specs.List.{length_table}
use Rattle.laws.specs.Part.{part, length_part}
use Rattle.bridge.specs.ThirdCondition.{verdict_zero, verdict_singular, verdict_solved}
use Rattle.checks.specs.declared.Products.{Products}
use Rattle.checks.specs.Products.{products_with, products_few}
use Rattle.checks.specs.Valid.{Vector, valid_scaled}
use Rattle.meaning.specs.Field.{minus, times, inverse}
use Rattle.meaning.specs.List.{at, table, padded}
use Rattle.solver.specs.System.{plain, operator, rows}
use Rattle.meaning.specs.Matrix.{apply, scaled}
use Rattle.meaning.specs.Solver.{Kind}
use Rattle.checks.specs.Matrix.{scaled_apply_refusal}
use lib.ListN.{length, take, drop, length-drop}
use native.Mathlib.Nat.{sub_self}
use native.Mathlib.Omega.{arith}
use Prim.Native.Nat.{ℕ, ◌+◌, ◌-◌}
use mathlib.Core.List.{List, []}
use mathlib.Core.Path.{◌≡◌, refl, sym, ap, ap₂, ◌∙◌, subst}
use Rattle.solver.proofs.finish.Goals.{After-apply_to_b-done, After-write_padded}
use Rattle.solver.proofs.finish.Goals as goal

-- a vector by its own length
whole : {p n : ℕ} {v : List ℕ} → Vector p n v → Vector p (length v) v
whole h = record { places = refl; below = λ i l. h.below i (omega (arith, l, h.places)) }

-- F in the polynomial slice
factor : (c : After-write_padded)
    → let a = c.args in
    c.write_padded.new.out ≡ padded (rows a.s.now + 1) (part 0 (a.c.degree + 1) a.work.now)
factor c =
    let a = c.args in
    let d = a.c.degree in
    c.write_padded.ensures ∙ ap₂ padded c.requires.vector_len.1 (part_at a.work.now 0 (d + 1) 0 (d + 1) refl refl)

-- G(A)b in the vector slice, and the products that it took
image : (c : After-apply_to_b-done)
    → let a = c.args in
    let A = operator a.s.now in
    (c.apply_to_b-done.result ≡ products_with (a.c.degree - 1) A)
    × (c.apply_to_b-done.new.vector ≡ apply a.s.now.field.p A (drop 1 (part 0 (a.c.degree + 1) a.work.now)) a.s.now.b.now)
image c =
    let a = c.args in
    let pre = c.requires in
    let A = operator a.s.now in
    let d = a.c.degree in
    let P = c.write_padded.new.out in
    let written = (let a = c.args in let d = a.c.degree in c.write_padded.ensures ∙ ap₂ padded c.requires.vector_len.1 (part_at a.work.now 0 (d + 1) 0 (d + 1) refl refl)) in
    let G = coefficients a.s.now.checked pre.closable P written in
    let same : part 1 (d + 1 - 1) P ≡ drop 1 (part 0 (d + 1) a.work.now) = part_at P 1 (d + 1 - 1) 1 d refl (omega arith) ∙ G in
    let fewer : length (drop 1 (part 0 (d + 1) a.work.now)) - 1 ≡ d - 1 =
    omega (arith, length-drop 1 (part 0 (d + 1) a.work.now), length_part 0 (d + 1) a.work.now (omega (arith, pre.closable.found, pre.closable.room))) in (
      c.apply_to_b-done.ensures.0 ∙ ap {B = Products} (λ k. products_with k A) (ap (λ g. length g - 1) same ∙ fewer),
      c.apply_to_b-done.ensures.1 ∙ ap (λ g. apply a.s.now.field.p A g a.s.now.b.now) same,
    )

pub returns-then-d-eq0 : goal.returns-then-d-eq0
returns-then-d-eq0 c =
    let a = c.args in
    let pre = c.requires in
    let A = operator a.s.now in
    let d = a.c.degree in
    let F = part 0 (d + 1) a.work.now in
    let zero = c.if-d-eq0.true in
    let said = verdict_zero a.s.now.field.p A a.s.now.b.now F d zero in
    record {
      ends = (ap (λ (y : Kind × List ℕ). y.0) said, closing_none A a.c zero);
      vector_is = c.write_padded-then-d-eq0.ensures ∙ ap (λ n. padded n []) pre.vector_len.0 ∙ sym (ap (λ (y : Kind × List ℕ). y.1) said);
      polynomial_is = factor (goal.at.returns-then-d-eq0 c).After-write_padded;
    }

pub apply_to_b-done-requires : goal.apply_to_b-done-requires
apply_to_b-done-requires c =
    let a = c.args in
    let pre = c.requires in
    let A = operator a.s.now in
    let P = c.write_padded.new.out in
    let written = factor (goal.at.apply_to_b-done-requires c).After-write_padded in
    let d = a.c.degree in
    let same : d ≡ d + 1 - 1 = omega arith in
    subst (λ m. scaled_apply_refusal a.s.now.field.p (plain a.s.now) a.s.now.scales.now (part 1 m P) a.s.now.b.now a.vector.now a.work.now ≡ 0) same
    (taken_in a.s.now.checked pre.closable P written c.if-d-eq0.false a.vector.now a.work.now pre.vector_len.0 refl)

pub bounds-polynomial-0 : goal.bounds-polynomial-0
bounds-polynomial-0 c =
    let a = c.args in
    omega (arith, ap length (factor (goal.at.bounds-polynomial-0 c).After-write_padded), length_table (rows a.s.now + 1) (λ i. at (part 0 (a.c.degree + 1) a.work.now) i))

pub closed-requires : goal.closed-requires
closed-requires c =
    let a = c.args in
    let pre = c.requires in
    let counts = pre.closable.few in
    let done = products_few (valid_scaled _ a.s.now.checked.valid.valid) (omega (arith, pre.closable.found, a.s.now.checked.valid.valid.sized)) (image (goal.at.closed-requires c).After-apply_to_b-done).0 in (
      record { applications_low = omega (arith, counts.applications_low, a.s.now.checked.accepted.size_b, a.s.now.checked.valid.valid.sized); multiplied_low = omega (arith, counts.multiplied_low) },
      record { made_low = omega (arith, done.made_low); multiplied_low = omega (arith, done.multiplied_low) },
    )

pub returns-then-constant-eq0 : goal.returns-then-constant-eq0
returns-then-constant-eq0 c =
    let a = c.args in
    let pre = c.requires in
    let A = operator a.s.now in
    let F = part 0 (a.c.degree + 1) a.work.now in
    let P = c.write_padded.new.out in
    let written = factor (goal.at.returns-then-constant-eq0 c).After-write_padded in
    let done = image (goal.at.returns-then-constant-eq0 c).After-apply_to_b-done in
    let said = verdict_singular a.s.now.field.p A a.s.now.b.now F a.c.degree c.if-d-eq0.false (sym (constant a.s.now.checked pre.closable P written) ∙ c.if-constant-eq0.true) in
    record {
      ends = (ap (λ (y : Kind × List ℕ). y.0) said, c.closed.ensures ∙ ap {B = Counts} (closing a.c) done.0);
      vector_is = done.1 ∙ sym (ap (λ (y : Kind × List ℕ). y.1) said);
      polynomial_is = written;
    }

pub divide-requires : goal.divide-requires
divide-requires c =
    let a = c.args in
    let pre = c.requires in
    let A = operator a.s.now in
    let F = part 0 (a.c.degree + 1) a.work.now in
    let P = c.write_padded.new.out in
    let written = factor (goal.at.divide-requires c).After-write_padded in (
      divisor a.s.now.checked pre.closable P written c.inverse_modulo.ensures c.if-constant-eq0.false,
      a.s.now.checked.valid.valid.small,
      subst (λ v. Vector a.s.now.field.p (length v) v) (sym (image (goal.at.divide-requires c).After-apply_to_b-done).1) (whole (vector_apply a.s.now.field.p A (drop 1 F) a.s.now.b.now a.s.now.checked.valid.valid.positive)),
    )

pub closed-requires-2 : goal.closed-requires-2
closed-requires-2 c =
    let a = c.args in
    let pre = c.requires in
    let counts = pre.closable.few in
    let done = products_few (valid_scaled _ a.s.now.checked.valid.valid) (omega (arith, pre.closable.found, a.s.now.checked.valid.valid.sized)) (image (goal.at.closed-requires-2 c).After-apply_to_b-done).0 in (
      record { applications_low = omega (arith, counts.applications_low, a.s.now.checked.accepted.size_b, a.s.now.checked.valid.valid.sized); multiplied_low = omega (arith, counts.multiplied_low) },
      record { made_low = omega (arith, done.made_low); multiplied_low = omega (arith, done.multiplied_low) },
    )

pub returns : goal.returns
returns c =
    let a = c.args in
    let pre = c.requires in
    let A = operator a.s.now in
    let F = part 0 (a.c.degree + 1) a.work.now in
    let P = c.write_padded.new.out in
    let written = factor (goal.at.returns c).After-write_padded in
    let done = image (goal.at.returns c).After-apply_to_b-done in
    let first = constant a.s.now.checked pre.closable P written in
    let said = verdict_solved a.s.now.field.p A a.s.now.b.now F a.c.degree c.if-d-eq0.false (λ z. c.if-constant-eq0.false (first ∙ z)) in
    let w = apply a.s.now.field.p A (drop 1 F) a.s.now.b.now in
    record {
      ends = (ap (λ (y : Kind × List ℕ). y.0) said, c.closed-2.ensures ∙ ap {B = Counts} (closing a.c) done.0);
      vector_is =
          c.divide.ensures
          ∙ ap₂ (λ v i. table (length v) (λ k. times a.s.now.field.p (minus a.s.now.field.p 0 (at v k)) i)) done.1 (c.inverse_modulo.ensures ∙ ap (inverse a.s.now.field.p) first)
          ∙ ap (λ m. table m (λ k. times a.s.now.field.p (minus a.s.now.field.p 0 (at w k)) (inverse a.s.now.field.p (at F 0)))) (vector_apply a.s.now.field.p A (drop 1 F) a.s.now.b.now a.s.now.checked.valid.valid.positive).places
          ∙ sym (ap (λ (y : Kind × List ℕ). y.1) said);
      polynomial_is = written;
    }
