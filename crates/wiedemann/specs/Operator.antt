-- What the operator of a pass stands for (src/operator.rt), and its projections.
--     plain o           A
--     operator o        AX
--     rows o            n
--     projection o u    the vector u that a projection of the random words, or a unit vector, is
--     Made, made        what an operator may be made of: what the checks leave known, at the modulus that is made of p
use Rattle.std.specs.Prelude.{◌≡◌, true, List, [], ℕ, ◌-◌, length, get_or}
use Rattle.std.proofs.Common.{sym, ap, ◌∙◌, subst}
use Rattle.meaning.specs.Field.{is_modulus}
use Rattle.meaning.specs.Matrix.{Matrix, scaled}
use Rattle.meaning.specs.Solver.{projections}
use Rattle.modular.specs.declared.modulus.Modulus.{Modulus}
use Rattle.modular.specs.Modulus.{Modular, modulus_of, modular_of}
use Rattle.checks.specs.Slices.{matrix_of}
use Rattle.checks.specs.Valid.{ValidScaled}
use Rattle.wiedemann.specs.declared.operator.Operator.{Operator}
use Rattle.wiedemann.specs.declared.projection.Projection.{Projection}

abbrev pub plain : Operator → Matrix
plain o = matrix_of o.a.now

abbrev pub operator : Operator → Matrix
operator o = scaled o.m.p (matrix_of o.a.now) o.scales.now

abbrev pub rows : Operator → ℕ
rows o = length o.a.now.starts.now - 1

abbrev pub projection : Operator → Projection → List ℕ
projection o u = get_or (projections o.m.p (rows o) u.words.now) u.index []

pub record Made (m : Modulus) (p : ℕ) (A : Matrix) (X : List ℕ) : Type 0 where
  pub same : m.p ≡ p
  pub prime : is_modulus m.p ≡ true
  pub modular : Modular m
  pub valid : ValidScaled m.p A X

pub made : {m : Modulus} {p : ℕ} {A : Matrix} {X : List ℕ} → m ≡ modulus_of p → is_modulus p ≡ true → ValidScaled p A X → Made m p A X
made {m} {p} {A} {X} e prime h =
    let known = modular_of m p e h.valid.positive h.valid.small in
    record {
      same = known.0;
      prime = ap is_modulus known.0 ∙ prime;
      modular = known.1;
      valid = subst (λ q. ValidScaled q A X) (sym known.0) h;
    }
