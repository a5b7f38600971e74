use Rattle.solver.specs.System.{plain, operator, rows}
use mathlib.Core.Path.{sym, ap, ◌∙◌, subst}
use Prim.Native.Nat.{◌-◌}
use lib.ListN.{length}
use Rattle.meaning.specs.Matrix.{diagonal}
use Rattle.modular.specs.Modulus.{modular_of}
use Rattle.checks.specs.Valid.{Scales, Vector}
use Rattle.wiedemann.specs.Horner.{scaled_vector}
use Rattle.solver.specs.Verdict.{closed_vector}
use Rattle.solver.proofs.answer.Goals as goal

pub returns : goal.returns
returns c =
    let a = c.args in
    let system = c.args.s.now.checked in
    let n = rows a.s.now in
    let X = a.s.now.scales.now in
    let y = c.finish-verdict.new.vector in
    let of = c.of in
    let made = modular_of of.result a.s.now.field.p of.ensures system.valid.valid.positive system.valid.valid.small in
    let ended = c.finish-verdict.ensures in
    record {
      y = y;
      ended = ended;
      vector_is =
          c.scale.ensures
          ∙ scaled_vector made.1 (subst (λ p. Scales p n X) (sym made.0) system.valid.scales)
          (subst (λ p. Vector p n y) (sym made.0) (closed_vector system ended))
          ∙ ap (λ p. diagonal p X y) made.0;
    }
