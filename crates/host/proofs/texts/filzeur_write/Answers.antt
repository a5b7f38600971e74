use mathlib.Core.Path.{ap₂, sym, subst, ◌∙◌}
use Prim.Native.Nat.{◌≤◌}
use Rattle.meaning.specs.Matrix.{matrix}
use Rattle.host.specs.Answers.{length_of}
use Rattle.host.proofs.Small.{length_small}
use Rattle.host.proofs.texts.filzeur_write.Goals as goal

pub numbers_of-requires : goal.numbers_of-requires
numbers_of-requires c =
    let at = c.args in
    subst (λ k. k ≤ 2097152) (sym c.write.ensures.result_value_2)
    (length_small at.p (matrix at.starts.now at.columns.now at.values.now) at.scales.now at.b.now at.text.now)

pub returns : goal.returns
returns c =
    let done = c.write.ensures in
    record { value = c.numbers_of.ensures ∙ ap₂ length_of done.result_value done.result_value_2; text_after = done.out_after }
