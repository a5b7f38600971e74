use Rattle.std.proofs.Common.{refl, sym, ◌∙◌, arith}
use Rattle.laws.specs.Written.{written_all}
use Rattle.laws.specs.Part.{written_table}
use Rattle.modular.specs.Diagonal.{scaled_none, scaled_all}
use Rattle.modular.proofs.diagonal.scale.Goals as goal

pub returns-then-scales-v : goal.returns-then-scales-v
returns-then-scales-v c = sym (scaled_none _ _ _ c.if-scales-v.true)

pub returns : goal.returns
returns c =
    written_table _ _ _ _ refl (written_all (omega (arith, c.loop-i-test.false)) c.loop-i.invariant)
    ∙ sym (scaled_all _ _ _ c.if-scales-v.false)
