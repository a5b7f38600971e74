use Rattle.std.proofs.Common.{◌+◌, ◌&&◌, sym, ap, ap₂, ◌∙◌, add-one}
use Rattle.meaning.specs.List.{all, at}
use Rattle.laws.specs.List.{all_zero, all_suc}
use Rattle.primality.specs.Blocks.{misses}
use Rattle.primality.proofs.blocks.none_divides.Goals as goal

pub loop-j-init : goal.loop-j-init
loop-j-init c = sym (all_zero _)

pub loop-j-preserved : goal.loop-j-preserved
loop-j-preserved c =
    let a = c.args in
    let l = c.loop-j in
    ap₂ ◌&&◌ l.invariant c.is_missed-none.ensures ∙ sym (all_suc l.j _)
    ∙ ap (λ n. all n (λ j. misses a.p a.limit (at a.inverses.now (a.from + j)))) (sym (add-one l.j))
