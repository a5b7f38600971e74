use mathlib.Core.Path.{◌≡◌, refl, sym, ap, ◌∙◌}
use Prim.Native.Nat.{◌+◌, ◌<◌}
use native.Mathlib.Omega.{arith}
use native.Mathlib.Numerals.{add-one}
use lib.ListN.{length, take, set, get_or, length-set}
use lib.Seq.{length-take-le, take-suc, take_all}
use Rattle.line_writer.specs.Placed.{placed, placed_nil, store_after}
use Rattle.line_writer.proofs.put_word.Goals as goal

pub loop-i-init : goal.loop-i-init
loop-i-init c = (refl, sym (placed_nil c.args.out.now c.args.at))

pub loop-i-preserved : goal.loop-i-preserved
loop-i-preserved c =
    let out₀ = c.args.out.now in
    let at = c.args.at in
    let word = c.args.word.now in
    let i = c.loop-i.i in
    let out = c.loop-i.out in
    let inv = c.loop-i.invariant in
    let inside : i < length word = c.loop-i-test.true in
    let byte = get_or word i 0 in
    let taken : at + i ≡ at + length (take i word) = ap (λ k. at + k) (sym (length-take-le i word (omega arith))) in (
      length-set out (at + i) byte ∙ inv.0,
      ap (λ l. set l (at + i) byte) inv.1
          ∙ store_after out₀ at (take i word) byte (at + i) taken (omega arith)
          ∙ ap (placed out₀ at) (sym (take-suc word i 0 inside) ∙ ap (λ k. take k word) (sym (add-one i))),
    )

pub returns : goal.returns
returns c =
    let inv = c.loop-i.invariant in
    let word = c.args.word.now in
    inv.1 ∙ ap (placed c.args.out.now c.args.at) (take_all c.loop-i.i word (omega arith))
