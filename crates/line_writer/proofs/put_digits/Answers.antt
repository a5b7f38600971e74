use mathlib.Core.Path.{◌≡◌, sym, ap, ◌∙◌}
use mathlib.Core.List.{[], ◌∷◌, ◌++◌}
use Prim.Native.Nat.{◌+◌, ◌/◌, ◌%◌, ◌<◌}
use native.Mathlib.Omega.{arith}
use lib.ListN.{length, length-append, length-set}
use Rattle.meaning.specs.Text.{decimal}
use Rattle.text_laws.specs.Numeral.{decimal_small, decimal_large, decimal_positive}
use Rattle.line_writer.specs.Placed.{placed, placed_one, store_before}
use Rattle.line_writer.proofs.put_digits.Goals as goal

pub overflow_sub-left-in-loop-rest : goal.overflow_sub-left-in-loop-rest
overflow_sub-left-in-loop-rest c =
    let rest = c.loop-rest.rest in
    omega (
      arith,
      decimal_positive (rest / 10),
      ap length (decimal_large rest (omega arith)),
      length-append (decimal (rest / 10)) ((48 + rest % 10) ∷ []),
    )

pub loop-rest-preserved : goal.loop-rest-preserved
loop-rest-preserved c =
    let at = c.args.at in
    let out = c.loop-rest.out in
    let left = c.loop-rest.left in
    let rest = c.loop-rest.rest in
    let inv = c.loop-rest.invariant in
    let w = decimal (rest / 10) in
    let more : decimal rest ≡ w ++ ((48 + rest % 10) ∷ []) = decimal_large rest (omega arith) in
    let as_many : left ≡ length w =
    omega (arith, inv.1, ap length more, length-append w ((48 + rest % 10) ∷ [])) in
    let some = decimal_positive (rest / 10) in
    let inside : at + left < length out = omega arith in (
      length-set out (at + left) c.digit.result ∙ inv.0,
      omega arith,
      omega arith,
      store_before out at w c.digit.result (at + left) (ap (λ k. at + k) as_many) inside
          ∙ ap (λ d. placed out at (w ++ (d ∷ []))) c.digit.ensures
          ∙ ap (placed out at) (sym more)
          ∙ inv.3,
    )

pub returns : goal.returns
returns c =
    let at = c.args.at in
    let out = c.loop-rest.out in
    let rest = c.loop-rest.rest in
    let inv = c.loop-rest.invariant in
    let inside : at < length out = omega arith in
    placed_one out at c.digit-2.result inside
    ∙ ap (λ d. placed out at (d ∷ [])) c.digit-2.ensures
    ∙ ap (placed out at) (sym (decimal_small rest (omega arith)))
    ∙ inv.3
