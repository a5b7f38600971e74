use Rattle.std.proofs.Common.{◌≡◌, ◌+◌, [], ◌∷◌, length, take, get_or, ap, ◌∙◌, arith, length-append}
use Rattle.meaning.specs.Text.{decimal}
use Rattle.line_writer.specs.Written.{capped, fields, capped_min, capped_plus, fields_nil, fields_more}
use Rattle.line_writer.proofs.length_of.Goals as goal

pub loop-k-init : goal.loop-k-init
loop-k-init c =
    let word = c.args.word in
    let none : word + 1 ≡ word + 1 + length (fields []) = omega (arith, ap length fields_nil) in
    c.saturating_add-bytes.ensures ∙ capped_min (word + 1) ∙ ap capped none

pub loop-k-preserved : goal.loop-k-preserved
loop-k-preserved c =
    let word = c.args.word in
    let ks = c.args.numbers.now in
    let i = c.loop-k.k-index in
    let digits = c.digits_of.result in
    let so_far = word + 1 + length (fields (take i ks)) in
    let sum : so_far + (1 + digits) ≡ word + 1 + length (fields (take (i + 1) ks)) =
    omega (
      arith,
      ap length (fields_more ks i c.loop-k-test.true),
      length-append (fields (take i ks)) (9 ∷ decimal (get_or ks i 0)),
      c.digits_of.ensures.0,
    ) in
    c.saturating_add-bytes-in-loop-k.ensures
    ∙ capped_min (c.loop-k.bytes + (1 + digits))
    ∙ ap (λ k. capped (k + (1 + digits))) c.loop-k.invariant
    ∙ capped_plus so_far (1 + digits)
    ∙ ap capped sum
