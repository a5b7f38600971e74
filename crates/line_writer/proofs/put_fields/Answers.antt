use Rattle.std.proofs.Common.{◌≡◌, refl, sym, ap, ap₂, ◌∙◌, List, [], ◌∷◌, ℕ, ◌+◌, ◌≤◌, ◌<◌, length, take, get_or, arith, length-append, length-set}
use Rattle.meaning.specs.Text.{decimal}
use Rattle.line_writer.specs.Placed.{placed, placed_nil, placed_one, placed_after}
use Rattle.line_writer.specs.Written.{fields, fields_nil, fields_more, fields_room}
use Rattle.line_writer.proofs.put_fields.Goals as goal

-- one field more has room
room : (ks : List ℕ) (i at size : ℕ) → i < length ks → at + length (fields ks) ≤ size
    → at + length (fields (take i ks)) + (1 + length (decimal (get_or ks i 0))) ≤ size
room ks i at size h r =
    omega (
      arith,
      fields_room ks (i + 1),
      ap length (fields_more ks i h),
      length-append (fields (take i ks)) (9 ∷ decimal (get_or ks i 0)),
    )

pub loop-k-init : goal.loop-k-init
loop-k-init c =
    let a = c.args in (
      refl,
      omega (arith, ap length fields_nil),
      sym (ap (placed a.out.now a.at) fields_nil ∙ placed_nil a.out.now a.at),
    )

pub bounds-out-next : goal.bounds-out-next
bounds-out-next c = omega (arith, room c.args.numbers.now c.loop-k.k-index c.args.at _ c.loop-k-test.true c.requires)

pub overflow_add-next : goal.overflow_add-next
overflow_add-next c = omega (arith, room c.args.numbers.now c.loop-k.k-index c.args.at _ c.loop-k-test.true c.requires)

pub put_digits-requires-clause-digits_in_bounds : goal.put_digits-requires-clause-digits_in_bounds
put_digits-requires-clause-digits_in_bounds c =
    omega (arith, length-set c.loop-k.out c.loop-k.next 9, room c.args.numbers.now c.loop-k.k-index c.args.at _ c.loop-k-test.true c.requires)

pub overflow_add-next-in-loop-k-2 : goal.overflow_add-next-in-loop-k-2
overflow_add-next-in-loop-k-2 c = omega (arith, room c.args.numbers.now c.loop-k.k-index c.args.at _ c.loop-k-test.true c.requires)

pub loop-k-preserved : goal.loop-k-preserved
loop-k-preserved c =
    let p = c.put_digits in
    let out₀ = c.args.out.now in
    let at = c.args.at in
    let ks = c.args.numbers.now in
    let i = c.loop-k.k-index in
    let out = c.loop-k.out in
    let next = c.loop-k.next in
    let inside : i < length ks = c.loop-k-test.true in
    let k = get_or ks i 0 in
    let w = fields (take i ks) in
    let here : next ≡ at + length w = c.loop-k.invariant.1 in
    let enough = room ks i at (length out₀) inside c.requires in
    let free : next + 1 ≤ length out = omega (arith, enough) in
    let fits : at + length w ≤ length out₀ = omega (arith, enough) in
    let more = fields_more ks i inside in (
      p.auto.out ∙ length-set out next 9 ∙ c.loop-k.invariant.0,
      omega (arith, ap length more, length-append w (9 ∷ decimal k), c.digits_of-digits.ensures.0),
      p.ensures
          ∙ ap (λ l. placed l (next + 1) (decimal k)) (placed_one out next 9 (omega arith))
          ∙ placed_after out next (9 ∷ []) (decimal k) free
          ∙ ap₂ (λ l j. placed l j (9 ∷ decimal k)) c.loop-k.invariant.2 here
          ∙ placed_after out₀ at w (9 ∷ decimal k) fits
          ∙ ap (placed out₀ at) (sym more),
    )
