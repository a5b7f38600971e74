use Rattle.std.proofs.Common.{◌-◌, length, take, drop, sym, subst, arith, rules}
use Rattle.system_reader.specs.Fields.{NumeralAt}
use Rattle.system_reader.proofs.Steps.{all_after, NumeralEnded, numeral_end, numeral_stop, numeral_more, numeral_read}
use Rattle.system_reader.proofs.numeral.numeral.Goals.{else-loop-c-test, then-loop-c-test+in_default}
use Rattle.system_reader.proofs.numeral.numeral.Goals as goal

pub loop-c-preserved : goal.loop-c-preserved
loop-c-preserved c =
    let b = c.loop-c.invariant in
    record {
      place = omega (arith, b.place);
      begun = numeral_more _ _ _ c.loop-c-test.true _ b.begun (sym c.in-Some.ensures);
    }

pub returns : goal.returns
returns c =
    let t = c.args.text.now in
    let from = c.args.from in
    let v = c.loop-c.value in
    let i = c.loop-c.c-index in
    let s = take (length t - from) (drop from t) in
    let e : NumeralEnded s v i =
    elim c.loop-c-test.branch [
      | else-loop-c-test w ↦ numeral_end s v i w.loop-c-test.false
      | then-loop-c-test+in_default w ↦ numeral_stop s v i w.loop-c-test.true (sym w.in_default.ensures)
    ] in
    subst (λ s. NumeralAt s from c.map.result) (all_after t from)
    (numeral_read s v i from c.loop-c.next c.map.result c.loop-c.invariant.place c.loop-c.invariant.begun e (search rules))
